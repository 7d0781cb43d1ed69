-- How the search for an equal heading ends: turn by turn, over the headings as lists. Assumes nothing.
use Prim.Native.Nat.{ℕ, ◌+◌, ◌-◌, ◌<◌, ◌≤◌}
use Rattle.std.specs.Prelude.{Option, Some, None}
use mathlib.Core.Path.{◌≡◌, refl, sym, ◌∙◌, ap, subst}
use mathlib.Core.Bool.{Bool, true, false, cond}
use mathlib.Core.List.{List, [], ◌++◌}
use native.Mathlib.Omega.{arith}
use lib.Dec.{ltb}
use lib.ListN.{length, get_or, take, get_or-append, length-append}
use lib.Seq.{get_or-append-add}
use borrow.Author.Tests.{ltb-true, ltb-false}
use Rattle.laws.specs.Turns.{Turn, go, out, after, run}
use Rattle.laws.specs.Walk.{All}
use Rattle.laws.specs.Blocks.{joined}
use Rattle.laws.proofs.Search.{either}
use Rattle.laws.proofs.Counting.{first-before, first_holds}
use Rattle.paper_record.specs.Fields.{fields_of}
use Rattle.paper_record.specs.Word.{equal_to}
use Rattle.paper_rules.specs.Record.{Record}
use Rattle.paper_rules.specs.declared.types.HeadingPlace.{HeadingPlace}
use Rattle.paper_rules.specs.Earlier.{place_at, heading_at, headings_in, equal_at, equal_in, equal_heading, section_turn, nowhere}
use Rattle.rules_plain.specs.Places.{Long}
use Rattle.rules_plain.specs.Repeated.{RecordsBefore, LongHeadings, headings_on, table_so_far}
use Rattle.rules_plain.specs.Found.{searched}
use Rattle.rules_plain.proofs.Rows.{headings-in}
use Rattle.rules_plain.proofs.HeadingLists.{headings-length, heading-bytes, left-length, left-bytes}

-- ---- in one list

-- none of the first m headings of the list is equal to f
abbrev pub NoneIn : List ℕ → List (List ℕ) → ℕ → Type 0
NoneIn f xs m = (j : ℕ) → j < m → equal_to 11 f (get_or xs j []) ≡ false

-- the heading with the index m is the first that is equal to f
pub record FirstIn (f : List ℕ) (xs : List (List ℕ)) (m : ℕ) : Type 0 where
  pub there : m < length xs
  pub equal : equal_to 11 f (get_or xs m []) ≡ true
  pub none : NoneIn f xs m

-- of one list before another
none-front : (f : List ℕ) (xs ys : List (List ℕ)) (m : ℕ) → m ≤ length xs → NoneIn f xs m → NoneIn f (xs ++ ys) m
none-front f xs ys m l h j q =
    ap (equal_to 11 f) (get_or-append xs ys [] j (omega arith)) ∙ h j q

none_both : (f : List ℕ) (xs ys : List (List ℕ)) (m : ℕ) → NoneIn f xs (length xs) → NoneIn f ys m
    → NoneIn f (xs ++ ys) (length xs + m)
none_both f xs ys m h k j q =
    either j (length xs)
    (λ l. none-front f xs ys (length xs) (omega arith) h j l)
    (λ l.
    let e : j ≡ length xs + (j - length xs) = omega arith in
    ap (λ (x : ℕ). equal_to 11 f (get_or (xs ++ ys) x [])) e
    ∙ ap (equal_to 11 f) (get_or-append-add xs ys (j - length xs) []) ∙ k (j - length xs) (omega arith))

first-front : (f : List ℕ) (xs ys : List (List ℕ)) (m : ℕ) → FirstIn f xs m → FirstIn f (xs ++ ys) m
first-front f xs ys m h =
    let l = h.there in
    record {
      there = rw length-append (omega arith);
      equal = ap (equal_to 11 f) (get_or-append xs ys [] m l) ∙ h.equal;
      none = none-front f xs ys m (omega arith) h.none;
    }

first_back : (f : List ℕ) (xs ys : List (List ℕ)) (m : ℕ) → NoneIn f xs (length xs) → FirstIn f ys m
    → FirstIn f (xs ++ ys) (length xs + m)
first_back f xs ys m n h =
    let l = h.there in
    record {
      there = rw length-append (omega arith);
      equal = ap (equal_to 11 f) (get_or-append-add xs ys m []) ∙ h.equal;
      none = none_both f xs ys m n h.none;
    }

-- ---- in one part: the n headings of the part are the list

module _ (f part : List ℕ) (xs : List (List ℕ)) (n : ℕ) (long : length xs ≡ n)
    (same : (m : ℕ) → m < n → heading_at part m ≡ get_or xs m []) where
  in_list : (m : ℕ) → m < n → equal_to 11 f (get_or xs m []) ≡ equal_at f part m
  in_list m l = ap (equal_to 11 f) (sym (same m l))

  part-first : ltb (equal_in f part n) n ≡ true → FirstIn f xs (equal_in f part n)
  part-first e =
      let m = equal_in f part n in
      let l : m < n = ltb-true m n e in
      record {
        there = omega arith;
        equal = in_list m l ∙ first_holds (equal_at f part) 0 n (omega arith);
        none = λ j q.
            in_list j (omega arith) ∙ first-before (equal_at f part) 0 n j (omega arith) (omega arith) (omega arith);
      }

  part_none : ltb (equal_in f part n) n ≡ false → NoneIn f xs (length xs)
  part_none e j q =
      let l = ltb-false (equal_in f part n) n e in
      in_list j (omega arith) ∙ first-before (equal_at f part) 0 n j (omega arith) (omega arith) (omega arith)

-- ---- through all parts

-- the section and the column, both numbered from 1, of the first equal heading, or nothing
pub data SearchEnd (f : List ℕ) (xs ys zs : List (List ℕ)) : Option HeadingPlace → Type 0 where
  in-first : (m : ℕ) → FirstIn f xs m → SearchEnd f xs ys zs (Some (place_at 1 (m + 1)))
  in-second : NoneIn f xs (length xs) → (m : ℕ) → FirstIn f ys m → SearchEnd f xs ys zs (Some (place_at 2 (m + 1)))
  in-third : NoneIn f xs (length xs) → NoneIn f ys (length ys) → (m : ℕ) → FirstIn f zs m
      → SearchEnd f xs ys zs (Some (place_at 3 (m + 1)))
  in-none : NoneIn f xs (length xs) → NoneIn f ys (length ys) → NoneIn f zs (length zs) → SearchEnd f xs ys zs None

-- a turn ends the search, or goes on
turn-either : (P : Option HeadingPlace → Type 0) (b : Bool) (x : Option HeadingPlace) (rest : Unit {0} → Option HeadingPlace) → (b ≡ true → P x)
    → (b ≡ false → P (rest tt)) → P (after (cond b (out x) (go tt)) rest)
turn-either P true x rest p q = p refl
turn-either P false x rest p q = q refl

module _ (f : List ℕ) (b : RecordsBefore) (r : Record) (k : ℕ) (long : LongHeadings b) (few : k ≤ 6) where
  abbrev End : Option HeadingPlace → Type 0
  End found = SearchEnd f (headings_on b.common001) (headings_on b.common) (table_so_far b r k) found

  -- one list of records, and the record in hand
  rows-first : (rows : List Record) → All Long rows
      → ltb (equal_in f (joined rows) (headings_in (joined rows))) (headings_in (joined rows)) ≡ true
      → FirstIn f (headings_on rows) (equal_in f (joined rows) (headings_in (joined rows)))
  rows-first rows a e =
      let n = headings-in rows a in
      part-first f (joined rows) (headings_on rows) (headings_in (joined rows)) (headings-length rows ∙ sym n)
      (λ m l. heading-bytes rows m a (omega arith)) e

  rows_none : (rows : List Record) → All Long rows
      → ltb (equal_in f (joined rows) (headings_in (joined rows))) (headings_in (joined rows)) ≡ false
      → NoneIn f (headings_on rows) (length (headings_on rows))
  rows_none rows a e =
      let n = headings-in rows a in
      part_none f (joined rows) (headings_on rows) (headings_in (joined rows)) (headings-length rows ∙ sym n)
      (λ m l. heading-bytes rows m a (omega arith)) e

  left-first : ltb (equal_in f r k) k ≡ true → FirstIn f (take k (fields_of r)) (equal_in f r k)
  left-first e = part-first f r (take k (fields_of r)) k (left-length r k few) (λ m l. left-bytes r k m few l) e

  left-none : ltb (equal_in f r k) k ≡ false → NoneIn f (take k (fields_of r)) (length (take k (fields_of r)))
  left-none e = part_none f r (take k (fields_of r)) k (left-length r k few) (λ m l. left-bytes r k m few l) e

  -- behind the table's records the headings to the left are numbered on
  numbered : (m : ℕ) → End (Some (place_at 3 (length (headings_on b.table) + m + 1)))
      → End (Some (place_at 3 (headings_in (joined b.table) + (m + 1))))
  numbered m h =
      let n = headings-in b.table long.table in
      let l = headings-length b.table in
      let e : length (headings_on b.table) + m + 1 ≡ headings_in (joined b.table) + (m + 1) = omega arith in
      subst (λ (x : ℕ). End (Some (place_at 3 x))) e h

  none_at_all : NoneIn f (headings_on b.table) (length (headings_on b.table))
      → NoneIn f (take k (fields_of r)) (length (take k (fields_of r)))
      → NoneIn f (table_so_far b r k) (length (table_so_far b r k))
  none_at_all h g =
      rw length-append
      (none_both f (headings_on b.table) (take k (fields_of r)) (length (take k (fields_of r))) h g)

  pub search-end : End (equal_heading f (searched b r k))
  unfolding equal_heading run
  search-end =
      let e = searched b r k in
      let first = joined b.common001 in
      let common = joined b.common in
      let table = joined b.table in
      let t : ℕ → Unit {0} → Turn (Unit {0}) (Option HeadingPlace) = λ s u. section_turn f e u s in
      turn-either End (ltb (equal_in f first (headings_in first)) (headings_in first)) _
      (λ u. after (t 1 u) (λ u. after (t 2 u) (λ u. after (t 3 u) nowhere)))
      (λ p. in-first _ (rows-first b.common001 long.common001 p))
      (λ p. let n0 = rows_none b.common001 long.common001 p in
      turn-either End (ltb (equal_in f common (headings_in common)) (headings_in common)) _
      (λ u. after (t 2 u) (λ u. after (t 3 u) nowhere))
      (λ p. in-second n0 _ (rows-first b.common long.common p))
      (λ p. let n1 = rows_none b.common long.common p in
      turn-either End (ltb (equal_in f table (headings_in table)) (headings_in table)) _
      (λ u. after (t 3 u) nowhere)
      (λ p. in-third n0 n1 _
      (first-front f (headings_on b.table) (take k (fields_of r)) _ (rows-first b.table long.table p)))
      (λ p. let n2 = rows_none b.table long.table p in
      turn-either End (ltb (equal_in f r k) k) _ nowhere
      (λ p. numbered (equal_in f r k)
      (in-third n0 n1 _ (first_back f (headings_on b.table) (take k (fields_of r)) (equal_in f r k) n2 (left-first p))))
      (λ p. in-none n0 n1 (none_at_all n2 (left-none p))))))
