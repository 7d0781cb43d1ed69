-- Headings met before: the judge's search finds no fault exactly when the heading fits behind the earlier cells. The
-- judge's rule is looked at by what is wrong at a heading (`repeated-field`, rules_plain), the definition of a good
-- entry by the cells of its rows.
-- Assumes nothing.
use Prim.Native.Nat.{ℕ, suc, ◌+◌, ◌-◌, ◌*◌, ◌<◌, ◌≤◌}
use mathlib.Core.Path.{◌≡◌, refl, sym, ◌∙◌, ap}
use mathlib.Core.Bool.{Bool, true, false}
use mathlib.Core.Logic.{◌↔◌}
use mathlib.Core.List.{List, [], ◌∷◌, ◌++◌}
use native.Mathlib.Omega.{arith}
use lib.ListN.{length, get_or, take, length-append, get_or-append}
use lib.Seq.{get_or-take, get_or-append-add}
use Rattle.laws.specs.Walk.{All}
use Rattle.laws.specs.Blocks.{joined}
use Rattle.laws.proofs.Booleans.{differ}
use Rattle.laws.proofs.Search.{either}
use Rattle.paper_record.specs.Fields.{field_at, fields_of}
use Rattle.paper_record.proofs.ReadColumns.{field-of}
use Rattle.paper_record.specs.Word.{equal_to}
use Rattle.paper_record.specs.Same.{SameColumns}
use Rattle.paper_record.specs.Repeats.{may_repeat}
use Rattle.paper_record.specs.PlainRepeats.{MayRepeat}
use Rattle.paper_record.proofs.PlainRepeats.{repeat-exactly}
use Rattle.paper_record.proofs.PlainColumns.{equal-exactly}
use Rattle.paper_rules.specs.Repeats.{heading_repeated}
use Rattle.rules_plain.specs.Places.{cell, Long}
use Rattle.rules_plain.specs.Repeated.{RecordsBefore, LongHeadings, headings_on, table_so_far, SameIn, left_in}
use Rattle.rules_plain.specs.Repeated.{Repeated, elsewhere, not_listed, apart}
use Rattle.rules_plain.proofs.Exactly.{false-where}
use Rattle.rules_plain.proofs.HeadingLists.{headings-length, heading-of, left-length}
use Rattle.rules_plain.proofs.Rows.{cell-here, cell-there}
use Rattle.rules_plain.proofs.Somewhere.{at_some, some_at, some_left, some_right, some-none}
use Rattle.rules_plain.proofs.Repeated.{repeated-field}
use Rattle.good.specs.Parts.{Record}

-- ---- cells of rows one behind the other

pub cell-left : (xs ys : List Record) (x : ℕ) → x < length xs * 6 → cell (xs ++ ys) x ≡ cell xs x
cell-left [] ys x l = absurd (omega arith)
cell-left (r ∷ xs) ys x l =
    either x 6
    (λ a. cell-here r (xs ++ ys) x a ∙ sym (cell-here r xs x a))
    (λ a. cell-there r (xs ++ ys) x a ∙ cell-left xs ys (x - 6) (omega arith) ∙ sym (cell-there r xs x a))

cell-right : (xs ys : List Record) (x : ℕ) → length xs * 6 ≤ x → cell (xs ++ ys) x ≡ cell ys (x - length xs * 6)
cell-right [] ys x l = let e : x ≡ x - 0 * 6 = omega arith in ap (cell ys) e
cell-right (r ∷ xs) ys x l =
    let e : x - 6 - length xs * 6 ≡ x - suc (length xs) * 6 = omega arith in
    cell-there r (xs ++ ys) x (omega arith) ∙ cell-right xs ys (x - 6) (omega arith) ∙ ap (cell ys) e

-- ---- a heading that fits

-- the heading in the column m of its rows, behind the rows of the COMMON of 001 and of this subentry's: no cell of these
-- is equal; and if one to its left is equal, its word is in the list and the one beside it is equal
pub record Fits (d : Bool) (first common own : List Record) (m : ℕ) : Type 0 where
  pub in-first : (x : ℕ) → x < length first * 6 → SameColumns 11 (cell own m) (cell first x) → ⊥
  pub in-common : (x : ℕ) → x < length common * 6 → SameColumns 11 (cell own m) (cell common x) → ⊥
  pub listed : (x : ℕ) → x < m → SameColumns 11 (cell own m) (cell own x) → MayRepeat d (cell own m)
  pub beside : (x : ℕ) → x < m → SameColumns 11 (cell own m) (cell own x)
      → SameColumns 11 (cell own m) (cell own (m - 1))

-- it goes by the cells up to it
pub fits-same : (d : Bool) (first common own other : List Record) (m : ℕ)
    → ((x : ℕ) → x ≤ m → cell own x ≡ cell other x) → Fits d first common own m → Fits d first common other m
fits-same d first common own other m h f =
    let e : cell own m ≡ cell other m = h m (omega arith) in
    let z : cell own (m - 1) ≡ cell other (m - 1) = h (m - 1) (omega arith) in
    record {
      in-first = λ x l s. f.in-first x l (rw e s);
      in-common = λ x l s. f.in-common x l (rw e s);
      listed = λ x l s. rw e at (f.listed x l (rw (e, h x (omega arith)) s));
      beside = λ x l s. rw (e, z) at (f.beside x l (rw (e, h x (omega arith)) s));
    }

-- ---- the rule's test

-- what a test decides is so where it is not otherwise
decided : {P : Type 0} (t : Bool) → (t ≡ true) ↔ P → ((P → ⊥) → ⊥) → P
decided true h n = h.0 refl
decided false h n = absurd (n (λ p. differ (sym (h.1 p))))

same-cell : (f : List ℕ) (rows : List Record) (x : ℕ) → x < length rows * 6 → SameColumns 11 f (cell rows x)
    → SameIn f (headings_on rows)
same-cell f rows x l s =
    let n = headings-length rows in
    at_some (SameColumns 11 f) [] (headings_on rows) x (omega arith) (rw (heading-of rows x l) s)

cell_same : (f : List ℕ) (rows : List Record)
    → ((x : ℕ) → x < length rows * 6 → SameColumns 11 f (cell rows x) → ⊥) → SameIn f (headings_on rows) → ⊥
cell_same f rows h s =
    let n = headings-length rows in
    let (x, l, p) = some_at (SameColumns 11 f) [] (headings_on rows) s in
    let q : x < length rows * 6 = omega arith in
    h x q (rw (heading-of rows x q) at p)

module _ (d : Bool) (first common before : List Record) (r : Record) (k : ℕ) (a : All Long first)
    (b : All Long common) (c : All Long before) (few : k < 6) where
  abbrev parts : RecordsBefore
  parts = record { bib001 = []; bib = []; common001 = first; common = common; table = before }

  abbrev long : LongHeadings parts
  long = record { common001 = a; common = b; table = c }

  abbrev own : List Record
  own = before ++ (r ∷ [])

  abbrev at : ℕ
  at = length before * 6 + k

  abbrev f : List ℕ
  f = field_at r k

  abbrev so_far : List (List ℕ)
  so_far = table_so_far parts r k

  abbrev tested : Bool
  tested = heading_repeated d (joined first) (joined common) (joined before) r (fields_of r) k

  in-record : (x : ℕ) → x < 6 → cell own (length before * 6 + x) ≡ field_at r x
  in-record x l =
      let z : length before * 6 + x - length before * 6 ≡ x = omega arith in
      cell-right before (r ∷ []) (length before * 6 + x) (omega arith) ∙ ap (cell (r ∷ [])) z ∙ cell-here r [] x l

  so-far-length : length so_far ≡ at
  so-far-length =
      let m = left-length r k (omega arith) in
      let n = headings-length before in
      length-append (headings_on before) (take k (fields_of r)) ∙ omega arith

  so-far : (x : ℕ) → x < at → get_or so_far x [] ≡ cell own x
  so-far x l =
      let n = headings-length before in
      either x (length before * 6)
      (λ p.
      get_or-append (headings_on before) (take k (fields_of r)) [] x (omega arith) ∙ heading-of before x p
      ∙ sym (cell-left before (r ∷ []) x p))
      (λ p.
      let y = x - length before * 6 in
      let e : x ≡ length (headings_on before) + y = omega arith in
      let z : length before * 6 + y ≡ x = omega arith in
      ap (λ (w : ℕ). get_or so_far w []) e ∙ get_or-append-add (headings_on before) (take k (fields_of r)) y []
      ∙ get_or-take k (fields_of r) y [] (omega arith) ∙ field-of r y (omega arith)
      ∙ sym (in-record y (omega arith)) ∙ ap (cell own) z)

  here : cell own at ≡ f
  here = in-record k few

  left_here : 0 < at → left_in so_far ≡ cell own (at - 1)
  left_here l = rw so-far-length (so-far (at - 1) (omega arith))

  pub search-fits : tested ≡ false → Fits d first common own at
  search-fits e =
      let it = repeated-field d parts r k long few in
      let fine : Repeated d parts r k → ⊥ = λ w. differ (sym (it.1 w) ∙ e) in
      let n = so-far-length in
      let some : (x : ℕ) → x < at → SameColumns 11 (cell own at) (cell own x) → SameIn f so_far =
      λ x l s. at_some (SameColumns 11 f) [] so_far x (omega arith) (rw (so-far x l, ← here) s) in
      record {
        in-first = λ x l s.
            fine (elsewhere (some_left (headings_on first) (headings_on common) (same-cell f first x l (rw (← here) s))));
        in-common = λ x l s.
            fine
            (elsewhere (some_right (headings_on first) (headings_on common) (same-cell f common x l (rw (← here) s))));
        listed = λ x l s.
            rw here (decided (may_repeat d f) (repeat-exactly d f) (λ n. fine (not_listed (some x l s) n)));
        beside = λ x l s.
            rw (here, ← left_here (omega arith))
            (decided (equal_to 11 f (left_in so_far)) (equal-exactly 11 f (left_in so_far))
            (λ n. fine (apart (some x l s) n)));
      }

  pub fits-search : Fits d first common own at → tested ≡ false
  fits-search g = false-where tested (repeated-field d parts r k long few) wrong
    where
      so-far-same : SameIn f so_far → (x : ℕ) × (x < at) × SameColumns 11 (cell own at) (cell own x)
      so-far-same s =
          let (x, l, p) = some_at (SameColumns 11 f) [] so_far s in
          let n = so-far-length in
          let q : x < at = omega arith in
          (x, q, rw (here, ← so-far x q) p)

      wrong : Repeated d parts r k → ⊥
      wrong (elsewhere s) =
          some-none (headings_on first) (headings_on common)
          (cell_same f first (λ x l p. g.in-first x l (rw here p)))
          (cell_same f common (λ x l p. g.in-common x l (rw here p))) s
      wrong (not_listed s y) =
          let (x, l, p) = so-far-same s in y (rw here at (g.listed x l p))
      wrong (apart s y) =
          let (x, l, p) = so-far-same s in
          y (rw (left_here (omega arith), ← here) (g.beside x l p))
