-- The rules 13 and 14 find exactly the headings that are repeated, and those whose pointer is lost.
-- Assumes nothing.
use Prim.Native.Nat.{ℕ, zero, suc, ◌+◌, ◌-◌, ◌<◌, ◌≤◌}
use Rattle.std.specs.Prelude.{Option}
use mathlib.Core.Path.{◌≡◌, refl, sym, ◌∙◌, ap}
use mathlib.Core.Bool.{Bool, true, false, cond, not, ◌&&◌}
use mathlib.Core.List.{List, [], ◌++◌, append-nil}
use mathlib.Core.Logic.{◌↔◌}
use native.Mathlib.Omega.{arith}
use lib.Dec.{eqb}
use lib.ListN.{length, get_or, take, replicate, length-append}
use lib.Seq.{get_or-append-add, get_or-take}
use borrow.Author.Tests.{eqb-true, eq-eqb, ne_eqb}
use Rattle.laws.specs.Blocks.{joined}
use Rattle.laws.specs.Members.{any_of}
use Rattle.laws.specs.Walk.{All}
use Rattle.laws.proofs.Booleans.{differ, and_left, and_right, and_none}
use Rattle.paper_record.specs.Fields.{field_at, fields_of}
use Rattle.paper_record.specs.Text.{is_blank}
use Rattle.paper_record.proofs.ReadColumns.{field-of}
use Rattle.paper_record.specs.Word.{equal_to, pointer_of}
use Rattle.paper_record.specs.Same.{SameColumns}
use Rattle.paper_record.specs.Repeats.{may_repeat}
use Rattle.paper_record.proofs.PlainRepeats.{repeat-exactly}
use Rattle.paper_record.proofs.PlainColumns.{equal-exactly}
use Rattle.paper_rules.specs.declared.types.Track.{Track}
use Rattle.paper_rules.specs.State.{Seen, used}
use Rattle.paper_rules.specs.Record.{Record, field_column}
use Rattle.paper_rules.proofs.FewUsed.{used-few}
use Rattle.paper_rules.specs.declared.types.HeadingPlace.{HeadingPlace}
use Rattle.paper_rules.specs.Roles.{DATA-HEADING}
use Rattle.paper_rules.specs.Earlier.{heading_at, headings_in, equal_heading}
use Rattle.paper_rules.specs.Repeats.{left_of, clash, heading_repeated}
use Rattle.paper_rules.specs.Headings.{rule13}
use Rattle.paper_rules.specs.Pointers.{pointers_for, pointer_lost, lost_at, rule14}
use Rattle.rules_plain.specs.Places.{Some, Long}
use Rattle.rules_plain.specs.Repeated.{RecordsBefore, LongHeadings, SeenBefore, headings_on, table_so_far}
use Rattle.rules_plain.specs.Repeated.{SameIn, left_in, Repeated, elsewhere, not_listed, apart, pointers_met, Lost}
use Rattle.rules_plain.specs.Repeated.{FirstOf, Finds}
use Rattle.rules_plain.specs.Repeated.{RepeatedExactly, LostExactly}
use Rattle.rules_plain.specs.Found.{searched}
use Rattle.rules_plain.proofs.Exactly.{false-where}
use Rattle.rules_plain.proofs.Lists.{pointers-joined}
use Rattle.rules_plain.proofs.HeadingLists.{headings-length, heading-bytes, left-length, pointers-on}
use Rattle.rules_plain.proofs.Rows.{headings-in}
use Rattle.rules_plain.proofs.Somewhere.{at_some, some_at, some_left, some_right, some-none, any-exactly}
use Rattle.rules_plain.proofs.Somewhere.{PlaceOf, columns-place, place-columns}
use Rattle.rules_plain.proofs.SearchEnd.{NoneIn, FirstIn, SearchEnd, in-first, in-second, in-third, in-none}
use Rattle.rules_plain.proofs.SearchEnd.{search-end}

-- ---- a test on the used fields, and what it means

module _ (t : Track) (test : ℕ → Bool) (P : ℕ → Type 0) (agree : (k : ℕ) → k < 6 → (test k ≡ true) ↔ P k) where
  pub place-field : (c : ℕ) → PlaceOf test field_column 0 (used t) c → FirstOf t P c
  place-field c p =
      let n = used-few t in
      let l = p.to in
      record {
        field = p.place;
        is_used = omega arith;
        holds = (agree p.place (omega arith)).0 p.met;
        first = p.same;
      }

  pub field-place : (c : ℕ) → FirstOf t P c → PlaceOf test field_column 0 (used t) c
  field-place c p =
      let n = used-few t in
      let l = p.is_used in
      record {
        place = p.field;
        from = omega arith;
        to = omega arith;
        met = (agree p.field (omega arith)).1 p.holds;
        same = p.first;
      }

-- ---- the heading to the left, where there is one

left_in_lem : (b : RecordsBefore) (r : Record) (k : ℕ) → LongHeadings b → k ≤ 6 → 0 < length (table_so_far b r k)
    → left_of (joined b.table) (fields_of r) k ≡ left_in (table_so_far b r k)
unfolding left_of
left_in_lem b r zero long few some = in_table b.table long.table some
  where
    in_table : (rows : List Record) → All Long rows → 0 < length (headings_on rows ++ [])
        → cond (eqb (headings_in (joined rows)) 0) (replicate 11 32)
        (heading_at (joined rows) (headings_in (joined rows) - 1))
        ≡ left_in (headings_on rows ++ [])
    in_table rows a l =
        let m : 0 < length (headings_on rows) = rw append-nil at l in
        let n : length (headings_on rows) ≡ headings_in (joined rows) = headings-length rows ∙ sym (headings-in rows a) in
        let h = headings-in rows a in
        let left : heading_at (joined rows) (headings_in (joined rows) - 1)
        ≡ get_or (headings_on rows) (length (headings_on rows) - 1) [] =
        rw n (heading-bytes rows (headings_in (joined rows) - 1) a (omega arith)) in
        rw (append-nil, ne_eqb (headings_in (joined rows)) 0 (λ z. omega arith)) left
left_in_lem b r (suc k) long few some =
    let xs = headings_on b.table in
    let n = left-length r (suc k) few in
    let z : suc k - 1 ≡ k = omega arith in
    let m : length (table_so_far b r (suc k)) - 1 ≡ length xs + k = rw length-append (omega arith) in
    rw (ne_eqb (suc k) 0 (λ e. omega arith), z, m)
    (sym (get_or-append-add xs (take (suc k) (fields_of r)) k [] ∙ get_or-take (suc k) (fields_of r) k [] (omega arith)))

-- ---- 13

first_some : (f : List ℕ) (xs : List (List ℕ)) (m : ℕ) → FirstIn f xs m → SameIn f xs
first_some f xs m h =
    at_some (SameColumns 11 f) [] xs m h.there ((equal-exactly 11 f (get_or xs m [])).0 h.equal)

none-some : (f : List ℕ) (xs : List (List ℕ)) → NoneIn f xs (length xs) → SameIn f xs → ⊥
none-some f xs h s =
    let (m, l, p) = some_at (SameColumns 11 f) [] xs s in
    differ (sym ((equal-exactly 11 f (get_or xs m [])).1 p) ∙ h m l)

module _ (in_data : Bool) (b : RecordsBefore) (r : Record) (k : ℕ) where
  abbrev f : List ℕ
  f = field_at r k

  abbrev Ended : Option HeadingPlace → Type 0
  Ended found = SearchEnd f (headings_on b.common001) (headings_on b.common) (table_so_far b r k) found

  -- the test on the place that was found, where `left` is the heading to the left
  abbrev Left : List ℕ → Type 0
  Left left = 0 < length (table_so_far b r k) → left ≡ left_in (table_so_far b r k)

  there : (m : ℕ) → FirstIn f (table_so_far b r k) m → 0 < length (table_so_far b r k)
  there m h = let l = h.there in omega arith

  clash-said : (found : Option HeadingPlace) (left : List ℕ) → Left left → Ended found → clash in_data found f left ≡ true
      → Repeated in_data b r k
  unfolding clash
  clash-said found left l (in-first m h) e =
      elsewhere (some_left (headings_on b.common001) (headings_on b.common) (first_some f _ m h))
  clash-said found left l (in-second n m h) e =
      elsewhere (some_right (headings_on b.common001) (headings_on b.common) (first_some f _ m h))
  clash-said found left l (in-third n p m h) e = by_tests (may_repeat in_data f) (equal_to 11 f left) refl refl e
    where
      by_tests : (x y : Bool) → may_repeat in_data f ≡ x → equal_to 11 f left ≡ y → not (x && y) ≡ true
          → Repeated in_data b r k
      by_tests false y p q e =
          not_listed (first_some f _ m h) (λ a. differ (sym ((repeat-exactly in_data f).1 a) ∙ p))
      by_tests true false p q e =
          apart (first_some f _ m h)
          (λ a.
          differ (sym ((equal-exactly 11 f left).1 (rw (l (there m h)) a)) ∙ q))
      by_tests true true p q e = differ (sym e)
  clash-said found left l (in-none n p q) e = differ (sym e)

  said-clash : (found : Option HeadingPlace) (left : List ℕ) → Left left → Ended found → Repeated in_data b r k
      → clash in_data found f left ≡ true
  unfolding clash
  said-clash found left l (in-first m h) w = refl
  said-clash found left l (in-second n m h) w = refl
  said-clash found left l (in-third n p m h) (elsewhere s) =
      absurd
      (some-none (headings_on b.common001) (headings_on b.common) (none-some f _ n) (none-some f _ p) s)
  said-clash found left l (in-third n p m h) (not_listed s x) =
      rw (false-where (may_repeat in_data f) (repeat-exactly in_data f) x)
  said-clash found left l (in-third n p m h) (apart s x) =
      let e : equal_to 11 f left ≡ false =
      false-where (equal_to 11 f left) (equal-exactly 11 f left) (λ a. x (rw (l (there m h)) at a)) in
      rw (e, and_none (may_repeat in_data f) false refl)
  said-clash found left l (in-none n p q) (elsewhere s) =
      absurd
      (some-none (headings_on b.common001) (headings_on b.common) (none-some f _ n) (none-some f _ p) s)
  said-clash found left l (in-none n p q) (not_listed s x) = absurd (none-some f _ q s)
  said-clash found left l (in-none n p q) (apart s x) = absurd (none-some f _ q s)

  -- the rule's test, over the bytes of the earlier records
  pub repeated-field : LongHeadings b → k < 6
      → (heading_repeated in_data (joined b.common001) (joined b.common) (joined b.table) r (fields_of r) k
      ≡ true)
      ↔ Repeated in_data b r k
  repeated-field long l =
      let o = search-end f b r k long (omega arith) in
      let left = left_of (joined b.table) (fields_of r) k in
      let w : Left left = left_in_lem b r k long (omega arith) in
      rw (field-of r k l)
      (clash-said (equal_heading f (searched b r k)) left w o, said-clash (equal_heading f (searched b r k)) left w o)

module _ (s : Seen) (t : Track) (role : ℕ) (b : RecordsBefore) (r : Record) (seen : SeenBefore s b) where
  abbrev repeated_at : ℕ → Bool
  repeated_at k = heading_repeated (eqb role DATA-HEADING) s.common001 s.common s.table r (fields_of r) k

  abbrev RepeatedIn : ℕ → Type 0
  RepeatedIn k = Repeated (eqb role DATA-HEADING) b r k

  by_field : (k : ℕ) → k < 6 → (repeated_at k ≡ true) ↔ RepeatedIn k
  by_field k l =
      rw (seen.common001, seen.common, seen.table)
      (repeated-field (eqb role DATA-HEADING) b r k seen.long l)

  repeated-finds : Finds (rule13 s t role (fields_of r) r) t RepeatedIn
  unfolding rule13
  repeated-finds c = (
    λ h. place-field t repeated_at RepeatedIn by_field c (columns-place repeated_at field_column c 0 (used t) h),
    λ h. place-columns repeated_at field_column c 0 (used t) (field-place t repeated_at RepeatedIn by_field c h),
  )

-- ---- 14

module _ (s : Seen) (t : Track) (b : RecordsBefore) (r : Record) (seen : SeenBefore s b) where
  pointers-as : pointers_for s.bib s.bib001 s.common s.common001 ≡ pointers_met b
  unfolding pointers_for
  pointers-as =
      rw (
        seen.bib,
        seen.bib001,
        seen.common,
        seen.common001,
        pointers-joined b.bib seen.long_bib,
        pointers-joined b.bib001 seen.long_bib001,
        pointers-on b.common seen.long.common,
        pointers-on b.common001 seen.long.common001,
      ) refl

  abbrev lost_here : ℕ → Bool
  lost_here k = lost_at (pointers_for s.bib s.bib001 s.common s.common001) (fields_of r) k

  met-exactly : (p : ℕ) (ps : List ℕ) → (any_of (eqb p) ps ≡ true) ↔ Some (λ q. p ≡ q) ps
  met-exactly p ps = any-exactly (eqb p) (λ q. p ≡ q) (λ q. (eqb-true p q, eq-eqb p q)) ps

  lost-said : (f : List ℕ) → pointer_lost (pointers_met b) f ≡ true → Lost b f
  lost-said f h =
      let p = pointer_of f in
      let ps = pointers_met b in
      record {
        pointer = λ e.
            let z = and_left (not (is_blank p)) (not (any_of (eqb p) ps)) h in
            differ (sym z ∙ ap not (eq-eqb p 32 e));
        nowhere = λ e.
            let z = and_right (not (is_blank p)) (not (any_of (eqb p) ps)) h in
            differ (sym z ∙ ap not ((met-exactly p ps).1 e));
      }

  said-lost : (f : List ℕ) → Lost b f → pointer_lost (pointers_met b) f ≡ true
  said-lost f h =
      let p = pointer_of f in
      let ps = pointers_met b in
      let e : is_blank p ≡ false = ne_eqb p 32 h.pointer in
      rw e (by-test (any_of (eqb p) ps) (λ q. h.nowhere ((met-exactly p ps).0 q)))
    where
      by-test : (x : Bool) → (x ≡ true → ⊥) → not x ≡ true
      by-test true n = absurd (n refl)
      by-test false n = refl

  abbrev LostIn : ℕ → Type 0
  LostIn k = Lost b (field_at r k)

  lost-field : (k : ℕ) → k < 6 → (lost_here k ≡ true) ↔ LostIn k
  lost-field k l =
      let e : lost_here k ≡ pointer_lost (pointers_met b) (field_at r k) = rw (field-of r k l, pointers-as) in
      (λ h. lost-said (field_at r k) (sym e ∙ h), λ h. e ∙ said-lost (field_at r k) h)

  lost-finds : Finds (rule14 s t (fields_of r)) t LostIn
  unfolding rule14
  lost-finds c = (
    λ h. place-field t lost_here LostIn lost-field c (columns-place lost_here field_column c 0 (used t) h),
    λ h. place-columns lost_here field_column c 0 (used t) (field-place t lost_here LostIn lost-field c h),
  )

pub repeated-exactly : RepeatedExactly
repeated-exactly s t role b r seen = repeated-finds s t role b r seen

pub lost-exactly : LostExactly
lost-exactly s t b r seen = lost-finds s t b r seen
