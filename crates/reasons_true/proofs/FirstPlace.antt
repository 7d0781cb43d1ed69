-- The first equal heading of the search is the first by section, record and field.
-- Assumes nothing.
use Prim.Native.Nat.{ℕ, zero, suc, ◌+◌, ◌*◌, ◌-◌, ◌/◌, ◌%◌, ◌≤◌, ◌<◌}
use mathlib.Core.Path.{◌≡◌, sym, ◌∙◌, ap, subst}
use mathlib.Core.List.{List, []}
use mathlib.Core.Logic.{inl, inr}
use native.Mathlib.Omega.{arith}
use lib.ListN.{length, get_or}
use lib.Seq.{ext_get_or}
use Rattle.laws.specs.Blocks.{block_at}
use Rattle.laws.proofs.Search.{either}
use Rattle.paper_record.specs.Fields.{field_at}
use Rattle.paper_record.specs.Same.{SameColumns}
use Rattle.paper_rules.specs.declared.types.Ranges.{Ranges}
use Rattle.paper_reasons.specs.Ranges.{ranges_at}
use Rattle.paper_reasons.specs.Reason.{heading_records}
use Rattle.rules_plain.specs.Found.{EqualAt, Sooner, FirstEqual}
use Rattle.reasons_true.specs.Equal.{Searched, in_records, to_the_left, Before, FirstPlace}
use Rattle.reasons_true.proofs.Long.{columns-long, block-long}
use Rattle.reasons_true.proofs.Ranged.{headings-placed}
use Rattle.reasons_true.proofs.RangeRows.{size_of}
use Rattle.reasons_true.proofs.Sections.{headings_before, in_section, field_of, section-count, section-at}

-- two fields with the same eleven columns
same-field : (a b : List ℕ) → length a ≡ 11 → length b ≡ 11 → SameColumns 11 a b → a ≡ b
same-field a b p q h = ext_get_or 0 a b (p ∙ sym q) (λ x l. h x (omega arith))

-- a heading that is searched does not stand behind the record
pub not_behind : (s : List ℕ) (i k section j f : ℕ) → i * 81 ≤ length s → Searched s i k section j f → j ≤ i
not_behind s i k x y z h (in_records section j f a b from past c) =
    let o = (headings-placed s i h section a b).below in omega arith
not_behind s i k x y z h (to_the_left f l) = omega arith

module _ (s : List ℕ) (i k : ℕ) (there : (i + 1) * 81 ≤ length s) (few : k < 6)
    (reaches : (ranges_at s i).table.past.0 ≡ i) where
  abbrev g : Ranges
  g = ranges_at s i

  abbrev heading : List ℕ
  heading = field_at (block_at 81 s i) k

  field-long : (j f : ℕ) → j ≤ i → f < 6 → length (field_at (block_at 81 s j) f) ≡ 11
  field-long j f l h =
      let n = block-long s j (omega arith) in columns-long (f * 11) 11 (block_at 81 s j) (omega arith)

  -- ---- a heading that is searched, by its column in the section, counted from 0

  record Column (section j f : ℕ) : Type 0 where
    index : ℕ
    from : 1 ≤ section
    to : section ≤ 3
    below : index < length (in_section s i k section)
    at : (heading_records g section).from.0 + index / 6 ≡ j
    field : index % 6 ≡ f

  column-of : (section j f : ℕ) → Searched s i k section j f → Column section j f
  column-of x y z (in_records section j f a b from past c) =
      let n = section-count s i k there few reaches section a b in
      record {
        index = (j - (heading_records g section).from.0) * 6 + f;
        from = a;
        to = b;
        below = omega arith;
        at = omega arith;
        field = omega arith;
      }
  column-of x y z (to_the_left f l) =
      let n = section-count s i k there few reaches 3 (omega arith) (omega arith) in
      let o = (headings-placed s i (omega arith) 3 (omega arith) (omega arith)).ordered in
      record {
        index = size_of g.table * 6 + f;
        from = omega arith;
        to = omega arith;
        below = omega arith;
        at = omega arith;
        field = omega arith;
      }

  -- and the other way round
  abbrev At : ℕ → ℕ → Type 0
  At section m = Searched s i k section ((heading_records g section).from.0 + m / 6) (m % 6)

  in_rows : (section m : ℕ) → 1 ≤ section → section ≤ 3 → m < size_of (heading_records g section) * 6 → At section m
  in_rows section m a b l =
      in_records section ((heading_records g section).from.0 + m / 6) (m % 6) a b (omega arith) (omega arith)
      (omega arith)

  in-hand : (m : ℕ) → size_of g.table * 6 ≤ m → m < size_of g.table * 6 + k → At 3 m
  in-hand m l h =
      let o = (headings-placed s i (omega arith) 3 (omega arith) (omega arith)).ordered in
      let x : i ≡ g.table.from.0 + m / 6 = omega arith in
      let y : m - size_of g.table * 6 ≡ m % 6 = omega arith in
      subst (λ (z : ℕ). Searched s i k 3 z (m % 6)) x
      (subst (λ (z : ℕ). Searched s i k 3 i z) y (to_the_left (m - size_of g.table * 6) (omega arith)))

  searched-at : (section m : ℕ) → 1 ≤ section → section ≤ 3 → m < length (in_section s i k section) → At section m
  searched-at zero m a b l = absurd (omega arith)
  searched-at (suc zero) m a b l =
      let n = section-count s i k there few reaches 1 a b in in_rows 1 m a b (omega arith)
  searched-at (suc (suc zero)) m a b l =
      let n = section-count s i k there few reaches 2 a b in in_rows 2 m a b (omega arith)
  searched-at (suc (suc (suc zero))) m a b l =
      let n = section-count s i k there few reaches 3 a b in
      either m (size_of g.table * 6) (λ h. in_rows 3 m a b h) (λ h. in-hand m h (omega arith))
  searched-at (suc (suc (suc (suc section)))) m a b l = absurd (omega arith)

  -- ---- what the search has found

  module _ (section c : ℕ) (h : FirstEqual heading (headings_before s i) (block_at 81 s i) k section c) where
    abbrev m : ℕ
    m = c - 1

    below : m < length (in_section s i k section)
    below =
        let a = h.equal.column_from in
        let b = h.equal.column_to in
        omega arith

    equal-there : field_of s i section m ≡ heading
    equal-there =
        let a = h.equal.section_from in
        let b = h.equal.section_to in
        let e = section-at s i k there few reaches section m a b below in
        let l = not_behind s i k section _ _ (omega arith) (searched-at section m a b below) in
        sym (same-field heading (field_of s i section m) (field-long i k (omega arith) few)
        (field-long _ (m % 6) l (omega arith))
        (λ x l. h.equal.same x l ∙ ap (λ (y : List ℕ). get_or y x 0) e))

    -- an equal heading that is searched, as the search says it
    equal_as : (q j f : ℕ) (w : Column q j f) → field_at (block_at 81 s j) f ≡ heading
        → EqualAt heading (headings_before s i) (block_at 81 s i) k q (w.index + 1)
    equal_as q j f w e =
        let n = w.below in
        let z : w.index ≡ w.index + 1 - 1 = omega arith in
        let same : heading ≡ get_or (in_section s i k q) (w.index + 1 - 1) [] =
        sym e ∙ ap (λ (x : ℕ). field_at (block_at 81 s x) f) (sym w.at)
        ∙ ap (λ (x : ℕ). field_at (block_at 81 s ((heading_records g q).from.0 + w.index / 6)) x) (sym w.field)
        ∙ sym (section-at s i k there few reaches q w.index w.from w.to n)
        ∙ ap (λ (x : ℕ). get_or (in_section s i k q) x []) z in
        record {
          section_from = w.from;
          section_to = w.to;
          column_from = omega arith;
          column_to = omega arith;
          same = λ x l. ap (λ (y : List ℕ). get_or y x 0) same;
        }

    sooner : (q j f : ℕ) (w : Column q j f)
        → Before q j f section ((heading_records g section).from.0 + m / 6) (m % 6)
        → Sooner q (w.index + 1) section c
    sooner q j f w (inl l) = inl l
    sooner q j f w (inr (e, inl l)) =
        let d = ap (λ (x : ℕ). (heading_records g x).from.0) e in
        let a = w.at in
        inr (e, omega arith)
    sooner q j f w (inr (e, inr (y, l))) =
        let d = ap (λ (x : ℕ). (heading_records g x).from.0) e in
        let a = w.at in
        let b = w.field in
        inr (e, omega arith)

    pub first-place : FirstPlace s i k ((heading_records g section).from.0 + (c - 1) / 6) ((c - 1) % 6)
    first-place =
        record {
          section = section;
          searched = searched-at section m h.equal.section_from h.equal.section_to below;
          same = equal-there;
          first = λ q j f w before e.
              let x = column-of q j f w in
              h.first q (x.index + 1) (sooner q j f x before) (equal_as q j f x e);
        }
