-- The headings that are searched for a heading of the record with the index i: a column of a section is the field of a
-- record of the entry.
-- Assumes nothing.
use Prim.Native.Nat.{ℕ, zero, suc, ◌+◌, ◌*◌, ◌-◌, ◌/◌, ◌%◌, ◌≤◌, ◌<◌}
use mathlib.Core.Path.{◌≡◌, sym, ◌∙◌, ap}
use mathlib.Core.Bool.{cond}
use mathlib.Core.List.{List, [], ◌++◌}
use native.Mathlib.Omega.{arith}
use lib.Dec.{eqb}
use lib.ListN.{length, take, get_or, length-append, get_or-append}
use lib.Seq.{get_or-take, get_or-append-add}
use Rattle.laws.specs.Blocks.{block_at, joined}
use Rattle.laws.proofs.Search.{either}
use Rattle.paper_record.specs.Fields.{fields_of, field_at}
use Rattle.paper_record.proofs.ReadColumns.{field-of}
use Rattle.paper_rules.specs.declared.types.Range.{Range}
use Rattle.paper_rules.specs.declared.types.Ranges.{Ranges}
use Rattle.paper_rules.specs.State.{Seen}
use Rattle.paper_rules.specs.Parts.{bytes_of}
use Rattle.paper_rules.specs.Ranging.{Placed}
use Rattle.paper_rules.specs.Earlier.{earlier}
use Rattle.paper_entry.specs.Contexts.{context_at}
use Rattle.paper_reasons.specs.Ranges.{ranges_at}
use Rattle.paper_reasons.specs.Reason.{heading_records}
use Rattle.rules_plain.specs.Repeated.{RecordsBefore, LongHeadings, headings_on, table_so_far}
use Rattle.rules_plain.specs.Found.{headings_of_section, searched}
use Rattle.rules_plain.proofs.HeadingLists.{left-length}
use Rattle.reasons_true.proofs.Ranged.{Ranged, ranged}
use Rattle.reasons_true.proofs.RangeRows.{size_of, rows_of, rows-bytes, rows_long, headings-count, heading-there}

-- the heading records of the three sections; no text record is searched
abbrev pub headings_before : List ℕ → ℕ → RecordsBefore
headings_before s i =
    record {
      bib001 = [];
      bib = [];
      common001 = rows_of s i (ranges_at s i).common001;
      common = rows_of s i (ranges_at s i).common;
      table = rows_of s i (ranges_at s i).table;
    }

-- the headings of a section, up to the field k of the record with the index i
abbrev pub in_section : List ℕ → ℕ → ℕ → ℕ → List (List ℕ)
in_section s i k section = headings_of_section (headings_before s i) (block_at 81 s i) k section

-- the field of the entry that a column of a section is, counted from 0
abbrev pub field_of : List ℕ → ℕ → ℕ → ℕ → List ℕ
field_of s i section m =
    field_at (block_at 81 s ((heading_records (ranges_at s i) section).from.0 + m / 6)) (m % 6)

module _ (s : List ℕ) (i k : ℕ) (there : (i + 1) * 81 ≤ length s) (few : k < 6)
    (reaches : (ranges_at s i).table.past.0 ≡ i) where
  abbrev g : Ranges
  g = ranges_at s i

  here : i * 81 ≤ length s
  here = omega arith

  known : Ranged s i
  known = ranged s i here

  pub long-headings : LongHeadings (headings_before s i)
  long-headings =
      record {
        common001 = rows_long s i here g.common001 known.placed.common001;
        common = rows_long s i here g.common known.placed.common;
        table = rows_long s i here g.table known.placed.table;
      }

  -- ---- the bytes that are searched

  as_rows : (part : Seen → List ℕ) (x : Range) → Placed x i → bytes_of (take (i * 81) s) x ≡ part (context_at s i).seen
      → part (context_at s i).seen ≡ joined (rows_of s i x)
  as_rows part x p e = sym e ∙ sym (rows-bytes s i here x p)

  pub same-search : earlier (context_at s i).seen.common001 (context_at s i).seen.common (context_at s i).seen.table
      (block_at 81 s i) k
      ≡ searched (headings_before s i) (block_at 81 s i) k
  same-search =
      let e = known.seen in
      let a =
      as_rows (λ x. x.common001) g.common001 known.placed.common001 (ap (λ (x : Seen). x.common001) e) in
      let b = as_rows (λ x. x.common) g.common known.placed.common (ap (λ (x : Seen). x.common) e) in
      let c = as_rows (λ x. x.table) g.table known.placed.table (ap (λ (x : Seen). x.table) e) in
      λ x. earlier (a x) (b x) (c x) (block_at 81 s i) k

  -- ---- the section in hand: its records, and the fields to the left

  third-count : length (table_so_far (headings_before s i) (block_at 81 s i) k) ≡ size_of g.table * 6 + k
  third-count =
      let n = headings-count s i here g.table known.placed.table in
      let m = left-length (block_at 81 s i) k (omega arith) in
      length-append (headings_on (rows_of s i g.table)) (take k (fields_of (block_at 81 s i))) ∙ omega arith

  third_at : (m : ℕ) → m < size_of g.table * 6 + k
      → get_or (table_so_far (headings_before s i) (block_at 81 s i) k) m []
      ≡ field_at (block_at 81 s (g.table.from.0 + m / 6)) (m % 6)
  third_at m l =
      let xs = headings_on (rows_of s i g.table) in
      let ys = take k (fields_of (block_at 81 s i)) in
      let n : length xs ≡ size_of g.table * 6 = headings-count s i here g.table known.placed.table in
      let o = known.placed.table.ordered in
      either m (length xs)
      (λ q.
      get_or-append xs ys [] m q ∙ heading-there s i here g.table known.placed.table m (omega arith))
      (λ q.
      let e : m ≡ length xs + (m - length xs) = omega arith in
      let a : g.table.from.0 + m / 6 ≡ i = omega arith in
      let b : m % 6 ≡ m - length xs = omega arith in
      ap (λ (x : ℕ). get_or (xs ++ ys) x []) e ∙ get_or-append-add xs ys (m - length xs) []
      ∙ get_or-take k (fields_of (block_at 81 s i)) (m - length xs) [] (omega arith)
      ∙ field-of (block_at 81 s i) (m - length xs) (omega arith)
      ∙ ap (λ (x : ℕ). field_at (block_at 81 s i) x) (sym b)
      ∙ ap (λ (x : ℕ). field_at (block_at 81 s x) (m % 6)) (sym a))

  -- ---- any section

  -- how many columns of the record in hand belong to it
  pub section-count : (section : ℕ) → 1 ≤ section → section ≤ 3
      → length (in_section s i k section) ≡ size_of (heading_records g section) * 6 + cond (eqb section 3) k 0
  section-count zero a b = absurd (omega arith)
  section-count (suc zero) a b =
      let n = headings-count s i here g.common001 known.placed.common001 in omega arith
  section-count (suc (suc zero)) a b =
      let n = headings-count s i here g.common known.placed.common in omega arith
  section-count (suc (suc (suc zero))) a b = third-count
  section-count (suc (suc (suc (suc section)))) a b = absurd (omega arith)

  pub section-at : (section m : ℕ) → 1 ≤ section → section ≤ 3 → m < length (in_section s i k section)
      → get_or (in_section s i k section) m [] ≡ field_of s i section m
  section-at zero m a b l = absurd (omega arith)
  section-at (suc zero) m a b l =
      let n = headings-count s i here g.common001 known.placed.common001 in
      heading-there s i here g.common001 known.placed.common001 m (omega arith)
  section-at (suc (suc zero)) m a b l =
      let n = headings-count s i here g.common known.placed.common in
      heading-there s i here g.common known.placed.common m (omega arith)
  section-at (suc (suc (suc zero))) m a b l = let n = third-count in third_at m (omega arith)
  section-at (suc (suc (suc (suc section)))) m a b l = absurd (omega arith)
