-- The search for an earlier heading (document 01, "BIB, headings, pointers"):
--
--   "A heading is compared with all earlier ones, section by section, and the search ends at the first equal heading"
--
-- The code follows `equal_heading` (paper_rules, Earlier). That it hands back the first place with an equal heading
-- is stated here (`FoundExactly`), and that it hands back none exactly where no heading is equal (`NothingExactly`).
use Rattle.std.specs.Prelude.{ℕ, ◌-◌, ◌<◌, ◌≤◌, ◌≡◌, cond, List, [], ◌↔◌, ◌⊎◌, eqb, length, get_or, Some, None}
use Rattle.laws.specs.Blocks.{joined}
use Rattle.paper_record.specs.Same.{SameColumns}
use Rattle.paper_rules.specs.Record.{Record}
use Rattle.paper_rules.specs.Earlier.{Earlier, place_at, equal_heading, earlier}
use Rattle.rules_plain.specs.Repeated.{RecordsBefore, LongHeadings, headings_on, table_so_far}

-- ---- places

-- the headings of the section 1, 2 or 3: of the COMMON of 001, of this subentry's COMMON, of the table in hand up to
-- the field k of its record r
abbrev pub headings_of_section : RecordsBefore → Record → ℕ → ℕ → List (List ℕ)
headings_of_section b r k section =
    cond (eqb section 1) (headings_on b.common001)
    (cond (eqb section 2) (headings_on b.common) (table_so_far b r k))

-- a section and a column of it, both numbered from 1, that has a heading equal to f in eleven columns
pub record EqualAt (f : List ℕ) (b : RecordsBefore) (r : Record) (k section column : ℕ) : Type 0 where
  pub section_from : 1 ≤ section
  pub section_to : section ≤ 3
  pub column_from : 1 ≤ column
  pub column_to : column ≤ length (headings_of_section b r k section)
  pub same : SameColumns 11 f (get_or (headings_of_section b r k section) (column - 1) [])

-- "section by section", and in a section from left to right
abbrev pub Sooner : ℕ → ℕ → ℕ → ℕ → Type 0
Sooner s c section column = (s < section) ⊎ ((s ≡ section) × (c < column))

-- ---- the search

-- "the search ends at the first equal heading"
pub record FirstEqual (f : List ℕ) (b : RecordsBefore) (r : Record) (k section column : ℕ) : Type 0 where
  pub equal : EqualAt f b r k section column
  pub first : (s c : ℕ) → Sooner s c section column → EqualAt f b r k s c → ⊥

-- the bytes that are searched: those of the earlier heading records, and k fields of the record in hand
abbrev pub searched : RecordsBefore → Record → ℕ → Earlier
searched b r k = earlier (joined b.common001) (joined b.common) (joined b.table) r k

abbrev pub FoundExactly : Type 0
FoundExactly =
    (f : List ℕ) (b : RecordsBefore) (r : Record) (k : ℕ) → LongHeadings b → k ≤ 6 → (section column : ℕ)
    → (equal_heading f (searched b r k) ≡ Some (place_at section column)) ↔ FirstEqual f b r k section column

abbrev pub NothingExactly : Type 0
NothingExactly =
    (f : List ℕ) (b : RecordsBefore) (r : Record) (k : ℕ) → LongHeadings b → k ≤ 6
    → (equal_heading f (searched b r k) ≡ None) ↔ ((section column : ℕ) → EqualAt f b r k section column → ⊥)
