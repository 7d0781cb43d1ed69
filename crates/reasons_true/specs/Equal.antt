-- What is said for 13: "record and column of the first equal heading" (document 02, M-108).
use Rattle.std.specs.Prelude.{ℕ, ◌+◌, ◌-◌, ◌/◌, ◌<◌, ◌≤◌, ◌≡◌, List, ◌⊎◌}
use Rattle.laws.specs.Blocks.{block_at}
use Rattle.paper_record.specs.Places.{record_of}
use Rattle.paper_record.specs.Fields.{field_at}
use Rattle.paper_record.specs.declared.types.RecordNo.{RecordNo}
use Rattle.paper_rules.specs.Record.{field_column}
use Rattle.paper_entry.specs.Verdict.{refused}
use Rattle.paper_entry.specs.Judging.{judge_of}
use Rattle.paper_reasons.specs.declared.types.Facts.{Facts}
use Rattle.paper_reasons.specs.declared.types.Facts.TheVariants.{Equal}
use Rattle.paper_reasons.specs.Ranges.{ranges_at}
use Rattle.paper_reasons.specs.Reason.{heading_records, explain}

-- a place is named: the record with an index, by its number, and a field of it, by its first column
pub record EqualNamed (facts : Facts) : Type 0 where
  pub index : ℕ
  pub field : ℕ
  pub few : field < 6
  pub is : facts ≡ Equal (record_of (record { 0 = index })) (field_column field)

abbrev pub EqualSaid : Type 0
EqualSaid =
    (s : List ℕ) (i k : ℕ) → judge_of s ≡ refused 13 (record { 0 = i + 1 }) k → EqualNamed (explain s).reason.facts

-- and there stand the same eleven columns
abbrev pub EqualThere : Type 0
EqualThere =
    (s : List ℕ) (i k : ℕ) (at : RecordNo) (column : ℕ) → judge_of s ≡ refused 13 (record { 0 = i + 1 }) k
    → (explain s).reason.facts ≡ Equal at column
    → (at.0 ≤ i + 1) × (field_at (block_at 81 s (at.0 - 1)) (column / 11) ≡ field_at (block_at 81 s i) (k / 11))

-- the headings that are searched for the field k of the record with the index i: a section, the index of a record, and
-- a field of it
pub data Searched (s : List ℕ) (i k : ℕ) : ℕ → ℕ → ℕ → Type 0 where
  -- of the heading records of a section before it
  in_records : (section j f : ℕ) → 1 ≤ section → section ≤ 3 → (heading_records (ranges_at s i) section).from.0 ≤ j
      → j < (heading_records (ranges_at s i) section).past.0 → f < 6 → Searched s i k section j f
  -- to the left in the record itself
  to_the_left : (f : ℕ) → f < k → Searched s i k 3 i f

-- record by record, in a record from left to right
abbrev pub Earlier : ℕ → ℕ → ℕ → ℕ → Type 0
Earlier j f at field = (j < at) ⊎ ((j ≡ at) × (f < field))

-- "section by section"
abbrev pub Before : ℕ → ℕ → ℕ → ℕ → ℕ → ℕ → Type 0
Before q j f section at field = (q < section) ⊎ ((q ≡ section) × Earlier j f at field)

-- the first of them that has the same eleven columns
pub record FirstPlace (s : List ℕ) (i k at field : ℕ) : Type 0 where
  pub section : ℕ
  pub searched : Searched s i k section at field
  pub same : field_at (block_at 81 s at) field ≡ field_at (block_at 81 s i) k
  pub first : (q j f : ℕ) → Searched s i k q j f → Before q j f section at field
      → field_at (block_at 81 s j) f ≡ field_at (block_at 81 s i) k → ⊥

abbrev pub EqualFirst : Type 0
EqualFirst =
    (s : List ℕ) (i k : ℕ) (at : RecordNo) (column : ℕ) → judge_of s ≡ refused 13 (record { 0 = i + 1 }) k
    → (explain s).reason.facts ≡ Equal at column → FirstPlace s i (k / 11) (at.0 - 1) (column / 11)

-- and none that stands earlier in the entry has them, in whatever section: it is also the least record
abbrev pub EqualLeast : Type 0
EqualLeast =
    (s : List ℕ) (i k : ℕ) (at : RecordNo) (column : ℕ) → judge_of s ≡ refused 13 (record { 0 = i + 1 }) k
    → (explain s).reason.facts ≡ Equal at column
    → (q j f : ℕ) → Searched s i (k / 11) q j f → Earlier j f (at.0 - 1) (column / 11)
    → field_at (block_at 81 s j) f ≡ field_at (block_at 81 s i) (k / 11) → ⊥
