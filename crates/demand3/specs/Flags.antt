-- Which fields are number fields, and what the copy does to flags (document 02, M-105), of FLAG and DECAY-FLAG:
--
--   "The copy leaves both kinds of column unaltered, and demand 3 treats them as bytes outside number fields."
--
-- The context before a record has the headings of its table. Every value field is a number field but for these, so that
-- nothing else escapes being made canonical.
use Rattle.std.specs.Prelude.{ℕ, ◌/◌, ◌<◌, ◌≡◌, true, ◌↔◌, List, length}
use Rattle.paper_rules.specs.State.{used}
use Rattle.paper_rules.specs.Roles.{is_value}
use Rattle.paper_rules.specs.Flags.{heading_over}
use Rattle.rules_plain.specs.Flags.{FlagHeading}
use Rattle.paper_entry.specs.Judging.{Accepted}
use Rattle.paper_entry.specs.Contexts.{context_at, role_at}
use Rattle.paper_copy.specs.Copy.{number_field, field_in, copy_of}

-- the heading over the field k of the record with the index i, as judging counts its column; `OverFields`
-- (refusal_table, FlagFaults) tells it plainly, by the record's place in its line
abbrev pub heading_of : List ℕ → ℕ → ℕ → List ℕ
heading_of s i k = heading_over (context_at s i).seen.table (context_at s i).track k

-- it is a value field of COMMON or DATA: a used field of a value record
pub record ValueAt (s : List ℕ) (i k : ℕ) : Type 0 where
  pub there : i < length s / 81
  pub value : is_value (role_at s i) ≡ true
  pub in_use : k < used (context_at s i).track

-- number fields are the value fields that are not under FLAG or DECAY-FLAG, and no others
pub record NumberAt (s : List ℕ) (i k : ℕ) : Type 0 where
  pub value : ValueAt s i k
  pub no_flag : FlagHeading (heading_of s i k) → ⊥

abbrev pub NumberFields : Type 0
NumberFields = (s : List ℕ) → Accepted s → (i k : ℕ) → (number_field s i k ≡ true) ↔ NumberAt s i k

-- "leaves both kinds of column unaltered": byte for byte
abbrev pub FlagsKept : Type 0
FlagsKept =
    (s : List ℕ) → Accepted s → (i k : ℕ) → ValueAt s i k → FlagHeading (heading_of s i k)
    → field_in (copy_of s) i k ≡ field_in s i k
