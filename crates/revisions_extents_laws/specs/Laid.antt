-- The records of a subentry are those from its SUBENT to its ENDSUBENT, or its NOSUBENT alone (document 01, "Nesting and
-- counts"):
--
--   "A subentry is NOSUBENT alone, or SUBENT, then [..] then ENDSUBENT."
use Rattle.std.specs.Prelude.{ℕ, ◌+◌, ◌-◌, ◌<◌, ◌≡◌, true, false, List, ◌↔◌}
use Rattle.laws.specs.Blocks.{block_at}
use Rattle.paper_record.specs.Fields.{field_at}
use Rattle.paper_record.specs.Identifier.{SUBENT, NOSUBENT, ENDSUBENT, identifier_of}
use Rattle.paper_record.specs.System.{subentry_of}
use Rattle.paper_entry.specs.Judging.{Accepted}
use Rattle.paper_entry.specs.Contexts.{role_at}
use Rattle.paper_questions.specs.Located.{row_of}
use Rattle.index_rows.specs.Index.{OpensWith}
use Rattle.paper_revisions.specs.Extents.{extent_of, has}

-- the record with the index i is this system record: what is due there, and what its columns 1 to 11 say
pub record StandsAt (s : List ℕ) (i identifier : ℕ) : Type 0 where
  pub role : role_at s i ≡ identifier
  pub written : identifier_of (field_at (block_at 81 s i) 0) ≡ identifier

pub data Body (s : List ℕ) (from past : ℕ) : Type 0 where
  alone : StandsAt s from NOSUBENT → past ≡ from + 1 → Body s from past
  to_end : StandsAt s from SUBENT → StandsAt s (past - 1) ENDSUBENT → from + 1 < past → Body s from past

pub record Laid (s : List ℕ) (n : ℕ) : Type 0 where
  pub number : subentry_of (field_at (block_at 81 s (extent_of s n).from) 1) ≡ n
  pub row : (row_of s n).first.0 ≡ (extent_of s n).from + 1
  pub body : Body s (extent_of s n).from (extent_of s n).past

abbrev pub ExtentLaid : Type 0
ExtentLaid = (s : List ℕ) → Accepted s → (n : ℕ) → has s n ≡ true → Laid s n

-- ---- when there is one

-- a record inside COMMON or DATA may bear the name SUBENT in its first field: it is no SUBENT record, so that one is told
-- by what is due there
abbrev pub HasExactly : Type 0
HasExactly =
    (s : List ℕ) → Accepted s → (n : ℕ)
    → ((has s n ≡ true) ↔ ((i : ℕ) × OpensWith s n i)) × ((has s n ≡ true) ↔ ((row_of s n).first.0 ≡ 0 → ⊥))

-- no other record opens it
abbrev pub OpenedOnce : Type 0
OpenedOnce = (s : List ℕ) → Accepted s → (n i : ℕ) → OpensWith s n i → i ≡ (extent_of s n).from

-- of any bytes: ENTRY with its 000 and ENDENTRY with its 999 are no subentries, nor is there one of a higher number
abbrev pub HasNone : Type 0
HasNone = (s : List ℕ) → (has s 0 ≡ false) × ((n : ℕ) → 998 < n → has s n ≡ false)
