-- Where a subentry stands in an entry: its row, and what a record leaves in it.
use Rattle.std.specs.Prelude.{ℕ, ◌≤◌, cond, eqb}
use Rattle.paper_record.specs.Identifier.{BIB, COMMON, DATA}
use Rattle.paper_record.specs.declared.types.RecordNo.{RecordNo}
use Rattle.paper_rules.specs.Limits.{MOST-RECORDS}
use Rattle.paper_rules.specs.Roles.{opens_subentry}
use Rattle.paper_questions.specs.declared.types.Row.{Row}

-- ---- a row: the subentry's number, its first record, and the records BIB, COMMON and DATA, 0 where there is none

abbrev pub NONE : RecordNo
NONE = record { 0 = 0 }

abbrev pub empty_row : ℕ → Row
empty_row number = record { number = number; first = NONE; bib = NONE; common = NONE; «data» = NONE }

abbrev pub with_first_at : Row → RecordNo → Row
with_first_at x at =
    record { number = x.number; first = at; bib = x.bib; common = x.common; «data» = x.«data» }

abbrev pub with_bib_at : Row → RecordNo → Row
with_bib_at x at =
    record { number = x.number; first = x.first; bib = at; common = x.common; «data» = x.«data» }

abbrev pub with_common_at : Row → RecordNo → Row
with_common_at x at =
    record { number = x.number; first = x.first; bib = x.bib; common = at; «data» = x.«data» }

abbrev pub with_data_at : Row → RecordNo → Row
with_data_at x at =
    record { number = x.number; first = x.first; bib = x.bib; common = x.common; «data» = at }

-- ---- what a record leaves in the row of a subentry

-- a record of that subentry, by its role and number
unfoldable pub noted : Row → ℕ → RecordNo → Row
noted x role at =
    cond (opens_subentry role) (with_first_at x at)
    (cond (eqb role BIB) (with_bib_at x at)
    (cond (eqb role COMMON) (with_common_at x at)
    (cond (eqb role DATA) (with_data_at x at) x)))

-- a record of the subentry with a number
abbrev pub noted_in : Row → ℕ → ℕ → RecordNo → Row
noted_in x number role at = cond (eqb number x.number) (noted x role at) x

-- each record of a row is one of an entry's 20,000 at most
pub record Met (x : Row) : Type 0 where
  pub first : x.first.0 ≤ MOST-RECORDS
  pub bib : x.bib.0 ≤ MOST-RECORDS
  pub common : x.common.0 ≤ MOST-RECORDS
  pub «data» : x.«data».0 ≤ MOST-RECORDS
