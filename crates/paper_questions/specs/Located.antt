-- Where a subentry stands in an entry: its row, noted record by record on the way over an accepted entry.
use Rattle.std.specs.Prelude.{ℕ, zero, suc, ◌/◌, cond, List, eqb, length}
use Rattle.laws.specs.Blocks.{block_at}
use Rattle.paper_record.specs.Places.{record_of}
use Rattle.paper_record.specs.Fields.{fields_of, n1}
use Rattle.paper_record.specs.System.{subentry_of}
use Rattle.paper_rules.specs.declared.types.Track.{Track}
use Rattle.paper_rules.specs.State.{Context}
use Rattle.paper_rules.specs.Roles.{opens_subentry}
use Rattle.paper_entry.specs.Judging.{role_of, judge_of}
use Rattle.paper_entry.specs.Contexts.{context_at}
use Rattle.paper_questions.specs.declared.types.Row.{Row}
use Rattle.paper_questions.specs.declared.types.Located.{Located}
use Rattle.paper_questions.specs.Row.{empty_row, noted_in}

-- the number of the subentry that a record belongs to; SUBENT and NOSUBENT say it themselves
unfoldable pub subentry_in : Track → ℕ → List (List ℕ) → ℕ
subentry_in t role fs = cond (opens_subentry role) (subentry_of (n1 fs)) t.subentry.number

unfoldable pub noted_as : Track → ℕ → List (List ℕ) → Row → Row
noted_as t role fs x = noted_in x (subentry_in t role fs) role (record_of t.records)

abbrev pub note_of : Context → List ℕ → Row → Row
note_of c r x = noted_as c.track (role_of c r) (fields_of r) x

-- ---- all records

-- the row, as it is before the record with the index i
unfoldable pub row_at : List ℕ → ℕ → ℕ → Row
row_at s number zero = empty_row number
row_at s number (suc i) = note_of (context_at s i) (block_at 81 s i) (row_at s number i)

-- the row of the subentry with this number, as it is behind the last record of an accepted entry; empty in a refused
-- one
unfoldable pub row_of : List ℕ → ℕ → Row
row_of s number = cond (eqb (judge_of s).refusal 0) (row_at s number (length s / 81)) (empty_row number)

-- beside it the verdict on the entry
abbrev pub locate : List ℕ → ℕ → Located
locate s number = record { verdict = judge_of s; row = row_of s number }
