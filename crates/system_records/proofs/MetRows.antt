-- A row that names records of an entry still does after one record more.
-- Assumes nothing.
use Prim.Native.Nat.{ℕ, zero, suc, ◌/◌, ◌<◌, ◌≤◌}
use mathlib.Core.Bool.{Bool, true, false, cond}
use mathlib.Core.List.{List}
use native.Mathlib.Omega.{arith}
use lib.Dec.{eqb}
use lib.ListN.{length}
use Rattle.laws.specs.Blocks.{block_at}
use Rattle.paper_record.specs.Places.{record_of}
use Rattle.paper_record.specs.Fields.{fields_of}
use Rattle.paper_record.specs.Identifier.{BIB, COMMON, DATA}
use Rattle.paper_record.specs.declared.types.RecordNo.{RecordNo}
use Rattle.paper_rules.specs.declared.types.Track.{Track}
use Rattle.paper_rules.specs.Limits.{MOST-RECORDS}
use Rattle.paper_rules.specs.Roles.{opens_subentry}
use Rattle.paper_entry.specs.Judging.{Accepted}
use Rattle.paper_entry.specs.Contexts.{context_at, role_at}
use Rattle.paper_entry.proofs.Lengths.{whole-records, accepted-good}
use Rattle.entry_walk.proofs.Contexts.{records-at}
use Rattle.paper_questions.specs.declared.types.Row.{Row}
use Rattle.paper_questions.specs.Row.{empty_row, with_first_at, with_bib_at, with_common_at, with_data_at, noted, Met}
use Rattle.paper_questions.specs.Located.{subentry_in, noted_as, row_at, row_of}
use Rattle.paper_questions.proofs.FoundRow.{found-row}

pub met-empty : (number : ℕ) → Met (empty_row number)
met-empty number = record { first = omega arith; bib = omega arith; common = omega arith; «data» = omega arith }

module _ (x : Row) (m : Met x) where
  met-noted : (role : ℕ) (at : RecordNo) → at.0 ≤ MOST-RECORDS → Met (noted x role at)
  unfolding noted
  met-noted role at h = by-test (opens_subentry role) (eqb role BIB) (eqb role COMMON) (eqb role DATA)
    where
      by-test : (a b c d : Bool)
          → Met (cond a (with_first_at x at) (cond b (with_bib_at x at) (cond c (with_common_at x at) (cond d (with_data_at x at) x))))
      by-test true b c d = record { first = h; bib = m.bib; common = m.common; «data» = m.«data» }
      by-test false true c d = record { first = m.first; bib = h; common = m.common; «data» = m.«data» }
      by-test false false true d = record { first = m.first; bib = m.bib; common = h; «data» = m.«data» }
      by-test false false false true = record { first = m.first; bib = m.bib; common = m.common; «data» = h }
      by-test false false false false = m

  met_next : (t : Track) (role : ℕ) (fs : List (List ℕ)) → t.records.0 < MOST-RECORDS
      → Met (noted_as t role fs x)
  unfolding noted_as
  met_next t role fs h = by-test (eqb (subentry_in t role fs) x.number)
    where
      by-test : (b : Bool) → Met (cond b (noted x role (record_of t.records)) x)
      by-test true = met-noted role (record_of t.records) (omega arith)
      by-test false = m

-- so do the rows of an accepted entry
met-rows : (s : List ℕ) (number i : ℕ) → i ≤ MOST-RECORDS → Met (row_at s number i)
unfolding row_at
met-rows s number zero l = met-empty number
met-rows s number (suc i) l =
    let few = records-at s i in
    met_next (row_at s number i) (met-rows s number i (omega arith)) (context_at s i).track (role_at s i)
    (fields_of (block_at 81 s i)) (omega arith)

pub met-row : (s : List ℕ) → Accepted s → (number : ℕ) → Met (row_of s number)
met-row s accepted number =
    rw (found-row s number accepted)
    (met-rows s number (length s / 81) (whole-records (length s) (accepted-good s accepted)).1)
