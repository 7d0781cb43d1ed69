-- "otherwise the refusal is the first in its order"; the order is (document 01, "Refusal numbers and their order"):
--
--   "Judging: 1 comes first. Then records in order; within one record the lowest number; within that the leftmost
--   column."
--
-- Which of all that the rules find is first is said here with no search. What they find on a record (`findings`)
-- depends on what is due, counted and seen before it, and this is the judge's own walk (`context_at`): what is said here
-- rests on that walk. Where a refusal can stand is said with no walk in `refusal_table`.
use Rattle.std.specs.Prelude.{ℕ, ◌+◌, ◌/◌, ◌<◌, ◌≡◌, true, false, List, length}
use Rattle.laws.specs.Blocks.{block_at}
use Rattle.paper_record.specs.Fields.{fields_of}
use Rattle.paper_rules.specs.State.{Context}
use Rattle.paper_faults.specs.Fault.{Finding}
use Rattle.paper_rules.specs.Order.{findings}
use Rattle.paper_faults.specs.Least.{Least, Nothing}
use Rattle.paper_entry.specs.declared.types.Verdict.{Verdict}
use Rattle.paper_entry.specs.Verdict.{refused, accepted, is_done, length_good}
use Rattle.paper_entry.specs.Judging.{role_of, judge_of}
use Rattle.paper_entry.specs.Contexts.{context_at}

-- what the rules find on a record, from what stands before it
abbrev pub found_in : Context → List ℕ → List Finding
found_in c r = findings c.track c.seen (role_of c r) (fields_of r) r

abbrev pub found_at : List ℕ → ℕ → List Finding
found_at s i = found_in (context_at s i) (block_at 81 s i)

-- "records in order": nothing is found on the first n
abbrev pub NothingBefore : List ℕ → ℕ → Type 0
NothingBefore s n = (j : ℕ) → j < n → Nothing (found_at s j)

-- the number n at the column k is the least found on the record with the index i, and nothing is found on an earlier
-- one
pub record FirstAt (s : List ℕ) (i n k : ℕ) : Type 0 where
  pub length-good : length_good (length s) ≡ true
  pub there : i < length s / 81
  pub earlier : NothingBefore s i
  pub least : Least (found_at s i) n k

-- nothing is found on any record
pub record NothingFound (s : List ℕ) : Type 0 where
  pub length-good : length_good (length s) ≡ true
  pub all : NothingBefore s (length s / 81)

-- the verdicts that are first in the order
pub data First (s : List ℕ) : Verdict → Type 0 where
  -- "1 comes first"
  by_length : length_good (length s) ≡ false → First s (refused 1 (record { 0 = 0 }) 0)
  -- "within one record the lowest number; within that the leftmost column"; records are numbered from 1
  by_record : (i n k : ℕ) → FirstAt s i n k → First s (refused n (record { 0 = i + 1 }) k)
  -- 16, "records end before ENDENTRY (record number one past the last)", column 0
  by_end : NothingFound s → is_done (context_at s (length s / 81)).phase ≡ false
      → First s (refused 16 (record { 0 = length s / 81 + 1 }) 0)
  -- "Accepted is 0 0 0 with four totals"
  by_none : NothingFound s → is_done (context_at s (length s / 81)).phase ≡ true
      → First s (accepted (context_at s (length s / 81)).track.totals)

-- demand 2: the verdict on an entry is the first in the order
abbrev pub RefusedFirst : Type 0
RefusedFirst = (s : List ℕ) → First s (judge_of s)

-- and no other verdict is
abbrev pub FirstAlone : Type 0
FirstAlone = (s : List ℕ) (v : Verdict) → First s v → v ≡ judge_of s
