-- The records of an accepted entry, one after the other: what a way over such an entry has in hand at each. No rule is
-- asked again.
use Rattle.std.specs.Prelude.{ℕ, zero, suc, ◌+◌, ◌/◌, ◌≤◌, ◌≡◌, true, List, [], length, get_or}
use Rattle.laws.specs.Blocks.{block_at}
use Rattle.paper_record.specs.Fields.{fields_of}
use Rattle.paper_record.specs.Identifier.{identifier_of}
use Rattle.paper_rules.specs.Role.{role_in}
use Rattle.entry_step.specs.declared.step.Judge.{Judge}
use Rattle.entry_step.specs.declared.pass.Passed.{Passed}
use Rattle.paper_entry.specs.Verdict.{length_good}
use Rattle.entry_step.specs.ByRanges.{judge_after, start_judge}
use Rattle.paper_entry.specs.Contexts.{role_at}

-- a record, from the state before it
unfoldable pub pass_of : Judge → List ℕ → Passed
pass_of j r =
    let role = role_in j.phase j.track (identifier_of (get_or (fields_of r) 0 [])) in
    record { role = role; next = judge_after j role (fields_of r) r }

-- the state before the record with the index i; that it stands for `context_at s i` is the law `context-stands`
unfoldable pub judge_at : List ℕ → ℕ → Judge
judge_at s zero = start_judge
judge_at s (suc i) = judge_after (judge_at s i) (role_at s i) (fields_of (block_at 81 s i)) (block_at 81 s i)

-- the role of that record, and the state after it
abbrev pub pass_at : List ℕ → ℕ → Passed
pass_at s i = record { role = role_at s i; next = judge_at s (i + 1) }

-- a walk over the records has come to the index i in the state j
pub record Walking (j : Judge) (s : List ℕ) (i : ℕ) : Type 0 where
  pub good : length_good (length s) ≡ true
  pub upto : i ≤ length s / 81
  pub same : j ≡ judge_at s i

-- what passing a record ensures: its answer, and that the walk has come to the next record
pub record PassedAt (r : Passed) (s : List ℕ) (i : ℕ) : Type 0 where
  pub same : r ≡ pass_at s i
  pub walking : Walking r.next s (i + 1)
