-- What a way over a file keeps, and what it has come to: not read against the paper.
use Rattle.paper_faults.specs.Fault.{Checked, fault_at}
use Rattle.std.specs.Prelude.{ℕ, ◌*◌, ◌/◌, ◌<◌, ◌≤◌, ◌≡◌, List, length, Ok, Err}
use Rattle.laws.specs.Turns.{Turn}
use Rattle.laws.specs.Blocks.{block_at}
use Rattle.laws.proofs.Turns.{Run}
use Rattle.paper_entry.specs.declared.types.Verdict.{Verdict}
use Rattle.entry_step.proofs.Stepping.{Stood}
use Rattle.paper_files.specs.File.{FileContext, MOST-IN-FILE, file_fault, file_turn, file_end, judge_file}
use Rattle.files_state.specs.declared.state.File.{File}
use Rattle.files_state.specs.ByNumbers.{context_of, own_bytes, Sane}

-- what holds between two records, where `before` is what the entry in hand has before the next
pub record FileStood (before : List ℕ) (f : File) : Type 0 where
  pub stood : Stood before f.judge
  pub sane : Sane f

abbrev pub turn_at : List ℕ → FileContext → ℕ → Turn FileContext Verdict
turn_at s c i = file_turn c i (block_at 81 s i)

-- the way has come to the record with the index i: the state stands before it, and the walk of the definitions that is
-- left from its context comes to the verdict
pub record Along (s : List ℕ) (i : ℕ) (f : File) : Type 0 where
  pub whole : length s ≡ length s / 81 * 81
  pub few : length s / 81 ≤ MOST-IN-FILE
  pub counted : f.records.0 ≡ i
  pub stood : FileStood (own_bytes s i f) f
  pub rest : Run (turn_at s) file_end (judge_file s) (context_of (own_bytes s i f) f) i (length s / 81)

-- a record is left
pub record Ahead (s : List ℕ) (f : File) : Type 0 where
  pub along : Along s f.records.0 f
  pub there : f.records.0 < length s / 81

-- from f the way has come further, to g; or to a fault of the record before which g stands
abbrev pub Gone : Checked → List ℕ → File → File → Type 0
Gone (Ok _) s f g = Along s g.records.0 g × (f.records.0 < g.records.0)
Gone (Err fault) s f g =
    Ahead s g
    × (file_fault (context_of (own_bytes s g.records.0 g) g) (block_at 81 s g.records.0) ≡ Err fault)
