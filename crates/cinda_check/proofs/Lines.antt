-- The loop over lines: its turns are those of the definition.
-- Assumes nothing.
use Prim.Native.Nat.{ℕ, ◌-◌, ◌/◌}
use mathlib.Core.Path.{◌≡◌, sym}
use mathlib.Core.Bool.{true}
use mathlib.Core.List.{List}
use native.Mathlib.Omega.{arith}
use lib.ListN.{length}
use Rattle.laws.specs.Turns.{Turn}
use Rattle.laws.specs.Blocks.{block_at}
use Rattle.laws.proofs.Turns.{Run}
use Rattle.laws.proofs.Blocks.{run-walk}
use Rattle.paper_cinda.specs.declared.types.LinesAnswer.{LinesAnswer}
use Rattle.paper_cinda.specs.Layout.{LINE}
use Rattle.paper_cinda.specs.Check.{good_length, line_turn, all_passed, check_of}

-- the turn at the line with the index i
abbrev pub turn_at : List ℕ → Unit {0} → ℕ → Turn (Unit {0}) LinesAnswer
turn_at s u i = line_turn u i (block_at LINE s i)

pub check-start : (s : List ℕ) → good_length (length s) ≡ true
    → Run (turn_at s) all_passed (check_of s) tt 0 (length s / LINE)
unfolding check_of
check-start s e =
    let n = length s / LINE in
    let z : n - 0 ≡ n = omega arith in
    record { low = omega arith; rest = rw (e, z) (sym (run-walk line_turn all_passed LINE s n tt)) }
