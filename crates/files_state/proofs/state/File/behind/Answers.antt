use Rattle.files_state.proofs.Sums.{room-adds}
use Rattle.files_state.specs.ByNumbers.{behind_state}
use mathlib.Core.Path.{refl}
use Rattle.files_state.proofs.state.File.behind.Goals as goal

pub added-totals-requires : goal.added-totals-requires
added-totals-requires c = room-adds _ _ c.requires

pub returns-then-is_done : goal.returns-then-is_done
unfolding behind_state
returns-then-is_done c =
    rw (
      ← c.is_done.ensures,
      c.if-is_done.true,
      c.new-judge.ensures,
      c.added-totals.ensures,
    ) refl

pub returns : goal.returns
unfolding behind_state
returns c = rw (← c.is_done.ensures, c.if-is_done.false) refl
