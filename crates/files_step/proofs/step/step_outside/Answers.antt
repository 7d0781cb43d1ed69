use Rattle.files_state.specs.ByNumbers.{step_outside}
use mathlib.Core.Path.{refl}
use Rattle.files_step.proofs.step.step_outside.Goals as goal

pub returns-in-Ok : goal.returns-in-Ok
unfolding step_outside
returns-in-Ok c =
    rw (
      ← c.outside_fault-found.ensures,
      c.in-Ok.is,
      c.at_stage-next.ensures,
      c.stage_after-stage.ensures,
    ) refl

pub returns-in-Err : goal.returns-in-Err
unfolding step_outside
returns-in-Err c = rw (← c.outside_fault-found.ensures, c.in-Err.is) refl
