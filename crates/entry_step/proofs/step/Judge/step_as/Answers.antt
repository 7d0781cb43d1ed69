use Rattle.std.proofs.lemmas.Result.{err_from_is_err_and}
use mathlib.Core.Path.{refl}
use Rattle.entry_step.proofs.Stepping.{stands_after}
use Rattle.entry_step.specs.ByRanges.{step_as}
use Rattle.paper_number.proofs.Bounds.{within}
use Rattle.entry_step.proofs.step.Judge.step_as.Goals as goal

pub fault-requires : goal.fault-requires
fault-requires c =
    record {
      stands = c.requires.stands;
      whole = c.requires.whole;
      read = c.values-values.ensures;
    }

pub after-next-requires : goal.after-next-requires
after-next-requires c =
    let ready = c.requires in
    record {
      bounded = ready.stands.bounded;
      records_bound = ready.few;
      whole = ready.whole;
      values_value = c.values-values.ensures;
    }

pub returns-in_err-fault : goal.returns-in_err-fault
unfolding step_as
returns-in_err-fault c =
    let p = err_from_is_err_and c.from_residual.result c.from_residual.ensures.1 in
    rw (p.1, p.2) (record { same = rw (← c.fault.ensures.value, c.in_err-fault.was) refl; within = tt })

pub returns : goal.returns
unfolding step_as
returns c =
    record {
      same = rw (← c.fault.ensures.value, c.in_ok-fault.was, ← c.after-next.ensures) refl;
      within = rw c.after-next.ensures (stands_after _ _ _ c.requires _ _);
    }
