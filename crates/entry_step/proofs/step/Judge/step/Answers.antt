use mathlib.Core.Path.{ap}
use Rattle.entry_step.specs.ByRanges.{step_of, step_said}
use Rattle.paper_number.proofs.Bounds.{within}
use Rattle.entry_step.proofs.step.Judge.step.Goals as goal

pub returns : goal.returns
unfolding step_of
returns c =
    record {
      same = rw (
        ← c.fields-fs.ensures,
        ← c.identifier_of-k.ensures,
        ← c.role-role.ensures,
      )
          c.step_as.ensures.same;
      said = rw (
        ← c.fields-fs.ensures,
        ← c.identifier_of-k.ensures,
        ← c.role-role.ensures,
      )
          (ap step_said c.step_as.ensures.same);
      within = c.step_as.ensures.within;
    }
