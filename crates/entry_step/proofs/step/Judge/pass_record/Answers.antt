use mathlib.Core.Path.{ap}
use Rattle.entry_step.specs.declared.step.Judge.{Judge}
use Rattle.entry_step.specs.Pass.{pass_of}
use Rattle.entry_step.proofs.step.Judge.pass_record.Goals as goal

pub returns : goal.returns
unfolding pass_of
returns c =
    let role = c.role-role.result in
    rw (
      ← c.fields-fs.ensures,
      ← c.identifier_of-k.ensures,
      ← c.role-role.ensures,
    ) (ap (λ (j : Judge). record { role = role; next = j }) c.after-next.ensures)
