use mathlib.Core.Path.{refl}
use Rattle.index_finding.proofs.finding.no_such_row.Goals as goal

pub returns : goal.returns
returns c = rw c.empty_row-row.ensures refl
