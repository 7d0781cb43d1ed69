use Rattle.cinda_columns.proofs.Shifted.{number-in-part}
use mathlib.Core.Path.{◌∙◌}
use native.Mathlib.Omega.{arith}
use Rattle.cinda_columns.proofs.date.month_of.Goals as goal

pub returns : goal.returns
returns c =
    c.number_in.ensures.value
    ∙ rw c.field-f.ensures (number-in-part 79 11 c.args.line.now 4 2 (omega arith))
