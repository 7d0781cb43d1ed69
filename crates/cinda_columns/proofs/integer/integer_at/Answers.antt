use Rattle.cinda_columns.proofs.Shifted.{integer-wider}
use Rattle.paper_record.specs.Columns.{columns_at}
use Prim.Native.Nat.{◌+◌, ◌-◌}
use mathlib.Core.Path.{◌≡◌, ◌∙◌}
use native.Mathlib.Omega.{arith}
use Rattle.cinda_columns.proofs.integer.integer_at.Goals as goal

pub returns : goal.returns
returns c =
    let a = c.args in
    let e : 11 - a.w + a.w ≡ 11 = omega arith in
    c.count_of.ensures.value
    ∙ rw c.right_adjusted-f.ensures
    (rw e at (integer-wider (11 - a.w) a.w (columns_at a.at a.w a.line.now)))
