use Prim.Native.Nat.{◌+◌, ◌-◌}
use mathlib.Core.Path.{◌≡◌}
use native.Mathlib.Omega.{arith}
use Rattle.cinda_apart.proofs.apart.energy_at.Goals as goal

pub returns : goal.returns
returns c =
    let at = c.args.at in
    let wide : at + 7 - at ≡ 7 = omega arith in
    rw wide at c.read_columns.ensures
