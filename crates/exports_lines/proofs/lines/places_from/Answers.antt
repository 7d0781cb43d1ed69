use mathlib.Core.Path.{◌≡◌, refl}
use Prim.Native.Nat.{◌+◌}
use native.Mathlib.Omega.{arith}
use Rattle.exports_lines.proofs.lines.places_from.Goals as goal

pub returns : goal.returns
returns c =
    let none : c.args.first + 0 ≡ c.args.first = omega arith in
    rw none refl
