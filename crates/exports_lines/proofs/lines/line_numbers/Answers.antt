use Prim.Native.Nat.{◌<◌}
use mathlib.Core.Path.{refl}
use native.Mathlib.Omega.{arith}
use Rattle.exports_lines.proofs.lines.line_numbers.Goals as goal

pub overflow_cast-result-6 : goal.overflow_cast-result-6
overflow_cast-result-6 c =
    let line = c.args.line in
    let few : line.hierarchy < 256 = c.struct_known-6-1.given.1.1.1.1.1.1.1.1.1.1.1.0.fits in
    record { fits = omega arith }

pub overflow_cast-result-7 : goal.overflow_cast-result-7
overflow_cast-result-7 c =
    let line = c.args.line in
    let few : line.kind < 256 = c.struct_known-7-1.given.1.1.1.1.1.1.1.1.1.1.1.1.0.fits in
    record { fits = omega arith }

pub returns : goal.returns
returns c =
    let d = c in
    rw (← d.mass_number-number.ensures, ← d.mass_many-many.ensures) refl
