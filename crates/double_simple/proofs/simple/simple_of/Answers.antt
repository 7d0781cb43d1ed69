use mathlib.Core.Path.{◌≡◌, ap, ◌∙◌}
use native.Mathlib.Omega.{arith}
use Rattle.paper_double.specs.Table.{rung}
use Rattle.paper_double.proofs.Powers.{flat-power}
use Rattle.paper_double.proofs.Rungs.{too_long, outside, down, up}
use Rattle.double_simple.proofs.simple.simple_of.Goals as goal

pub returns-then-c-gt-TEN_DIGITS : goal.returns-then-c-gt-TEN_DIGITS
returns-then-c-gt-TEN_DIGITS c = too_long c.args.d (omega (arith, c.if-c-gt-TEN_DIGITS.true))

pub returns-then-k-gt44 : goal.returns-then-k-gt44
returns-then-k-gt44 c =
    let z = c in
    let d = z.args.d in
    let flat = flat-power d.power (record { sfits = z.struct_told-1.given.1.1.0.1 }) in
    let k : c.rung-k.result ≡ rung d.power = c.rung-k.ensures ∙ ap rung flat in
    outside d (omega (arith, rw k at c.if-k-gt44.true))

pub returns-then-k-lt22 : goal.returns-then-k-lt22
returns-then-k-lt22 c =
    let y = c in
    let z = y in
    let d = z.args.d in
    let flat = flat-power d.power (record { sfits = z.struct_told-1.given.1.1.0.1 }) in
    let k : y.rung-k.result ≡ rung d.power = y.rung-k.ensures ∙ ap rung flat in
    rw (c.signed-x.ensures, c.divided-quotient.ensures)
    (down d y.rung-k.result z.if-c-gt-TEN_DIGITS.false k c.if-k-lt22.true)

pub returns : goal.returns
returns c =
    let y = c in
    let z = y in
    let d = z.args.d in
    let flat = flat-power d.power (record { sfits = z.struct_told-1.given.1.1.0.1 }) in
    let k : y.rung-k.result ≡ rung d.power = y.rung-k.ensures ∙ ap rung flat in
    rw (c.signed-x-2.ensures, c.times-product.ensures)
    (up d y.rung-k.result z.if-c-gt-TEN_DIGITS.false k c.if-k-lt22.false (omega (arith, y.if-k-gt44.false)))
