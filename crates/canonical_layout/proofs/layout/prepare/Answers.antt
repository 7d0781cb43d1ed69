use Rattle.paper_canonical.proofs.Numbers.{from_fits, from-flat, from-few}
use Rattle.paper_canonical.proofs.Preparing.{trim-prepared, zero-prepared}
use mathlib.Core.Path.{ap, ◌∙◌}
use mathlib.Core.Bool.{false}
use Rattle.paper_canonical.specs.declared.types.Layout.{Layout}
use Rattle.paper_number.proofs.Zeros.{zeros-few}
use Rattle.paper_number.specs.declared.types.Trim.{Trim}
use Rattle.paper_number.proofs.Count.{count-short}
use native.Mathlib.Omega.{arith}
use Rattle.paper_number.specs.Value.{trim}
use mathlib.Core.Path.{◌≡◌}
use Prim.Native.Nat.{ℕ, ◌<◌, ◌^◌}
use Rattle.canonical_layout.proofs.layout.prepare.Goals as goal

few-zeros : (c : ℕ) (t : Trim) → t ≡ trim c → 0 < c → c < 2 ^ 64 → t.zeros < 20
few-zeros c t e h l = omega (arith, zeros-few c h l, ap (λ (t : Trim). t.zeros) e)

pub returns-then-coefficient-eq0 : goal.returns-then-coefficient-eq0
returns-then-coefficient-eq0 c =
    ap (λ (l : Layout). record { negative = false; coefficient = 0; layout = l }) c.plain_layout.ensures
    ∙ zero-prepared c.args.negative c.args.coefficient c.args.power c.if-coefficient-eq0.true

pub overflow_add-sum : goal.overflow_add-sum
overflow_add-sum c =
    let t = c.without_zeros-t in
    let few = few-zeros c.args.coefficient t.result t.ensures (omega arith) (omega arith) in
    from_fits c.args.power c.ranges.power c.from.result c.from.ensures t.result.zeros (omega arith)

pub layout_of-layout-requires : goal.layout_of-layout-requires
layout_of-layout-requires c =
    let t = c.without_zeros-t in
    let few = few-zeros c.args.coefficient t.result t.ensures (omega arith) (omega arith) in
    let sum = from-flat c.args.power c.ranges.power c.from.result c.from.ensures t.result.zeros (omega arith) in (
      omega (arith, c.measured-m.ensures.0, count-short t.result.number 20 (omega arith) (omega arith)),
      rw sum (from-few c.args.power c.ranges.power c.from.result c.from.ensures t.result.zeros (omega arith)),
    )

pub returns : goal.returns
returns c =
    let t = c.without_zeros-t in
    let few = few-zeros c.args.coefficient t.result t.ensures (omega arith) (omega arith) in
    let sum = from-flat c.args.power c.ranges.power c.from.result c.from.ensures t.result.zeros (omega arith) in
    trim-prepared c.args.negative c.args.coefficient c.args.power t.result c.measured-m.result.digits
    c.layout_of-layout.result t.ensures c.if-coefficient-eq0.false c.measured-m.ensures.0
    (rw sum at c.layout_of-layout.ensures)
