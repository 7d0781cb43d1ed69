use Prim.Native.Nat.{ℕ}
use Rattle.paper_number.proofs.Tens.{ten-more}
use mathlib.Core.Path.{◌∙◌, ap}
use Prim.Native.Nat.{◌^◌}
use Rattle.paper_number.proofs.Tens.{ten-suc, ten-le}
use Rattle.paper_canonical.proofs.Numbers.{suc-less}
use Rattle.paper_number.proofs.Count.{count-is}
use mathlib.Core.Path.{◌≡◌, refl}
use native.Mathlib.Numerals.{add-one}
use native.Mathlib.Omega.{arith}
use Rattle.canonical_layout.proofs.layout.measured.Goals as goal

pub returns-then-v-least : goal.returns-then-v-least
returns-then-v-least c =
    let e = count-is c.loop-i.i c.args.v
    c.loop-i.invariant.1.1 (omega (
      arith,
      c.loop-i.invariant.1.0,
      ten-suc c.loop-i.i,
    )) in (
      rw (e, add-one c.loop-i.i) refl,
      rw (e, suc-less c.loop-i.i)
          c.loop-i.invariant.1.0,
    )

pub overflow_mul-least : goal.overflow_mul-least
overflow_mul-least c =
    omega (arith, c.loop-i.invariant.1.0, ten-le {i = c.loop-i.i} {j = 18} (omega arith))

pub loop-i-preserved : goal.loop-i-preserved
loop-i-preserved c =
    let t = ten-more c.loop-i.i in (
      omega arith,
      (
        omega (arith, c.loop-i.invariant.1.0),
        λ h. omega (arith, c.loop-i.invariant.1.0),
      ),
    )

pub returns : goal.returns
returns c =
    let f : c.loop-i.i ≡ 19 = omega arith in
    let e = count-is 19 c.args.v (λ h. rw f at (c.loop-i.invariant.1.1 (omega arith)))
    (omega arith) in
    (rw e refl, c.loop-i.invariant.1.0 ∙ (ap (λ (k : ℕ). 10 ^ k) f ∙ rw e refl))
