use Prim.Native.Nat.{◌%◌, ◌+◌, ◌-◌}
use Rattle.canonical_parts.proofs.Puts.{digits-go, digits-out, put-digits, shift-go, shift-out}
use lib.ListN.{length-set}
use mathlib.Core.Path.{◌∙◌, refl, sym}
use native.Mathlib.Omega.{arith}
use Rattle.canonical_parts.proofs.parts.put_digits.Goals as goal

pub loop-k-init : goal.loop-k-init
loop-k-init c = (omega arith, (refl, (refl, refl)))

pub loop-k-preserved : goal.loop-k-preserved
loop-k-preserved c = (
  omega arith,
  (
    length-set c.loop-k.out (c.args.at + (c.loop-k.k - 1))
        (48 + c.loop-k.w % 10) ∙ c.loop-k.invariant.1.0,
    (
      c.loop-k.invariant.1.1.0 ∙ digits-go c.loop-k.k c.loop-k-test.true c.loop-k.out
          c.args.at c.loop-k.w,
      c.loop-k.invariant.1.1.1 ∙ shift-go c.loop-k.k c.loop-k-test.true c.loop-k.w,
    ),
  ),
)

pub returns : goal.returns
returns c = (
  sym (c.loop-k.invariant.1.1.1 ∙ shift-out c.loop-k.k c.loop-k.w c.loop-k-test.false),
  sym (c.loop-k.invariant.1.1.0 ∙ digits-out c.loop-k.k c.loop-k.out
      c.args.at c.loop-k.w c.loop-k-test.false)
      ∙ put-digits c.args.n c.args.out.now c.args.at
      c.args.v c.requires,
)
