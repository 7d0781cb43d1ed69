use Prim.Native.Nat.{◌-◌}
use Rattle.record.proofs.Powers.{eleven-below, one_more}
use Rattle.paper_record.specs.System.{number_in}
use borrow.Author.Rules.{rules}
use mathlib.Core.Path.{◌≡◌, refl}
use native.Mathlib.Numerals.{add-one}
use native.Mathlib.Omega.{arith}
use Rattle.record.proofs.system.number_in.Goals as goal

pub loop-i-init : goal.loop-i-init
unfolding number_in
loop-i-init c = (c.requires, search rules, refl, omega arith)

pub overflow_mul-number : goal.overflow_mul-number
overflow_mul-number c = omega (arith, eleven-below _ _ c.loop-i.invariant.3 (omega arith))

pub overflow_add-number : goal.overflow_add-number
overflow_add-number c = omega (arith, eleven-below _ _ c.loop-i.invariant.3 (omega arith), c.digit_of-d.ensures.upper_bound)

pub loop-i-preserved : goal.loop-i-preserved
unfolding number_in
loop-i-preserved c = (
  c.loop-i.invariant.0,
  omega arith,
  rw (add-one, c.digit_of-d.ensures.value, c.loop-i.invariant.2),
  one_more _ _ _
      c.loop-i.invariant.3 c.digit_of-d.ensures.upper_bound,
)

pub returns : goal.returns
returns c =
    let e : c.loop-i.i ≡ c.args.n = omega arith in
    record {
      value = rw e at c.loop-i.invariant.2;
      result_bound = rw e at c.loop-i.invariant.3;
    }
