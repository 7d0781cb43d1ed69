use Prim.Native.Nat.{◌-◌}
use mathlib.Core.Path.{◌≡◌, ◌∙◌}
use native.Mathlib.Omega.{arith}
use Rattle.program_text.proofs.Lines.{none, one_more}
use Rattle.program_text.proofs.number_in.Goals as goal

pub loop-i-init : goal.loop-i-init
loop-i-init c = (omega arith, omega arith, none _ _, omega arith)

pub loop-i-preserved : goal.loop-i-preserved
loop-i-preserved c =
    let inv = c.loop-i.invariant in (
      omega arith,
      omega arith,
      c.with_digit-n.ensures.value ∙ one_more _ _ _ _ _ inv.0 inv.2 c.byte_at.ensures,
      c.with_digit-n.ensures.upper_bound,
    )

pub returns : goal.returns
returns c =
    let args = c.args in
    let e : c.loop-i.i - args.from ≡ args.past - args.from = omega arith in
    record {
      value = rw e at c.loop-i.invariant.2;
      upper_bound = c.loop-i.invariant.3;
    }
