use Prim.Native.Nat.{◌-◌}
use Rattle.laws.proofs.Search.{scan-done, scan-found, scan-next, scan-upto}
use borrow.Author.Tests.{eq-eqb, ne_eqb}
use native.Mathlib.Omega.{arith}
use Rattle.record_words.proofs.word.filled_from.Goals as goal

pub loop-i-init : goal.loop-i-init
loop-i-init c = (c.requires.w_bound, scan-upto _ c.requires.from_le_w)

pub returns-then-f-i-ne32 : goal.returns-then-f-i-ne32
returns-then-f-i-ne32 c =
    record {
      value = scan-found c.loop-i.invariant.1 (omega arith) (rw (ne_eqb _ _ c.if-f-i-ne32.true));
      upper_bound = omega arith;
    }

pub loop-i-preserved : goal.loop-i-preserved
loop-i-preserved c = (
  c.loop-i.invariant.0,
  scan-next c.loop-i.invariant.1 (omega arith)
      (rw (eq-eqb _ _ c.if-f-i-ne32.false)),
)

pub returns : goal.returns
returns c =
    record {
      value = scan-done c.loop-i.invariant.1 (omega arith);
      upper_bound = omega arith;
    }
