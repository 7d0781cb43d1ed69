use mathlib.Core.Path.{refl}
use borrow.Author.Tests.{eq-eqb, ne_eqb}
use native.Mathlib.Omega.{arith}
use Rattle.laws.proofs.Search.{scan-all, scan-done, scan-found, scan-next}
use Rattle.paper_decay.specs.Records.{filled_to}
use Rattle.decay_records.proofs.records.filled_to.Goals as goal

pub loop-i-init : goal.loop-i-init
loop-i-init c = (refl, scan-all _)

pub returns-then-text-at-ne32 : goal.returns-then-text-at-ne32
unfolding filled_to
returns-then-text-at-ne32 c =
    let text = c.args.text.now in
    let i = c.loop-i.i in
    let inv = c.loop-i.invariant in
    let found = scan-found inv.1 (omega arith) (rw (← inv.0, ne_eqb _ _ c.if-text-at-ne32.true) refl) in
    record {
      value = rw (← found, inv.0) refl;
      upper_bound = omega arith;
    }

pub loop-i-preserved : goal.loop-i-preserved
loop-i-preserved c =
    let inv = c.loop-i.invariant in
    (inv.0, scan-next inv.1 (omega arith) (rw (← inv.0, eq-eqb _ _ c.if-text-at-ne32.false) refl))

pub returns : goal.returns
unfolding filled_to
returns c =
    let inv = c.loop-i.invariant in
    let e = scan-done inv.1 (omega arith) in
    record {
      value = omega (arith, e);
      upper_bound = omega arith;
    }
