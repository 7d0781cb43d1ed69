use native.Mathlib.Omega.{arith}
use borrow.Author.Tests.{eq-eqb, ne_eqb}
use Rattle.laws.proofs.Search.{scan-upto, scan-done, scan-found, scan-next}
use Rattle.decay_words.proofs.words.find_byte.Goals as goal

pub loop-i-init : goal.loop-i-init
loop-i-init c = (omega arith, scan-upto _ c.requires)

pub returns-then-text-i : goal.returns-then-text-i
returns-then-text-i c =
    let inv = c.loop-i.invariant in
    record {
      value = scan-found inv.1 (omega arith) (eq-eqb _ _ c.if-text-i.true);
      lower_bound = (inv.0, omega arith);
    }

pub loop-i-preserved : goal.loop-i-preserved
loop-i-preserved c =
    let inv = c.loop-i.invariant in
    (omega arith, scan-next inv.1 (omega arith) (ne_eqb _ _ c.if-text-i.false))

pub returns : goal.returns
returns c =
    let inv = c.loop-i.invariant in
    record {
      value = scan-done inv.1 (omega arith);
      lower_bound = (c.requires, omega arith);
    }
