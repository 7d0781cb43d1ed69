use Prim.Native.Nat.{◌-◌, ◌/◌}
use mathlib.Core.Path.{refl}
use native.Mathlib.Omega.{arith}
use borrow.Author.Tests.{eq-eqb, ne_eqb}
use lib.ListN.{length}
use Rattle.laws.proofs.Search.{scan-all, scan-done, scan-found, scan-next}
use Rattle.paper_index.specs.ByIndex.{rows_before}
use Rattle.index_finding.proofs.finding.rows_before.Goals as goal

pub loop-i-init : goal.loop-i-init
unfolding rows_before
loop-i-init c = (refl, scan-all (length c.args.index.now / 5))

pub returns-then-index-at : goal.returns-then-index-at
returns-then-index-at c =
    record {
      value = scan-found c.loop-i.invariant.1 (omega arith) (eq-eqb _ _ c.if-index-at.true);
      upper_bound = omega arith;
    }

pub loop-i-preserved : goal.loop-i-preserved
loop-i-preserved c = (refl, scan-next c.loop-i.invariant.1 (omega arith) (ne_eqb _ _ c.if-index-at.false))

pub returns : goal.returns
returns c =
    record {
      value = scan-done c.loop-i.invariant.1 (omega arith);
      upper_bound = omega arith;
    }
