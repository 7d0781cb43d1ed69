use Prim.Native.Nat.{◌-◌}
use Rattle.laws.proofs.Search.{scan-all, scan-done, scan-found, scan-next}
use borrow.Author.Tests.{eq-eqb, ne_eqb}
use mathlib.Core.Path.{◌∙◌, refl, sym}
use native.Mathlib.Omega.{arith}
use Rattle.revisions_extents.proofs.extents.first_of.Goals as goal

pub loop-i-init : goal.loop-i-init
loop-i-init c = (refl, scan-all _)

pub returns-then-number_at-n : goal.returns-then-number_at-n
returns-then-number_at-n c =
    let k = c.loop-i.invariant.1 in
    let said = eq-eqb _ _ (sym c.number_at.ensures ∙ c.if-number_at-n.true) in
    let there = c.loop-i.invariant.0 in
    record {
      value = scan-found k (omega arith) said;
      upper_bound = omega arith;
    }

pub loop-i-preserved : goal.loop-i-preserved
loop-i-preserved c =
    let k = c.loop-i.invariant in
    (k.0, scan-next k.1 (omega arith) (ne_eqb _ _ (λ e. c.if-number_at-n.false (c.number_at.ensures ∙ e))))

pub returns : goal.returns
returns c =
    let k = c.loop-i.invariant in
    record {
      value = scan-done k.1 (omega arith);
      upper_bound = omega (arith, k.0);
    }
