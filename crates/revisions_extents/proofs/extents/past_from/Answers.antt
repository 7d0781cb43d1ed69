use Prim.Native.Nat.{◌-◌}
use Rattle.laws.proofs.Search.{scan-upto, scan-done, scan-found, scan-next}
use borrow.Author.Tests.{eq-eqb, ne_eqb}
use mathlib.Core.Bool.{not}
use mathlib.Core.Path.{◌∙◌, refl, sym, ap}
use native.Mathlib.Omega.{arith}
use Rattle.revisions_extents.proofs.extents.past_from.Goals as goal

pub loop-i-init : goal.loop-i-init
loop-i-init c = (refl, scan-upto _ c.requires, omega arith)

pub returns-then-number_at-n : goal.returns-then-number_at-n
returns-then-number_at-n c =
    let k = c.loop-i.invariant in
    let said = ap not (ne_eqb _ _ (λ e. c.if-number_at-n.true (c.number_at.ensures ∙ e))) in
    record {
      value = scan-found k.1 (omega arith) said;
      lower_bound = k.2;
      upper_bound = omega (arith, k.0);
    }

pub loop-i-preserved : goal.loop-i-preserved
loop-i-preserved c =
    let k = c.loop-i.invariant in
    let said = ap not (eq-eqb _ _ (sym c.number_at.ensures ∙ c.if-number_at-n.false)) in
    (k.0, scan-next k.1 (omega arith) said, omega (arith, k.2))

pub returns : goal.returns
returns c =
    let k = c.loop-i.invariant in
    record {
      value = scan-done k.1 (omega arith);
      lower_bound = omega (arith, k.0, k.1.low, k.2);
      upper_bound = omega (arith, k.0);
    }
