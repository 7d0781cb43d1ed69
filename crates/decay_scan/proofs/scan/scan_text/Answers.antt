use mathlib.Core.Path.{refl, sym, ◌∙◌}
use native.Mathlib.Omega.{arith}
use Rattle.laws.proofs.Turns.{run-all, run-done, run-next, run_out}
use Rattle.paper_decay.specs.Scan.{scan_text, text_turn}
use Rattle.decay_scan.proofs.scan.scan_text.Goals as goal

pub loop-i-init : goal.loop-i-init
unfolding scan_text
loop-i-init c = (omega arith, run-all _)

pub returns-then-is_stopped : goal.returns-then-is_stopped
unfolding text_turn
returns-then-is_stopped c =
    let r = c.loop-i.invariant.1 in
    let e = sym c.is_stopped.ensures ∙ c.if-is_stopped.true in
    record {
      value = run_out r (omega arith) (rw (← c.step-t.ensures, e) refl);
      at_in_bounds = omega arith;
    }

pub loop-i-preserved : goal.loop-i-preserved
unfolding text_turn
loop-i-preserved c =
    let r = c.loop-i.invariant.1 in
    let e = sym c.is_stopped.ensures ∙ c.if-is_stopped.false in
    (omega arith, run-next r (omega arith) (rw (← c.step-t.ensures, e) refl))

pub returns : goal.returns
returns c =
    record {
      value = run-done c.loop-i.invariant.1 (omega arith);
      at_in_bounds = omega arith;
    }
