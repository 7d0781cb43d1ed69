use Rattle.cinda_check.proofs.Lines.{check-start}
use Rattle.paper_cinda.proofs.Lines.{whole-lines}
use Rattle.laws.proofs.Turns.{run-done, run-next, run_out}
use Rattle.paper_cinda.specs.Check.{check_of, line_turn}
use Prim.Native.Nat.{◌-◌}
use lib.ListN.{length-drop, length-take}
use mathlib.Core.Path.{◌∙◌, refl, sym}
use native.Mathlib.Nat.{add-sub_cancel_left}
use native.Mathlib.Omega.{arith}
use Rattle.cinda_check.proofs.check.check.Goals as goal

pub returns-then-not-length_good : goal.returns-then-not-length_good
unfolding check_of
returns-then-not-length_good c =
    rw (← c.length_good.ensures, c.if-not-length_good.true) c.said_at.ensures

pub loop-i-init : goal.loop-i-init
loop-i-init c =
    let e = sym c.length_good.ensures ∙ c.if-not-length_good.false in
    let g = whole-lines _ e in
    (refl, g.whole, g.most, check-start _ e)

pub line_fault-found-requires : goal.line_fault-found-requires
line_fault-found-requires c =
    record { long = simp (length-take, length-drop) (omega arith) }

pub loop-i-preserved : goal.loop-i-preserved
unfolding line_turn
loop-i-preserved c =
    let v = c.loop-i.invariant in
    let h = rw add-sub_cancel_left at c.line_fault-found.ensures in
    (v.0, v.1, v.2, run-next v.3 (omega arith) (rw (← h, c.in-Ok.is)))

pub returns-in-Err : goal.returns-in-Err
unfolding line_turn
returns-in-Err c =
    let v = c.loop-i.invariant in
    let h = rw add-sub_cancel_left at c.line_fault-found.ensures in
    c.said_at-in-Err.ensures
    ∙ run_out v.3 (omega arith) (rw (← h, c.in-Err.is) refl)

pub returns : goal.returns
returns c = c.said_at-2.ensures ∙ run-done c.loop-i.invariant.3 (omega arith)
