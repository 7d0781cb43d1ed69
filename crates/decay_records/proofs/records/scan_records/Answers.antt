use Prim.Native.Nat.{◌+◌}
use Prim.Native.Nat.{◌-◌, ◌*◌}
use mathlib.Core.Path.{◌≡◌, refl, ◌∙◌}
use native.Mathlib.Omega.{arith}
use Rattle.laws.proofs.Turns.{run-done, run-next, run_out}
use Rattle.paper_decay.specs.Records.{record_turn, scan_records}
use Rattle.decay_records.proofs.records.scan_records.Goals as goal

pub loop-i-init : goal.loop-i-init
unfolding scan_records
loop-i-init c =
    let pre = c.requires in
    (pre, record { low = pre.ordered; rest = refl })

pub returns-then-not-going : goal.returns-then-not-going
unfolding record_turn
returns-then-not-going c =
    let i = c.loop-i.i in
    let inv = c.loop-i.invariant in
    let t = c.turned_at-t in
    let z : i * 81 + 11 + 55 - (i * 81 + 11) ≡ 55 = omega arith in
    let e = rw z at t.ensures in
    run_out inv.1 (omega arith) (rw (← e, c.if-not-going.true) refl)

pub loop-i-preserved : goal.loop-i-preserved
unfolding record_turn
loop-i-preserved c =
    let i = c.loop-i.i in
    let inv = c.loop-i.invariant in
    let t = c.turned_at-t in
    let z : i * 81 + 11 + 55 - (i * 81 + 11) ≡ 55 = omega arith in
    let e = rw z at t.ensures in
    (inv.0, run-next inv.1 (omega arith) (rw (← e, c.if-not-going.false) refl))

pub returns : goal.returns
returns c = c.said.ensures ∙ run-done c.loop-i.invariant.1 (omega arith)
