use Rattle.laws.proofs.Turns.{Run}
use Prim.Native.Nat.{◌*◌, ◌-◌, ◌/◌, ◌≤◌}
use Rattle.entry_step.specs.ByRanges.{finish_of, judge_by_ranges, step_turn}
use Rattle.paper_rules.specs.Limits.{MOST-RECORDS}
use Rattle.paper_rules.specs.Ranging.{Stands}
use lib.ListN.{length, take}
use mathlib.Core.Path.{◌≡◌}
use Rattle.entry.proofs.judge.judge.Given as goal

abbrev pub invariant-loop-i : goal.invariant-loop-i
invariant-loop-i l =
    (l.n ≡ length l.entry / 81) × (length l.entry ≡ length l.entry / 81 * 81) × (length l.entry / 81 ≤ MOST-RECORDS)
    × (l.j.track.records.0 ≡ l.i) × Stands l.j.track l.j.ranges (take (l.i * 81) l.entry)
    × Run (step_turn l.entry) finish_of (judge_by_ranges l.entry) l.j l.i l.n

abbrev pub decreases-loop-i : goal.decreases-loop-i
decreases-loop-i l = l.n - l.i
