use Rattle.std.proofs.Common.{◌≡◌, ◌+◌, ◌*◌, ◌-◌, ◌≤◌, ◌^◌, length, ℕ, false}
use Rattle.paper_number.specs.Reading.{Scan, digit, column, scan_step}
use Rattle.paper_number.specs.Walk.{read_from}
use Rattle.number_walk.proofs.walk.digits_from.Given as goal

abbrev pub invariant-loop-i : goal.invariant-loop-i
invariant-loop-i l =
    (l.from ≤ l.i) × (l.i ≤ length l.s) × ((c : ℕ) → (l.first + 1) * c ≤ 10 ^ l.from → (l.number + 1) * c ≤ 10 ^ l.i)
    × ((t : ℕ → ℕ → Scan) → ((k c d : ℕ) → scan_step (t k c) (column digit d false) ≡ t (k + 1) (c * 10 + d))
    → read_from (t 0 l.first) l.from l.s ≡ read_from (t (l.i - l.from) l.number) l.i l.s)
