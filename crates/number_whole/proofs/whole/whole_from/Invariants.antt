use Rattle.std.proofs.Common.{◌≡◌, ◌-◌, ◌≤◌}
use Rattle.paper_number.specs.Whole.{whole_from}
use Rattle.number_whole.proofs.whole.whole_from.Given as goal

abbrev pub invariant-loop : goal.invariant-loop
invariant-loop l = (l.counter ≤ l.behind) × (whole_from l.behind l.digits ≡ whole_from (l.behind - l.counter) l.number)
