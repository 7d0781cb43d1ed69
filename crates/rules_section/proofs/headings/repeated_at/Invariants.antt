use Prim.Native.Nat.{◌≤◌}
use Rattle.laws.proofs.Search.{Scan}
use Rattle.laws.specs.Search.{first}
use Rattle.paper_rules.specs.Repeats.{heading_repeated}
use Rattle.rules_section.proofs.headings.repeated_at.Given as goal

abbrev pub invariant-loop-k : goal.invariant-loop-k
invariant-loop-k l =
    (l.n ≤ 6) × Scan (heading_repeated l.in_data l.common001 l.common l.table l.here l.fs)
    (first (heading_repeated l.in_data l.common001 l.common l.table l.here l.fs) 0 l.n) l.k l.n
