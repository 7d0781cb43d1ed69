use Prim.Native.Nat.{◌≤◌}
use Rattle.laws.proofs.Search.{Scan}
use Rattle.laws.specs.Search.{first}
use Rattle.paper_rules.specs.Pointers.{lost_at, pointers_for}
use Rattle.rules_pointers.proofs.pointers.lost_at.Given as goal

abbrev pub invariant-loop-k : goal.invariant-loop-k
invariant-loop-k l =
    (l.n ≤ 6) × Scan (lost_at (pointers_for l.bib l.bib001 l.common l.common001) l.fs)
    (first (lost_at (pointers_for l.bib l.bib001 l.common l.common001) l.fs) 0 l.n) l.k l.n
