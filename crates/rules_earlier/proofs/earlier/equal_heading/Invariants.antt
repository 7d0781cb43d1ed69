use Rattle.std.proofs.Common.{None}
use Rattle.laws.proofs.Search.{Scan}
use Rattle.laws.proofs.Turns.{Run}
use Rattle.paper_rules.specs.Earlier.{earlier, equal_at, equal_heading, equal_in, nowhere, section_turn}
use mathlib.Core.Path.{◌≡◌}
use Rattle.rules_earlier.proofs.earlier.equal_heading.Given as goal

abbrev pub invariant-loop-m : goal.invariant-loop-m
invariant-loop-m l =
    (l.found ≡ None) × Scan (equal_at l.f l.part) (equal_in l.f l.part l.m-end) l.m l.m-end

abbrev pub invariant-sections : goal.invariant-sections
invariant-sections l =
    (l.found ≡ None) × Run (section_turn l.f (earlier l.common001 l.common l.table l.here l.left)) nowhere
    (equal_heading l.f (earlier l.common001 l.common l.table l.here l.left)) tt l.s 4
