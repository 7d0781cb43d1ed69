use Rattle.laws.proofs.Members.{Look}
use Rattle.laws.specs.Members.{any_of}
use Rattle.paper_rules.specs.Pointers.{heading_pointer_at, heading_pointers}
use Rattle.paper_rules.specs.Earlier.{headings_in}
use lib.Dec.{eqb}
use mathlib.Core.Path.{◌≡◌}
use Rattle.rules_pointers.proofs.pointers.heading_pointer_in.Given as goal

abbrev pub invariant-loop-m : goal.invariant-loop-m
invariant-loop-m l =
    (l.m-end ≡ headings_in l.part) × Look (eqb l.pointer) (heading_pointer_at l.part) (any_of (eqb l.pointer) (heading_pointers l.part)) l.m l.m-end
