use Rattle.paper_number.specs.Grammar.{blanks}
use lib.ListN.{drop}
use mathlib.Core.List.{◌++◌}
use mathlib.Core.Path.{◌≡◌}
use Rattle.canonical_parts.proofs.parts.put_blanks.Given as goal

abbrev pub invariant-loop-b : goal.invariant-loop-b
invariant-loop-b l = l.b-items ≡ blanks l.b-index ++ drop l.b-index l.initial.b-items
