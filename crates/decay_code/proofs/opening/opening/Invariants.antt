use mathlib.Core.Path.{◌≡◌}
use Rattle.paper_codes.specs.Opening.{records_of, opening_of}
use Rattle.decay_code.proofs.Left.{Left}
use Rattle.decay_code.proofs.opening.opening.Given as goal

abbrev pub invariant-loop-i : goal.invariant-loop-i
invariant-loop-i l = (l.n ≡ records_of l.passage) × Left l.passage (opening_of l.passage l.j) l.left l.i l.n
