use Rattle.paper_rules.proofs.CodesNext.{Codes}
use Prim.Native.Nat.{◌/◌}
use Rattle.paper_number.specs.Whole.{Short}
use lib.ListN.{length}
use mathlib.Core.Path.{◌≡◌}
use Rattle.rules_codes.proofs.codes.code_in.Given as goal

abbrev pub invariant-loop-i : goal.invariant-loop-i
invariant-loop-i l = (l.i-end ≡ length l.part / 81) × Short l.n × Codes l.part l.n l.under l.i
