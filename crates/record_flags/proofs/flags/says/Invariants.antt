use Rattle.paper_number.specs.Whole.{Short}
use Prim.Native.Nat.{◌-◌, ◌≤◌}
use Rattle.paper_record.proofs.Codes.{Saying}
use Rattle.paper_record.specs.Flags.{code_digits}
use Rattle.paper_record.specs.PlainFlags.{TextColumns}
use Rattle.record_flags.proofs.flags.says.Given as goal

abbrev pub invariant-loop-j : goal.invariant-loop-j
invariant-loop-j l = TextColumns l.x × Short l.n × (l.m ≤ code_digits l.x) × Saying l.x l.m l.n l.number l.j
