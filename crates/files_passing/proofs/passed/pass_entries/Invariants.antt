use Rattle.files_passing.proofs.Passing.{Passing}
use Prim.Native.Nat.{◌-◌}
use Rattle.files_passing.proofs.passed.pass_entries.Given as goal

abbrev pub invariant-loop-entries : goal.invariant-loop-entries
invariant-loop-entries l = Passing l.file l.most l.entries l.at

abbrev pub decreases-loop-entries : goal.decreases-loop-entries
decreases-loop-entries l = l.most - l.entries
