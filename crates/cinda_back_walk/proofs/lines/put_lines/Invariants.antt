use Rattle.cinda_back_walk.proofs.LinesStored.{Stored}
use Rattle.cinda_back_walk.proofs.lines.put_lines.Given as goal

abbrev pub invariant-loop-i : goal.invariant-loop-i
invariant-loop-i l = Stored l.lines l.initial.out l.n l.out l.i
