use Rattle.revisions_merging.proofs.Writing.{Writing}
use Rattle.revisions_merging.proofs.merging.put_subentries.Given as goal

abbrev pub invariant-loop-n : goal.invariant-loop-n
invariant-loop-n l = Writing l.held l.revision l.initial.out l.out l.n l.c
