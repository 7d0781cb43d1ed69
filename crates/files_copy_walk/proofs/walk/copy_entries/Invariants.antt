use Prim.Native.Nat.{◌-◌}
use Rattle.files_copy_walk.proofs.EntriesCopied.{Copying}
use lib.ListN.{length}
use Rattle.files_copy_walk.proofs.walk.copy_entries.Given as goal

abbrev pub invariant-loop-n : goal.invariant-loop-n
invariant-loop-n l = Copying l.file l.initial.out l.at l.n l.out

abbrev pub decreases-loop-n : goal.decreases-loop-n
decreases-loop-n l = length l.file - l.at
