use Prim.Native.Nat.{ℕ}
use mathlib.Core.Path.{sym}
use lib.ListN.{length-replicate}
use Rattle.merges.proofs.writing.buffer.Goals as goal

-- The length of a list of equal bytes, by the law: a list as long as this is not to be computed.

pub returns : goal.returns
returns c = sym (length-replicate {0} {A = ℕ} 16200 126)
