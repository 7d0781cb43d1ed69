use Rattle.std.proofs.Common.{ℕ, sym}
use lib.ListN.{length-replicate}
use Rattle.program_cases.proofs.case_room.Goals as goal

-- The length of a list of equal bytes, by the law: a list as long as this is not to be computed.

pub returns : goal.returns
returns c = sym (length-replicate {0} {A = ℕ} 1620081 0)
