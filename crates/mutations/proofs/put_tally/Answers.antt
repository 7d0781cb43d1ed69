use Rattle.std.proofs.Common.{◌-◌}
use Rattle.mutations.proofs.put_tally.Goals as goal

-- Safe, and ends after 18 lines.

pub returns : goal.returns
returns c = tt
