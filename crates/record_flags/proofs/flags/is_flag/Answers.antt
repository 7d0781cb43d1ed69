use Rattle.paper_record.specs.Flags.{is_flag}
use Rattle.record_flags.proofs.flags.is_flag.Goals as goal

pub returns : goal.returns
unfolding is_flag
returns c = c.equal_to.ensures
