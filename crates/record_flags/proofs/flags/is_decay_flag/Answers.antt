use Rattle.paper_record.specs.Flags.{is_decay_flag}
use Rattle.record_flags.proofs.flags.is_decay_flag.Goals as goal

pub returns : goal.returns
unfolding is_decay_flag
returns c = c.equal_to.ensures
