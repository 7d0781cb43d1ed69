use Rattle.paper_files.specs.File.{ordinal_of}
use Rattle.files_state.proofs.state.File.ordinal.Goals as goal

pub returns : goal.returns
unfolding ordinal_of
returns c = c.ordinal_of.ensures
