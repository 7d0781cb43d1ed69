use Rattle.paper_files.specs.File.{file_end}
use Rattle.files_state.proofs.state.File.finish.Goals as goal

pub returns : goal.returns
unfolding file_end
returns c = c.ending_of.ensures
