use mathlib.Core.Path.{refl}
use Rattle.files_state.proofs.state.File.new.Goals as goal

pub returns : goal.returns
returns c = rw c.new-judge.ensures refl
