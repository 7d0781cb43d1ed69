use mathlib.Core.Path.{refl}
use Rattle.cinda_apart.proofs.apart.no_line.Goals as goal

pub returns : goal.returns
returns c = refl
