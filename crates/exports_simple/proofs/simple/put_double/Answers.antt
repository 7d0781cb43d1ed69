use mathlib.Core.Path.{refl}
use Rattle.exports_simple.proofs.simple.put_double.Goals as goal

pub returns-in-Double : goal.returns-in-Double
returns-in-Double c = rw c.in-Double.is refl
