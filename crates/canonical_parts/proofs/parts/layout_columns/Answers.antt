use Rattle.paper_canonical.specs.Storing.{layout_columns}
use native.Mathlib.Omega.{arith}
use Rattle.canonical_parts.proofs.parts.layout_columns.Goals as goal

pub returns : goal.returns
unfolding layout_columns
returns c = omega (arith, c.exponent_columns.ensures, c.sign_columns.ensures)
