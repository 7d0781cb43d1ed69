use mathlib.Core.Path.{refl}
use borrow.Author.Tests.{eq-eqb, ne_eqb}
use Rattle.paper_decay_fields.specs.Parts.{nuclide_from}
use Rattle.decay_parts.proofs.places.nuclide_from.Goals as goal

pub returns-then-length-eq0 : goal.returns-then-length-eq0
unfolding nuclide_from
returns-then-length-eq0 c = rw (← c.flag_at-flag.ensures.0, eq-eqb _ _ c.if-length-eq0.true) refl

pub returns : goal.returns
unfolding nuclide_from
returns c = rw (← c.flag_at-flag.ensures.0, ne_eqb _ _ c.if-length-eq0.false) refl
