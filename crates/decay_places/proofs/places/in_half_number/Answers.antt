use mathlib.Core.Path.{refl, sym, ◌∙◌}
use Rattle.paper_decay.specs.Scan.{half_number_step}
use Rattle.decay_places.proofs.places.in_half_number.Goals as goal

pub returns-then-number_whole : goal.returns-then-number_whole
unfolding half_number_step
returns-then-number_whole c = rw (c.behind_number.ensures, ← c.number_next-n.ensures, sym c.number_whole.ensures ∙ c.if-number_whole.true) refl

pub returns : goal.returns
unfolding half_number_step
returns c = rw (c.number_more.ensures, ← c.number_next-n.ensures, sym c.number_whole.ensures ∙ c.if-number_whole.false) refl
