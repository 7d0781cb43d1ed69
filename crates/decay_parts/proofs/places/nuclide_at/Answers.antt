use mathlib.Core.Path.{◌∙◌, ap}
use Prim.Native.Nat.{min}
use Rattle.paper_decay_fields.specs.Parts.{part_from, unspaced, nuclide_at}
use Rattle.decay_parts.proofs.places.nuclide_at.Goals as goal

pub returns : goal.returns
unfolding nuclide_at
returns c =
    let l = c.args.run.now in
    let e = c.field_at-field.ensures.0 in
    let f = c.nuclide_from-before.ensures in
    let k = c.least-k.ensures.0 ∙ (λ i. min (f i) (e i).length) in
    (c.unspaced.ensures.0 ∙ ap (unspaced l) (λ i. part_from (e i) (k i)), c.unspaced.ensures.1)
