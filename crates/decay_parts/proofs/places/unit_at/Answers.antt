use mathlib.Core.Path.{◌∙◌, ap}
use native.Mathlib.Omega.{arith}
use Rattle.paper_decay.specs.Fields.{front}
use Rattle.paper_decay_fields.specs.declared.types.Part.{Part}
use Rattle.paper_decay_fields.specs.Parts.{text_in, part_from, unit_at}
use Rattle.decay_parts.proofs.places.unit_at.Goals as goal

pub returns : goal.returns
unfolding unit_at
returns c =
    let l = c.args.run.now in
    let e = c.field_at-field.ensures.0 in
    let k = c.front_in-k.ensures.0 ∙ ap (λ (p : Part). front (text_in l p)) e in
    (λ i. part_from (e i) (k i), omega arith)
