use mathlib.Core.Path.{◌∙◌, ap}
use Rattle.paper_decay_fields.specs.declared.types.Part.{Part}
use Rattle.paper_decay_fields.specs.Parts.{or_none, word_in, number_in}
use Rattle.decay_fields.proofs.fields.head_in.Goals as goal

pub returns : goal.returns
returns c =
    let l = c.args.run.now in
    let n = c.nuclide_at-nuclide.ensures.0 in
    let flag = c.or_none-flag.ensures ∙ ap or_none c.flag_at.ensures.0 in
    let z = c.nuclide_word-z.ensures ∙ ap (λ (p : Part). or_none (word_in 45 l p 0)) n in
    let symbol = c.nuclide_word-symbol.ensures ∙ ap (λ (p : Part). or_none (word_in 45 l p 1)) n in
    let a = c.nuclide_word-a.ensures ∙ ap (λ (p : Part). or_none (word_in 45 l p 2)) n in
    let isomer = c.nuclide_word-isomer.ensures ∙ ap (λ (p : Part). or_none (word_in 45 l p 3)) n in
    let half = c.number_in-half.ensures ∙ ap (number_in l) c.half_at.ensures.0 in
    let unit = c.or_none-unit.ensures ∙ ap or_none c.unit_at.ensures.0 in
    let groups = c.groups_in-groups.ensures in
    λ i. record {
      number = 0;
      at = 0;
      flag = flag i;
      z = z i;
      symbol = symbol i;
      a = a i;
      isomer = isomer i;
      half = half i;
      unit = unit i;
      groups = groups i;
    }
