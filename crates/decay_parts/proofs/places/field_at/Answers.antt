use mathlib.Core.Path.{◌∙◌, ap}
use mathlib.Core.List.{List}
use Prim.Native.Nat.{ℕ}
use Rattle.paper_decay_fields.specs.Parts.{word_at, unspaced, field_at}
use Rattle.decay_parts.proofs.Within.{most-text}
use Rattle.decay_parts.proofs.places.field_at.Goals as goal

pub returns : goal.returns
unfolding field_at
returns c =
    let l = c.args.run.now in
    let k = c.args.k in
    let q = most-text l _ c.all_but_last-past.ensures in
    let e = c.word_at-word.ensures.value ∙ ap (λ (t : List ℕ). word_at 44 t k) q in
    (c.unspaced.ensures.0 ∙ ap (unspaced l) e, c.unspaced.ensures.1)
