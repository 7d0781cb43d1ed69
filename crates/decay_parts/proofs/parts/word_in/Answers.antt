use mathlib.Core.Path.{◌∙◌, ap}
use mathlib.Core.List.{List}
use Prim.Native.Nat.{ℕ, ◌+◌}
use native.Mathlib.Omega.{arith}
use Rattle.paper_decay_fields.specs.declared.types.Part.{Part}
use Rattle.paper_decay_fields.specs.Parts.{part, word_at, word_in}
use Rattle.decay_parts.proofs.Within.{part-text, part-long}
use Rattle.decay_parts.proofs.parts.word_in.Goals as goal

pub returns : goal.returns
unfolding word_in
returns c =
    let l = c.args.run.now in
    let p = c.args.p in
    let k = c.args.k in
    let b = c.args.c in
    let e = c.word_at-word.ensures.value ∙ ap (λ (t : List ℕ). word_at b t k) (part-text l p) in
    let long = part-long l p c.requires in
    let h = c.word_at-word.ensures.length_in_bounds in
    (ap (λ (w : Part). part (p.first + w.first) w.length) e, omega arith)
