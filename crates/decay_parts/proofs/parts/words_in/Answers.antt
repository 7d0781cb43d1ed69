use mathlib.Core.Path.{◌∙◌, ap, refl}
use mathlib.Core.List.{List}
use Prim.Native.Nat.{ℕ}
use borrow.Author.Tests.{eq-eqb, ne_eqb}
use lib.ListN.{length}
use Rattle.paper_decay.specs.Fields.{cut_at}
use Rattle.paper_decay_fields.specs.Parts.{words_in}
use Rattle.decay_parts.proofs.Within.{part-text}
use Rattle.decay_parts.proofs.parts.words_in.Goals as goal

pub returns-then-length-eq0 : goal.returns-then-length-eq0
unfolding words_in
returns-then-length-eq0 c = rw (eq-eqb _ _ c.if-length-eq0.true) refl

pub returns : goal.returns
unfolding words_in
returns c =
    let l = c.args.run.now in
    let p = c.args.p in
    let b = c.args.c in
    rw (ne_eqb _ _ c.if-length-eq0.false)
    (c.count_words.ensures ∙ ap (λ (t : List ℕ). length (cut_at b t)) (part-text l p))
