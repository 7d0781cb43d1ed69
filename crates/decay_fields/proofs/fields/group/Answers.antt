use mathlib.Core.Path.{◌∙◌, ap, sym}
use Rattle.paper_decay_fields.specs.Parts.{words_in, number_in}
use Rattle.paper_decay_fields.specs.Asked.{group_of}
use Rattle.decay_fields.proofs.Numbered.{group-from-one}
use Rattle.decay_fields.proofs.fields.group.Goals as goal

pub returns-then-not-has_group : goal.returns-then-not-has_group
unfolding group_of
returns-then-not-has_group c =
    let e = sym c.has_group.ensures ∙ c.if-not-has_group.true in
    rw e c.no_group.ensures

pub types_at-requires : goal.types_at-requires
types_at-requires c =
    let e = sym c.has_group.ensures ∙ c.if-not-has_group.false in
    group-from-one _ _ e

pub returns : goal.returns
unfolding group_of
returns c =
    let l = c.args.run.now in
    let e = sym c.has_group.ensures ∙ c.if-not-has_group.false in
    let types = c.words_in-types.ensures ∙ ap (words_in 47 l) c.types_at.ensures.0 in
    let energies = c.words_in-energies.ensures ∙ ap (words_in 47 l) c.energies_at.ensures.0 in
    let abundance = c.number_in-abundance.ensures ∙ ap (number_in l) c.abundance_at.ensures.0 in
    rw e (λ i. record { types = types i; energies = energies i; abundance = abundance i })
