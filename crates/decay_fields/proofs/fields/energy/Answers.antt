use mathlib.Core.Path.{◌∙◌, ap, sym}
use Prim.Native.Nat.{ℕ, ◌-◌}
use Rattle.paper_record.specs.Text.{within}
use Rattle.paper_decay_fields.specs.declared.types.Part.{Part}
use Rattle.paper_decay_fields.specs.Parts.{number_in, word_in, words_in}
use Rattle.paper_decay_fields.specs.Asked.{energy_of}
use Rattle.decay_fields.proofs.Numbered.{from_one}
use Rattle.decay_fields.proofs.fields.energy.Goals as goal

pub returns-then-not-has_group : goal.returns-then-not-has_group
unfolding energy_of
returns-then-not-has_group c =
    let e = sym c.has_group.ensures ∙ c.if-not-has_group.true in
    rw e c.no_number.ensures

pub returns-then-not-is_within : goal.returns-then-not-is_within
unfolding energy_of
returns-then-not-is_within c =
    let l = c.args.run.now in
    let i = c.args.at in
    let e = sym c.has_group.ensures ∙ c.if-not-has_group.false in
    let m = c.words_in-n.ensures ∙ ap (words_in 47 l) c.energies_at-energies.ensures.0 in
    let w = sym (ap (λ (n : ℕ). within 1 n i) m) ∙ (sym c.is_within.ensures ∙ c.if-not-is_within.true) in
    rw (e, w) c.no_number-then-not-is_within.ensures

pub overflow_sub-i : goal.overflow_sub-i
overflow_sub-i c =
    let e = sym c.is_within.ensures ∙ c.if-not-is_within.false in
    from_one _ _ e

pub returns : goal.returns
unfolding energy_of
returns c =
    let l = c.args.run.now in
    let i = c.args.at in
    let e = sym c.has_group.ensures ∙ c.if-not-has_group.false in
    let m = c.words_in-n.ensures ∙ ap (words_in 47 l) c.energies_at-energies.ensures.0 in
    let w = sym (ap (λ (n : ℕ). within 1 n i) m) ∙ (sym c.is_within.ensures ∙ c.if-not-is_within.false) in
    let word = c.word_in-word.ensures.0 ∙ ap (λ (p : Part). word_in 47 l p (i - 1)) c.energies_at-energies.ensures.0 in
    rw (e, w) (c.number_in.ensures ∙ ap (number_in l) word)
