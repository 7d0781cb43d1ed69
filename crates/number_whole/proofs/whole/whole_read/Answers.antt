use mathlib.Core.Bool.{true, false}
use mathlib.Core.Path.{refl, sym, ap, ◌∙◌, ◌≡◌}
use Rattle.std.specs.Prelude.{is_some}
use Rattle.paper_number.proofs.WholeFrom.{from-few, none-whole}
use Rattle.paper_number.specs.Whole.{whole_of, whole_read, below_zero}
use Rattle.paper_number.specs.declared.types.Spelt.TheVariants as S
use Rattle.paper_number.specs.Walk.{spelt}
use Rattle.number_whole.proofs.whole.whole_read.Goals as goal

pub returns-in_default : goal.returns-in_default
unfolding whole_read
returns-in_default c =
    let e = c.spelt_in.ensures.0 in
    record { value = sym (sym (ap whole_of e) ∙ none-whole c.spelt_in.result c.in_default.not-Number); few = tt }

pub returns-then-is_some-clause-value : goal.returns-then-is_some-clause-value
unfolding whole_read
returns-then-is_some-clause-value c =
    let x = c.in-Number.x in
    let e : S.Number x ≡ spelt c.args.field = c.in-Number.ensures.0 in
    let r : is_some x.exponent ≡ true = sym c.is_some.ensures ∙ c.if-is_some.true in
    sym (sym (ap whole_of e) ∙ rw r refl)

pub returns-then-below_zero-clause-value : goal.returns-then-below_zero-clause-value
unfolding whole_read
returns-then-below_zero-clause-value c =
    let x = c.in-Number.x in
    let e : S.Number x ≡ spelt c.args.field = c.in-Number.ensures.0 in
    let r : is_some x.exponent ≡ false = sym c.is_some.ensures ∙ c.if-is_some.false in
    let b : below_zero x.negative x.number ≡ true = sym c.below_zero.ensures ∙ c.if-below_zero.true in
    sym (sym (ap whole_of e) ∙ rw (r, b) refl)

pub returns-clause-value : goal.returns-clause-value
unfolding whole_read
returns-clause-value c =
    let x = c.in-Number.x in
    let e : S.Number x ≡ spelt c.args.field = c.in-Number.ensures.0 in
    let r : is_some x.exponent ≡ false = sym c.is_some.ensures ∙ c.if-is_some.false in
    let b : below_zero x.negative x.number ≡ false = sym c.below_zero.ensures ∙ c.if-below_zero.false in
    c.whole_from.ensures ∙ sym (sym (ap whole_of e) ∙ rw (r, b) refl)

pub returns-clause-few : goal.returns-clause-few
returns-clause-few c =
    let x = c.in-Number.x in
    rw c.whole_from.ensures (from-few x.places x.number (record { few = c.in-Number.ensures.1.number }))
