use mathlib.Core.Path.{◌∙◌, refl, sym}
use Rattle.revisions_merging.proofs.chosen.one_of.Goals as goal

pub returns-then-some : goal.returns-then-some
returns-then-some c =
    let e = sym c.some.ensures ∙ c.if-some.true in
    rw e refl

pub returns-then-some-2 : goal.returns-then-some-2
returns-then-some-2 c =
    let e = sym c.some.ensures ∙ c.if-some.false in
    let f = sym c.some-2.ensures ∙ c.if-some-2.true in
    rw (e, f) refl

pub returns : goal.returns
returns c =
    let e = sym c.some.ensures ∙ c.if-some.false in
    let f = sym c.some-2.ensures ∙ c.if-some-2.false in
    rw (e, f) refl
