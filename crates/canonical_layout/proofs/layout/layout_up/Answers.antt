use Rattle.paper_number.proofs.Count.{count-pos}
use Rattle.paper_canonical.proofs.Layouts.{up_one, up-plain, up-ten}
use mathlib.Core.Path.{◌∙◌, sym}
use Rattle.canonical_layout.proofs.layout.layout_up.Goals as goal

pub returns-then-p-le2 : goal.returns-then-p-le2
returns-then-p-le2 c = c.plain_layout.ensures ∙ up-plain c.args.d c.args.p c.if-p-le2.true

pub overflow_sub-result : goal.overflow_sub-result
overflow_sub-result c = rw c.measured-digits.ensures.0 (count-pos c.args.p)

pub returns-then-p-least : goal.returns-then-p-least
returns-then-p-least c =
    up-ten c.args.d c.args.p c.if-p-le2.false
    c.measured-digits.result.digits c.measured-digits.ensures.0
    (c.if-p-least.true ∙ c.measured-digits.ensures.1)

pub returns : goal.returns
returns c =
    up_one c.args.d c.args.p c.if-p-le2.false
    c.measured-digits.result.digits c.measured-digits.ensures.0
    (λ e. c.if-p-least.false (e ∙ sym c.measured-digits.ensures.1))
