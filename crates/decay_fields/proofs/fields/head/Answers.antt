use mathlib.Core.Path.{◌∙◌, ap, sym}
use Rattle.paper_decay_fields.specs.Asked.{no_head, head_of}
use Rattle.decay_fields.proofs.fields.head.Goals as goal

pub returns-then-is_code : goal.returns-then-is_code
unfolding head_of
returns-then-is_code c =
    let e = sym c.is_code.ensures ∙ c.if-is_code.true in
    rw e c.head_in.ensures

pub returns : goal.returns
unfolding head_of
returns c =
    let e = sym c.is_code.ensures ∙ c.if-is_code.false in
    rw e (c.no_head.ensures ∙ ap no_head c.goes_to.ensures)
