use Rattle.paper_canonical.proofs.Layouts.{down-among, down-behind}
use mathlib.Core.Path.{◌∙◌}
use Rattle.canonical_layout.proofs.layout.layout_down.Goals as goal

pub returns-then-t-e : goal.returns-then-t-e
returns-then-t-e c = c.plain_layout.ensures ∙ down-among c.args.d c.args.t c.if-t-e.true

pub returns-then-t-e-2 : goal.returns-then-t-e-2
returns-then-t-e-2 c =
    c.plain_layout-then-t-e-2.ensures ∙ down-behind c.args.d c.args.t c.if-t-e.false c.if-t-e-2.true

pub returns : goal.returns
returns c = c.layout_raised.ensures
