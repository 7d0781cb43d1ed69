use mathlib.Core.Path.{sym, ◌∙◌}
use Rattle.cinda_answers.proofs.Answers.{refused-lines, such-line, no_such_line}
use Rattle.cinda_answers.proofs.asked.asked.Goals as goal

pub returns-then-number-ne0 : goal.returns-then-number-ne0
returns-then-number-ne0 c = refused-lines _ c.args.n _ c.requires c.if-number-ne0.true

pub returns-then-has_line : goal.returns-then-has_line
returns-then-has_line c =
    let at = c in
    let there = sym c.has_line.ensures ∙ c.if-has_line.true in
    c.said.ensures ∙ such-line at.args.lines.now at.args.n _ at.requires
    c.if-number-ne0.false there

pub returns : goal.returns
returns c =
    let at = c in
    let none = sym c.has_line.ensures ∙ c.if-has_line.false in
    c.said-2.ensures ∙ no_such_line at.args.lines.now at.args.n _ at.requires
    c.if-number-ne0.false none
