use mathlib.Core.Path.{◌∙◌, ap}
use lib.ListN.{length}
use Rattle.paper_cinda.specs.Apart.{line_of}
use Rattle.cinda_answers.proofs.Answers.{refused-line, answered-line}
use Rattle.paper_cinda.proofs.Lines.{asked-there}
use Rattle.cinda_answers.proofs.StandsThere.{line-lent}
use borrow.Author.Rules.{rules}
use Rattle.cinda_answers.proofs.asked.line_asked.Goals as goal

pub returns-then-number-ne0 : goal.returns-then-number-ne0
returns-then-number-ne0 c =
    let at = c in
    refused-line at.args.lines.now at.args.n _ at.requires _ c.no_line-line.ensures c.if-number-ne0.true

pub overflow_sub-index : goal.overflow_sub-index
overflow_sub-index c =
    let at = c in
    let there = asked-there at.args.lines.now at.args.n (rw (← at.requires) c.if-number-ne0.false) in
    let a = there.from_one in
    let z = there.to_last in
    search rules

pub overflow_mul-first : goal.overflow_mul-first
overflow_mul-first c =
    let at = c in
    let there = asked-there at.args.lines.now at.args.n (rw (← at.requires) c.if-number-ne0.false) in
    let a = there.from_one in
    let z = there.to_last in
    search rules

pub overflow_add-past : goal.overflow_add-past
overflow_add-past c =
    let at = c in
    let there = asked-there at.args.lines.now at.args.n (rw (← at.requires) c.if-number-ne0.false) in
    let a = there.from_one in
    let z = there.to_last in
    search rules

pub slice_bounds-line_of-end : goal.slice_bounds-line_of-end
slice_bounds-line_of-end c =
    let at = c in
    let there = asked-there at.args.lines.now at.args.n (rw (← at.requires) c.if-number-ne0.false) in
    let a = there.from_one in
    let z = there.to_last in
    search rules

pub line_of-line-requires : goal.line_of-line-requires
line_of-line-requires c =
    let at = c in
    let there = asked-there at.args.lines.now at.args.n (rw (← at.requires) c.if-number-ne0.false) in
    let (same, wide) = line-lent at.args.lines.now at.args.n there in
    record { long = ap length same ∙ wide }

pub returns : goal.returns
returns c =
    let at = c in
    let none = c.if-number-ne0.false in
    let there = asked-there at.args.lines.now at.args.n (rw (← at.requires) none) in
    let (same, wide) = line-lent at.args.lines.now at.args.n there in
    answered-line at.args.lines.now at.args.n _ at.requires _ (c.line_of-line.ensures ∙ ap line_of same) none
