use native.Mathlib.Omega.{arith}
use Rattle.cinda_answers.proofs.Answers.{refused-piece, answered-piece}
use Rattle.paper_cinda.proofs.Lines.{asked-there, piece-room}
use borrow.Author.Rules.{rules}
use Rattle.cinda_answers.proofs.pieces.piece_asked.Goals as goal

pub returns-then-number-ne0 : goal.returns-then-number-ne0
returns-then-number-ne0 c =
    let at = c in
    refused-piece at.args.lines.now at.args.n _ at.requires at.args.p c.if-number-ne0.true

pub overflow_sub-index : goal.overflow_sub-index
overflow_sub-index c =
    let at = c in
    let there = asked-there at.args.lines.now at.args.n (rw (← at.requires) c.if-number-ne0.false) in
    let a = there.from_one in
    let z = there.to_last in
    search rules

pub overflow_mul-before : goal.overflow_mul-before
overflow_mul-before c =
    let at = c in
    let there = asked-there at.args.lines.now at.args.n (rw (← at.requires) c.if-number-ne0.false) in
    let a = there.from_one in
    let z = there.to_last in
    search rules

pub overflow_sub-behind : goal.overflow_sub-behind
overflow_sub-behind c =
    let one = (piece-room c.args.p).0 in
    let e = c.column_of-column.ensures in
    omega (arith, one, e)

pub overflow_add-first : goal.overflow_add-first
overflow_add-first c =
    let at = c in
    let there = asked-there at.args.lines.now at.args.n (rw (← at.requires) c.if-number-ne0.false) in
    let a = there.from_one in
    let z = there.to_last in
    let room = (piece-room at.args.p).1 in
    let one = (piece-room at.args.p).0 in
    let e = c.column_of-column.ensures in
    search rules

pub returns : goal.returns
returns c =
    let at = c in
    answered-piece at.args.lines.now at.args.n _ at.requires at.args.p _ _
    c.column_of-column.ensures c.width_of-width.ensures c.if-number-ne0.false
