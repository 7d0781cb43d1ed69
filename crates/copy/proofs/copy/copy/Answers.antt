use Rattle.paper_copy.proofs.Made.{made-copied, made-room, refused-copied, short-copied}
use mathlib.Core.Path.{◌∙◌}
use Rattle.copy.proofs.copy.copy.Goals as goal

pub returns-then-v-ne0 : goal.returns-then-v-ne0
returns-then-v-ne0 c =
    let p = refused-copied c.args.entry.now
    c.args.out.now c.judge-v.result
    c.judge-v.ensures c.if-v-ne0.true in
    (c.answer_for.ensures ∙ p.0, p.1)

pub returns-then-out-entry : goal.returns-then-out-entry
returns-then-out-entry c =
    let p = short-copied c.args.entry.now
    c.args.out.now
    c.judge-v.result c.judge-v.ensures
    c.if-v-ne0.false c.if-out-entry.true in
    (c.answer_of.ensures ∙ p.0, p.1)

pub copy_records-requires : goal.copy_records-requires
copy_records-requires c =
    made-room c.args.entry.now
    c.args.out.now
    c.judge-v.result c.judge-v.ensures
    c.if-v-ne0.false c.if-out-entry.false

pub returns : goal.returns
returns c =
    let p = made-copied
    c.args.entry.now
    c.args.out.now
    c.judge-v.result
    c.judge-v.ensures
    c.if-v-ne0.false
    c.if-out-entry.false in
    (c.answer_of-2.ensures ∙ p.0, c.copy_records.ensures ∙ p.1)
