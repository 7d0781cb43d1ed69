use Rattle.files_copy_laws.proofs.Made.{file-refused, file-short, file-room, file-made}
use mathlib.Core.Path.{◌∙◌}
use Rattle.files_copy.proofs.copy_file.copy_file.Goals as goal

pub returns-then-v-ne0 : goal.returns-then-v-ne0
returns-then-v-ne0 c =
    let a = c.args in
    let v = c.judge_file-v in
    let p = file-refused a.file.now a.out.now v.result v.ensures c.if-v-ne0.true in
    (c.answer_for.ensures ∙ p.0, p.1)

pub returns-then-out-file : goal.returns-then-out-file
returns-then-out-file c =
    let a = c.args in
    let v = c.judge_file-v in
    let p = file-short a.file.now a.out.now v.result v.ensures c.if-v-ne0.false
    c.if-out-file.true in
    (c.answer_of.ensures ∙ p.0, p.1)

pub copy_entries-requires : goal.copy_entries-requires
copy_entries-requires c =
    let a = c.args in
    let v = c.judge_file-v in
    file-room a.file.now a.out.now v.result v.ensures c.if-v-ne0.false
    c.if-out-file.false

pub returns : goal.returns
returns c =
    let a = c.args in
    let v = c.judge_file-v in
    let at = c in
    let p = file-made a.file.now a.out.now v.result v.ensures at.if-v-ne0.false at.if-out-file.false in
    (c.answer_of-2.ensures ∙ p.0, c.copy_entries.ensures ∙ p.1)
