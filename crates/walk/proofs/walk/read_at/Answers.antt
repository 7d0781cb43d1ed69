use mathlib.Core.Path.{sym, ◌∙◌}
use native.Mathlib.Nat.{add-sub_cancel_left}
use native.Mathlib.Omega.{arith}
use Rattle.paper_questions.proofs.Records.{record-there}
use Rattle.paper_walk.proofs.FieldBytes.{no_field, field_past, field-there}
use Rattle.walk.proofs.walk.read_at.Goals as goal

pub returns-then-not-has_record : goal.returns-then-not-has_record
returns-then-not-has_record c =
    let d = c in
    let b = d in
    sym (no_field b.args.entry.now b.args.place b.requires
    (sym d.has_record.ensures ∙ c.if-not-has_record.true))

pub overflow_sub-before : goal.overflow_sub-before
overflow_sub-before c =
    let d = c in
    let b = d in
    let h = record-there b.args.entry.now b.args.place.at
    (sym d.has_record.ensures ∙ c.if-not-has_record.false) in
    omega arith

pub slice_bounds-read_number-end : goal.slice_bounds-read_number-end
slice_bounds-read_number-end c =
    let d = c in
    let b = d in
    let h = field_past b.args.entry.now b.args.place b.requires
    (sym d.has_record.ensures ∙ c.if-not-has_record.false) in
    omega arith

pub returns : goal.returns
returns c =
    let d = c in
    let b = d in
    let e = rw add-sub_cancel_left at c.read_number.ensures.value in
    e ∙ field-there b.args.entry.now b.args.place b.requires
    (sym d.has_record.ensures ∙ c.if-not-has_record.false)
