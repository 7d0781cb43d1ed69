use mathlib.Core.Path.{◌≡◌, ◌∙◌}
use native.Mathlib.Omega.{arith}
use Rattle.index_making.proofs.Made.{answer-made, made_nothing, made-room, made-stored}
use Rattle.index_making.proofs.making.make_index.Goals as goal

pub returns-then-number-ne0 : goal.returns-then-number-ne0
returns-then-number-ne0 c =
    let at = c in
    let a = at.args in
    let v = at.judge-v in
    record {
      value = answer-made a.entry.now a.index.now v.result v.ensures _ at.refusal_for-number.ensures _
          c.answer_for-answer.ensures;
      index_after = made_nothing a.entry.now a.index.now v.result v.ensures _ at.refusal_for-number.ensures
          (λ z. omega (arith, c.if-number-ne0.true));
    }

pub store_rows-requires : goal.store_rows-requires
store_rows-requires c =
    let at = c in
    let a = at.args in
    let none : at.refusal_for-number.result ≡ 0 = omega (arith, c.if-number-ne0.false) in
    made-room a.entry.now a.index.now at.judge-v.result at.judge-v.ensures _
    at.refusal_for-number.ensures none

pub returns : goal.returns
returns c =
    let at = c in
    let a = at.args in
    let v = at.judge-v in
    let none : at.refusal_for-number.result ≡ 0 = omega (arith, c.if-number-ne0.false) in
    record {
      value = answer-made a.entry.now a.index.now v.result v.ensures _ at.refusal_for-number.ensures _
          c.answer_for-answer.ensures;
      index_after = c.store_rows.ensures
          ∙ made-stored a.entry.now a.index.now v.result v.ensures _ at.refusal_for-number.ensures none;
    }
