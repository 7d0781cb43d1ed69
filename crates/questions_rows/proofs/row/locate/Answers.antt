use Rattle.paper_entry.specs.declared.types.Verdict.{Verdict}
use Rattle.paper_questions.proofs.FoundRow.{refused-row}
use Rattle.system_records.proofs.MetRows.{met-empty}
use mathlib.Core.Path.{◌∙◌, ap, sym}
use Rattle.questions_rows.proofs.row.locate.Goals as goal

pub returns-then-verdict-ne0 : goal.returns-then-verdict-ne0
returns-then-verdict-ne0 c =
    let judged = c.judge-verdict.ensures in
    let refused = refused-row _ _ (λ z. c.if-verdict-ne0.true (ap (λ (v : Verdict). v.refusal) judged ∙ z)) in
    record {
      value = λ k. record { verdict = judged k; row = (c.empty_row-empty.ensures ∙ sym refused) k };
      met = rw c.empty_row-empty.ensures (met-empty _);
    }

pub row_of-row-requires : goal.row_of-row-requires
row_of-row-requires c =
    let judged = c.judge-verdict.ensures in
    ap (λ (v : Verdict). v.refusal) (sym judged) ∙ c.if-verdict-ne0.false

pub returns : goal.returns
returns c =
    let judged = c.judge-verdict.ensures in
    record {
      value = λ k. record { verdict = judged k; row = c.row_of-row.ensures.value k };
      met = c.row_of-row.ensures.met;
    }
