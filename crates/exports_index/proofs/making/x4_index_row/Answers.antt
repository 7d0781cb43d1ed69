use mathlib.Core.Path.{◌≡◌}
use Rattle.paper_entry.specs.Answer.{answer_of}
use Rattle.paper_index.specs.ByIndex.{row_by_index}
use Rattle.exports_index.proofs.making.x4_index_row.Goals as goal

pub returns : goal.returns
returns c =
    let d = c in
    let a = d.args in
    let e : d.find_row-found.result ≡ row_by_index a.index.now a.subentry = d.find_row-found.ensures in
    let f : c.answer_of-answer.result ≡ answer_of d.find_row-found.result.number =
    c.answer_of-answer.ensures in
    record {
      value = rw (← e, ← f) c.put_number.ensures.value;
      before_after = rw (← e, ← f) c.put_number.ensures.out_after;
    }
