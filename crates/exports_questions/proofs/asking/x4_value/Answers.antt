use mathlib.Core.Path.{◌≡◌}
use Rattle.paper_record.specs.declared.types.LineNo.{LineNo}
use Rattle.paper_questions.specs.Ask.{value_asked}
use Rattle.exports_questions.proofs.asking.x4_value.Goals as goal

pub returns : goal.returns
returns c =
    let d = c in
    let a = d.args in
    let at : LineNo = record { 0 = a.line } in
    let e : d.value-v.result ≡ value_asked a.entry.now a.subentry a.section at a.column =
    d.value-v.ensures.value in
    record {
      value = rw (← e) c.put_value.ensures.value;
      out_after = rw (← e) c.put_value.ensures.out_after;
    }
