use mathlib.Core.Path.{◌≡◌}
use Rattle.paper_record.specs.declared.types.LineNo.{LineNo}
use Rattle.paper_index.specs.ByIndex.{value_by_index}
use Rattle.exports_index.proofs.asking.x4_index_value.Goals as goal

pub returns : goal.returns
returns c =
    let d = c in
    let a = d.args in
    let at : LineNo = record { 0 = a.line } in
    let e : d.value_by_index-v.result
    ≡ value_by_index a.entry.now a.index.now a.subentry a.section at a.column =
    d.value_by_index-v.ensures in
    record {
      value = rw (← e) c.put_value.ensures.value;
      out_after = rw (← e) c.put_value.ensures.out_after;
    }
