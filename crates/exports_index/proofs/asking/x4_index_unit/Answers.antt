use mathlib.Core.Path.{◌≡◌}
use Rattle.paper_index.specs.ByIndex.{unit_by_index}
use Rattle.exports_index.proofs.asking.x4_index_unit.Goals as goal

pub returns : goal.returns
returns c =
    let d = c in
    let a = d.args in
    let e : d.unit_by_index-p.result ≡ unit_by_index a.entry.now a.index.now a.subentry a.section a.column =
    d.unit_by_index-p.ensures in
    record {
      value = rw (← e) c.put_part.ensures.value;
      out_after = rw (← e) c.put_part.ensures.out_after;
    }
