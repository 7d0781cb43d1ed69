use mathlib.Core.Path.{◌≡◌}
use Rattle.paper_index.specs.ByIndex.{passage_by_index}
use Rattle.exports_index.proofs.asking.x4_index_passage.Goals as goal

pub returns : goal.returns
returns c =
    let d = c in
    let a = d.args in
    let place = d.keyword_place-place.result in
    let e : d.passage_by_index-p.result
    ≡ passage_by_index a.entry.now a.index.now a.subentry place a.pointer =
    d.passage_by_index-p.ensures in
    record {
      value = rw (← d.keyword_place-place.ensures, ← e) c.put_part.ensures.value;
      out_after = rw (← d.keyword_place-place.ensures, ← e) c.put_part.ensures.out_after;
    }
