use mathlib.Core.Path.{◌≡◌}
use Rattle.paper_questions.specs.Ask.{passage_asked}
use Rattle.exports_questions.proofs.asking.x4_passage.Goals as goal

pub returns : goal.returns
returns c =
    let d = c in
    let a = d.args in
    let place = d.keyword_place-place.result in
    let e : d.passage-p.result ≡ passage_asked a.entry.now a.subentry place a.pointer = d.passage-p.ensures in
    record {
      value = rw (← d.keyword_place-place.ensures, ← e) c.put_part.ensures.value;
      out_after = rw (← d.keyword_place-place.ensures, ← e) c.put_part.ensures.out_after;
    }
