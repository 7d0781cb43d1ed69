use mathlib.Core.Path.{◌≡◌}
use Rattle.paper_questions.specs.Ask.{unit_asked}
use Rattle.exports_questions.proofs.asking.x4_unit.Goals as goal

pub returns : goal.returns
returns c =
    let d = c in
    let a = d.args in
    let e : d.unit-p.result ≡ unit_asked a.entry.now a.subentry a.section a.column = d.unit-p.ensures in
    record {
      value = rw (← e) c.put_part.ensures.value;
      out_after = rw (← e) c.put_part.ensures.out_after;
    }
