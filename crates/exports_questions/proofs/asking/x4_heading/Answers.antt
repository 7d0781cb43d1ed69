use mathlib.Core.Path.{◌≡◌}
use Rattle.paper_questions.specs.Ask.{heading_asked}
use Rattle.exports_questions.proofs.asking.x4_heading.Goals as goal

pub returns : goal.returns
returns c =
    let d = c in
    let a = d.args in
    let e : d.heading-p.result ≡ heading_asked a.entry.now a.subentry a.section a.column =
    d.heading-p.ensures in
    record {
      value = rw (← e) c.put_part.ensures.value;
      out_after = rw (← e) c.put_part.ensures.out_after;
    }
