use mathlib.Core.Path.{◌≡◌}
use Rattle.paper_cinda.specs.declared.types.CindaNo.{CindaNo}
use Rattle.paper_cinda.specs.Apart.{line_asked}
use Rattle.exports_cinda.proofs.lines.x4_cinda_line.Goals as goal

pub returns : goal.returns
returns c =
    let d = c in
    let a = d.args in
    let at : CindaNo = record { 0 = a.line } in
    let e : d.line-a.result ≡ line_asked a.lines.now at = d.line-a.ensures in
    record {
      value = rw (← e) c.put_line.ensures.value;
      numbers_after = rw (← e) c.put_line.ensures.numbers_after;
      least_after = rw (← e) c.put_line.ensures.least_after;
      greatest_after = rw (← e) c.put_line.ensures.greatest_after;
    }
