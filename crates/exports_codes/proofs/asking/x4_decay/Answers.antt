use mathlib.Core.Path.{◌≡◌}
use lib.ListN.{length}
use Rattle.paper_codes.specs.Asked.{code_asked}
use Rattle.exports_codes.proofs.asking.x4_decay.Goals as goal

pub returns : goal.returns
returns c =
    let d = c in
    let a = d.args in
    let e : d.code-a.result ≡ code_asked a.entry.now a.subentry a.pointer a.code (length a.out.now) =
    d.code-a.ensures.value in
    let p = c.put_code.ensures in
    record {
      value = rw (← e) p.value;
      out_after = d.code-a.ensures.out_after;
      long_after = rw (← e) p.long_after;
    }
