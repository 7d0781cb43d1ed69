use mathlib.Core.Path.{◌≡◌}
use lib.ListN.{length}
use Rattle.paper_revisions.specs.Merging.{merged}
use Rattle.exports_revisions.proofs.asking.x4_merge.Goals as goal

pub returns : goal.returns
returns c =
    let d = c in
    let a = d.args in
    let e : d.merge-m.result ≡ merged a.held.now a.revision.now (length a.out.now) = d.merge-m.ensures.value in
    let p = c.put_merged.ensures in
    record {
      value = rw (← e) p.value;
      out_after = d.merge-m.ensures.out_after;
      long_after = rw (← e) p.long_after;
    }
