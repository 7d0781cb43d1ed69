use mathlib.Core.Path.{◌≡◌}
use Rattle.paper_revisions.specs.Picking.{picked}
use Rattle.exports_revisions.proofs.asking.x4_subentry.Goals as goal

pub returns : goal.returns
returns c =
    let d = c in
    let a = d.args in
    let e : d.subentry-p.result ≡ picked a.held.now a.revision.now a.subentry = d.subentry-p.ensures in
    record {
      value = rw (← e) c.put_picked.ensures.value;
      part_after = rw (← e) c.put_picked.ensures.part_after;
    }
