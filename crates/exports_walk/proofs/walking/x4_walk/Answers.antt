use mathlib.Core.Path.{◌≡◌}
use Rattle.paper_walk.specs.Walk.{start_of}
use Rattle.exports_walk.proofs.walking.x4_walk.Goals as goal

pub returns : goal.returns
returns c =
    let d = c in
    let a = d.args in
    let e : d.start-w.result ≡ start_of a.entry.now a.subentry a.section = d.start-w.ensures in
    record {
      value = rw (← e) c.put_walk.ensures.value;
      walk_after = rw (← e) c.put_walk.ensures.out_after;
    }
