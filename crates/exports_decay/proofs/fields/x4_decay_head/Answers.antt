use mathlib.Core.Path.{◌≡◌}
use Rattle.paper_decay_fields.specs.Asked.{head_of}
use Rattle.exports_decay.proofs.fields.x4_decay_head.Goals as goal

pub returns : goal.returns
returns c =
    let d = c in
    let a = d.args in
    let e : d.head-h.result ≡ head_of a.run.now = d.head-h.ensures in
    record {
      value = rw (← e) c.put_head.ensures.value;
      places_after = rw (← e) c.put_head.ensures.places_after;
      half_after = rw (← e) c.put_head.ensures.half_after;
    }
