use mathlib.Core.Path.{◌≡◌}
use Rattle.paper_decay_fields.specs.Asked.{type_of}
use Rattle.exports_decay.proofs.fields.x4_decay_type.Goals as goal

pub returns : goal.returns
returns c =
    let d = c in
    let a = d.args in
    let e : d.kind-p.result ≡ type_of a.run.now a.group a.at = d.kind-p.ensures in
    record {
      value = rw (← e) c.put_part.ensures.value;
      place_after = rw (← e) c.put_part.ensures.place_after;
    }
