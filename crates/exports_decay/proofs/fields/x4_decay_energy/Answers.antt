use mathlib.Core.Path.{◌≡◌}
use Rattle.paper_decay_fields.specs.Asked.{energy_of}
use Rattle.exports_decay.proofs.fields.x4_decay_energy.Goals as goal

pub returns : goal.returns
returns c =
    let d = c in
    let a = d.args in
    let e : d.energy-e.result ≡ energy_of a.run.now a.group a.at = d.energy-e.ensures in
    record {
      value = rw (← e) c.put_number_part.ensures.value;
      place_after = rw (← e) c.put_number_part.ensures.place_after;
      value_after = rw (← e) c.put_number_part.ensures.value_after;
    }
