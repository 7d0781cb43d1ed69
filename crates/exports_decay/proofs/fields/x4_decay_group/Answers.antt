use mathlib.Core.Path.{◌≡◌}
use Rattle.paper_decay_fields.specs.Asked.{group_of}
use Rattle.exports_decay.proofs.fields.x4_decay_group.Goals as goal

pub returns : goal.returns
returns c =
    let d = c in
    let a = d.args in
    let e : d.group-g.result ≡ group_of a.run.now a.group = d.group-g.ensures in
    record {
      value = rw (← e) c.put_group.ensures.value;
      numbers_after = rw (← e) c.put_group.ensures.numbers_after;
      abundance_after = rw (← e) c.put_group.ensures.abundance_after;
    }
