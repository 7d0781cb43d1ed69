use mathlib.Core.Path.{◌≡◌, ◌∙◌, ap}
use Rattle.paper_walk.specs.Walk.{step_of}
use Rattle.exports_places.specs.Walks.{walk_in}
use Rattle.exports_walk.proofs.walking.x4_walk_next.Goals as goal

pub returns : goal.returns
returns c =
    let d = c in
    let a = d.args in
    let e : d.one_on-step.result ≡ step_of a.entry.now (walk_in a.walk.now) =
    d.one_on-step.ensures.value ∙ ap (step_of a.entry.now) d.walk_in-w.ensures in
    let p = c.put_given.ensures in
    record {
      value = rw (← e) (p.value);
      walk_after = rw (← e) (c.walk_numbers.ensures);
      place_after = rw (← e) (p.place_after);
      value_after = rw (← e) (p.out_after);
    }
