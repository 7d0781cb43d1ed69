use Rattle.reasons_facts.proofs.HeadingsFound.{heading-inside}
use Rattle.laws.proofs.Table.{at}
use Rattle.paper_reasons.specs.Reason.{equal_facts, heading_place}
use mathlib.Core.Path.{◌∙◌, ap}
use native.Mathlib.Omega.{arith}
use Rattle.reasons_facts.proofs.facts.equal_facts.Goals as goal

pub part-requires : goal.part-requires
part-requires c = c.requires.lying.common001

pub part-requires-2 : goal.part-requires-2
part-requires-2 c = c.requires.lying.common

pub part-requires-3 : goal.part-requires-3
part-requires-3 c = c.requires.lying.table

pub equal_heading-found-requires : goal.equal_heading-found-requires
equal_heading-found-requires c =
    let l = c.requires.k_bound in
    record {
      whole = c.requires.whole;
      left_bound = omega arith;
    }

pub heading_place-requires : goal.heading_place-requires
heading_place-requires c =
    let l = c.requires.k_bound in
    heading-inside _ _ _ _ c.requires.lying (omega arith) _ _
    (rw (
      c.part.ensures,
      c.part-2.ensures,
      c.part-3.ensures,
    ) at c.equal_heading-found.ensures)

pub returns : goal.returns
unfolding equal_facts
returns c =
    rw (
      ← c.part.ensures,
      ← c.part-2.ensures,
      ← c.part-3.ensures,
    )
    (c.heading_place.ensures ∙ ap (heading_place c.args.g) c.equal_heading-found.ensures)
