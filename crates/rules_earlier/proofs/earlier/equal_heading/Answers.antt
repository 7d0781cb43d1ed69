use Rattle.laws.proofs.Search.{scan-all, scan-done, scan-found, scan-next}
use Rattle.laws.proofs.Turns.{run-all, run-done, run-next, run_out}
use Rattle.rules_earlier.proofs.EarlierParts.{left-fits}
use Rattle.paper_rules.specs.Earlier.{equal_heading}
use borrow.Author.Tests.{le-ltb, lt-ltb}
use mathlib.Core.Path.{◌∙◌, refl, sym}
use native.Mathlib.Omega.{arith}
use Rattle.rules_earlier.proofs.earlier.equal_heading.Goals as goal

pub sections-init : goal.sections-init
unfolding equal_heading
sections-init c = (refl, run-all 4)

pub headings_of-m-end-requires : goal.headings_of-m-end-requires
headings_of-m-end-requires c =
    left-fits _ _ _ _ _ _ _ c.part_of-part.ensures
    c.requires.whole.long
    c.requires.left_bound

pub loop-m-init : goal.loop-m-init
loop-m-init c = (c.sections.invariant.0, scan-all _)

pub loop-m-preserved : goal.loop-m-preserved
loop-m-preserved c = (
  c.loop-m.invariant.0,
  scan-next c.loop-m.invariant.1
      (omega arith) (rw (← c.field.ensures) (sym c.same_heading.ensures ∙ c.if-same_heading.false)),
)

pub sections-preserved : goal.sections-preserved
sections-preserved c = (
  c.loop-m.invariant.0,
  run-next c.sections.invariant.1 (omega arith)
      (rw (
        ← c.part_of-part.ensures,
        ← c.headings_of-m-end.ensures.value,
        ← scan-done
            c.loop-m.invariant.1 (omega arith),
        le-ltb c.headings_of-m-end.result
            c.headings_of-m-end.result (omega arith),
      )),
)

pub returns-after-sections : goal.returns-after-sections
returns-after-sections c = rw c.sections.invariant.0 (run-done c.sections.invariant.1 (omega arith))

pub returns-then-same_heading : goal.returns-then-same_heading
returns-then-same_heading c =
    let w = scan-found c.loop-m.invariant.1 (omega arith)
    (rw (← c.field.ensures)
    (sym c.same_heading.ensures ∙ c.if-same_heading.true)) in
    run_out c.sections.invariant.1 (omega arith)
    (rw (
      ← c.part_of-part.ensures,
      ← c.headings_of-m-end.ensures.value,
      ← w,
      lt-ltb c.loop-m.m
          c.headings_of-m-end.result
          (omega arith),
      ← c.headings_in-before.ensures.value,
      c.place_of.ensures,
    ))
