use Rattle.paper_number.proofs.Bounds.{within}
use Rattle.reasons.proofs.AskedFor.{field-few}
use native.Mathlib.Omega.{arith}
use Rattle.paper_reasons.specs.Reason.{stating}
use borrow.Author.Tests.{eq-eqb, ne_eqb}
use mathlib.Core.Path.{◌∙◌, ap}
use borrow.Author.Rules.{rules}
use Rattle.reasons.proofs.explain.heading_reason.Goals as goal

pub overflow_sub-k : goal.overflow_sub-k
overflow_sub-k c = let e = c.if-number-eq13.true in
    let w = c.requires.in_field.within (omega arith) (omega arith) in
    let a = w.0 in
    search rules

pub equal_facts-facts-requires : goal.equal_facts-facts-requires
equal_facts-facts-requires c = let e = c.if-number-eq13.true in
    let w = c.requires.in_field.within (omega arith) (omega arith) in
    record {
      lying = c.requires.lying;
      whole = c.requires.whole;
      k_bound = field-few _ w.0 w.1;
    }

pub returns-then-number-eq13 : goal.returns-then-number-eq13
returns-then-number-eq13 c =
    rw (eq-eqb _ _ c.if-number-eq13.true) (c.stating.ensures ∙ ap stating c.equal_facts-facts.ensures)

pub overflow_sub-m : goal.overflow_sub-m
overflow_sub-m c = let e = c.if-number-eq14.true in
    let w = c.requires.in_field.within (omega arith) (omega arith) in
    let a = w.0 in
    search rules

pub bounds-fs-m : goal.bounds-fs-m
bounds-fs-m c = let e = c.if-number-eq14.true in
    let w = c.requires.in_field.within (omega arith) (omega arith) in
    let h = field-few _ w.0 w.1 in
    search rules

pub returns-then-number-eq14 : goal.returns-then-number-eq14
returns-then-number-eq14 c =
    rw (
      ne_eqb _ _ c.if-number-eq13.false,
      eq-eqb _ _ c.if-number-eq14.true,
    ) c.stating-then-number-eq14.ensures

pub returns : goal.returns
returns c = rw (ne_eqb _ _ c.if-number-eq13.false, ne_eqb _ _ c.if-number-eq14.false) c.stating-2.ensures
