use Rattle.reasons_facts.proofs.HeadingsFound.{lying-of}
use Rattle.paper_reasons.specs.Reason.{reason_for}
use Rattle.reasons.proofs.Characters.{eight-expected}
use borrow.Author.Tests.{eq-eqb, ne_eqb}
use borrow.Author.Rules.{rules}
use Rattle.reasons.proofs.explain.reason_as.Goals as goal

pub returns-then-number-eq5 : goal.returns-then-number-eq5
unfolding reason_for
returns-then-number-eq5 c = rw (eq-eqb _ _ c.if-number-eq5.true, ← c.expected_identification-characters.ensures)
    (eight-expected c.expected_identification-characters.result (search rules))

pub expected_sequence-due-requires : goal.expected_sequence-due-requires
expected_sequence-due-requires c = c.requires.stands.bounded

pub returns-then-number-eq6 : goal.returns-then-number-eq6
unfolding reason_for
returns-then-number-eq6 c =
    rw (
      ne_eqb _ _ c.if-number-eq5.false,
      eq-eqb _ _ c.if-number-eq6.true,
      ← c.expected_sequence-due.ensures,
      ← c.five_digits-digits.ensures,
    )
    c.expecting_five.ensures

pub returns-then-number-eq8 : goal.returns-then-number-eq8
unfolding reason_for
returns-then-number-eq8 c =
    rw (
      ne_eqb _ _ c.if-number-eq5.false,
      ne_eqb _ _ c.if-number-eq6.false,
      eq-eqb _ _ c.if-number-eq8.true,
      ← c.count_facts-facts.ensures,
    )
    c.stating.ensures

pub returns-then-number-eq9 : goal.returns-then-number-eq9
unfolding reason_for
returns-then-number-eq9 c =
    rw (
      ne_eqb _ _ c.if-number-eq5.false,
      ne_eqb _ _ c.if-number-eq6.false,
      ne_eqb _ _ c.if-number-eq8.false,
      eq-eqb _ _ c.if-number-eq9.true,
    )
    c.stating-then-number-eq9.ensures

pub heading_reason-requires : goal.heading_reason-requires
heading_reason-requires c =
    record { lying = lying-of _ _ _ c.requires.stands; whole = c.requires.whole; in_field = c.requires.in_field }

pub returns : goal.returns
unfolding reason_for
returns c =
    rw (
      ne_eqb _ _ c.if-number-eq5.false,
      ne_eqb _ _ c.if-number-eq6.false,
      ne_eqb _ _ c.if-number-eq8.false,
      ne_eqb _ _ c.if-number-eq9.false,
    )
    c.heading_reason.ensures
