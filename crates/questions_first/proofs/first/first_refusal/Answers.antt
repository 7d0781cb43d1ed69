use Rattle.paper_index.specs.Reads.{good_first, has_number}
use Rattle.paper_questions.specs.Place.{fields_at}
use Rattle.paper_record.specs.Fields.{n1}
use borrow.Author.Tests.{eq-eqb, ne_eqb}
use mathlib.Core.Bool.{false, true}
use mathlib.Core.Path.{◌∙◌, ◌≡◌, refl, sym}
use Rattle.questions_first.proofs.first.first_refusal.Goals as goal

pub returns-then-not-in_entry : goal.returns-then-not-in_entry
unfolding good_first
returns-then-not-in_entry c = rw (← c.in_entry.ensures, c.if-not-in_entry.true) refl

pub returns-then-identifier-eq-NOSUBENT : goal.returns-then-identifier-eq-NOSUBENT
unfolding good_first
returns-then-identifier-eq-NOSUBENT c = rw (← c.in_entry.ensures, c.if-not-in_entry.false, ← c.field_at-f.ensures, ← c.identifier_of-identifier.ensures, eq-eqb _ _ c.if-identifier-eq-NOSUBENT.true) refl

pub returns-then-identifier-ne-SUBENT : goal.returns-then-identifier-ne-SUBENT
unfolding good_first
returns-then-identifier-ne-SUBENT c = rw (← c.in_entry.ensures, c.if-not-in_entry.false, ← c.field_at-f.ensures, ← c.identifier_of-identifier.ensures, ne_eqb _ _ c.if-identifier-eq-NOSUBENT.false, ne_eqb _ _ c.if-identifier-ne-SUBENT.true) refl

pub returns-then-not-has_number : goal.returns-then-not-has_number
unfolding good_first
returns-then-not-has_number c = let e : has_number (n1 (fields_at c.args.entry.now c.args.row.first)) c.args.row.number ≡ false = rw (← c.field_at-n1.ensures) (sym c.has_number.ensures ∙ c.if-not-has_number.true) in rw (← c.in_entry.ensures, c.if-not-in_entry.false, ← c.field_at-f.ensures, ← c.identifier_of-identifier.ensures, ne_eqb _ _ c.if-identifier-eq-NOSUBENT.false, eq-eqb _ _ c.if-identifier-ne-SUBENT.false, e) refl

pub returns : goal.returns
unfolding good_first
returns c = let e : has_number (n1 (fields_at c.args.entry.now c.args.row.first)) c.args.row.number ≡ true = rw (← c.field_at-n1.ensures) (sym c.has_number.ensures ∙ c.if-not-has_number.false) in rw (← c.in_entry.ensures, c.if-not-in_entry.false, ← c.field_at-f.ensures, ← c.identifier_of-identifier.ensures, ne_eqb _ _ c.if-identifier-eq-NOSUBENT.false, eq-eqb _ _ c.if-identifier-ne-SUBENT.false, e) refl
