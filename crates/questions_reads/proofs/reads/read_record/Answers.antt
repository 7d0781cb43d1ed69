use Rattle.paper_index.specs.Reads.{good_section}
use borrow.Author.Tests.{eq-eqb, ne_eqb}
use mathlib.Core.Path.{refl}
use Rattle.questions_reads.proofs.reads.read_record.Goals as goal

pub returns-then-not-in_entry : goal.returns-then-not-in_entry
unfolding good_section
returns-then-not-in_entry c = rw (← c.in_entry.ensures, c.if-not-in_entry.true) refl

pub returns-then-found-identifier : goal.returns-then-found-identifier
unfolding good_section
returns-then-found-identifier c = rw (← c.in_entry.ensures, c.if-not-in_entry.false, ← c.field_at-f.ensures, ← c.identifier_of-found.ensures, ne_eqb _ _ c.if-found-identifier.true) refl

pub returns : goal.returns
unfolding good_section
returns c = rw (← c.in_entry.ensures, c.if-not-in_entry.false, ← c.field_at-f.ensures, ← c.identifier_of-found.ensures, eq-eqb _ _ c.if-found-identifier.false) c.read_counts.ensures
