use Rattle.paper_index.specs.Reads.{good_value}
use mathlib.Core.Path.{refl}
use Rattle.questions_fields.proofs.fields.value_at.Goals as goal

pub returns-then-not-in_entry : goal.returns-then-not-in_entry
unfolding good_value
returns-then-not-in_entry c = rw (c.refused_value.ensures, ← c.in_entry.ensures, c.if-not-in_entry.true) refl

pub returns-then-not-good_reading : goal.returns-then-not-good_reading
unfolding good_value
returns-then-not-good_reading c = rw (c.refused_value-then-not-good_reading.ensures, ← c.in_entry.ensures, c.if-not-in_entry.false, ← c.field_of-f.ensures, ← c.read_digits-read.ensures.value, ← c.good_reading.ensures, c.if-not-good_reading.true) refl

pub returns : goal.returns
unfolding good_value
returns c = rw (c.answer_of-answer.ensures, ← c.in_entry.ensures, c.if-not-in_entry.false, ← c.field_of-f.ensures, ← c.read_digits-read.ensures.value, ← c.good_reading.ensures, c.if-not-good_reading.false) refl
