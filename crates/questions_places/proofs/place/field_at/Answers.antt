use lib.ListN.{replicate, get_or-replicate}
use Prim.Native.Nat.{ℕ, ◌-◌}
use Rattle.laws.specs.Blocks.{block_at}
use Rattle.paper_questions.proofs.Records.{record-there}
use Rattle.paper_questions.specs.Place.{fields_at}
use Rattle.paper_record.proofs.ReadColumns.{field-of}
use mathlib.Core.List.{List, []}
use mathlib.Core.Path.{◌∙◌, sym}
use native.Mathlib.Nat.{add-sub_cancel_left}
use native.Mathlib.Omega.{arith}
use Rattle.questions_places.proofs.place.field_at.Goals as goal

pub returns-then-not-has_record : goal.returns-then-not-has_record
unfolding fields_at
returns-then-not-has_record c = let h = c.requires in rw (← c.has_record.ensures, c.if-not-has_record.true) (sym (get_or-replicate {A = List ℕ} 6 c.args.k (replicate 11 32) [] (omega arith)))

pub overflow_sub-before : goal.overflow_sub-before
overflow_sub-before c = let h = record-there c.args.entry.now c.args.at (sym c.has_record.ensures ∙ c.if-not-has_record.false) in omega arith

pub slice_bounds-field-end : goal.slice_bounds-field-end
slice_bounds-field-end c = let h = record-there c.args.entry.now c.args.at (sym c.has_record.ensures ∙ c.if-not-has_record.false) in omega arith

pub returns : goal.returns
unfolding fields_at
returns c = let h = c.requires in let e = rw add-sub_cancel_left at c.field.ensures in rw (← c.has_record.ensures, c.if-not-has_record.false, field-of (block_at 81 c.args.entry.now (c.args.at.0 - 1)) c.args.k (omega arith)) e
