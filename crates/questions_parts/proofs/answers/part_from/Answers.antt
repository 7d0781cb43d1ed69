use Prim.Native.Nat.{◌+◌}
use Rattle.paper_questions.specs.PartAnswers.{no_part}
use borrow.Author.Tests.{le-leb, lt-leb}
use lib.ListN.{length}
use mathlib.Core.Path.{◌∙◌, ap}
use native.Mathlib.Omega.{arith}
use Rattle.questions_parts.proofs.answers.part_from.Goals as goal

pub returns-then-entry-length : goal.returns-then-entry-length
returns-then-entry-length c = rw (lt-leb (c.args.first + c.args.length) (length c.args.entry.now) (omega arith)) (c.no_part.ensures ∙ ap no_part c.answer_of-answered.ensures)

pub returns-then-room-first : goal.returns-then-room-first
returns-then-room-first c = rw (lt-leb (c.args.first + c.args.length) (length c.args.entry.now) (omega arith)) (c.no_part-then-room-first.ensures ∙ ap no_part c.answer_of-answered.ensures)

pub returns : goal.returns
returns c = rw (le-leb (c.args.first + c.args.length) (length c.args.entry.now) (omega arith), ← c.answer_of-answered.ensures)
