use mathlib.Core.Path.{refl}
use Rattle.cinda_answers.proofs.pieces.column_of.Goals as goal

pub returns-in-Whole : goal.returns-in-Whole
returns-in-Whole c = rw c.in-Whole.is refl

pub returns-in-Reaction : goal.returns-in-Reaction
returns-in-Reaction c = rw c.in-Reaction.is refl

pub returns-in-Quantity : goal.returns-in-Quantity
returns-in-Quantity c = rw c.in-Quantity.is refl

pub returns-in-Institute : goal.returns-in-Institute
returns-in-Institute c = rw c.in-Institute.is refl

pub returns-in-Reference : goal.returns-in-Reference
returns-in-Reference c = rw c.in-Reference.is refl

pub returns-in-Comment : goal.returns-in-Comment
returns-in-Comment c = rw c.in-Comment.is refl
