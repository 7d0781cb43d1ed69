use Rattle.laws.proofs.Table.{at}
use Rattle.paper_record.specs.Repeats.{letters_at}
use native.Mathlib.Nat.{add-sub_cancel_left}
use Rattle.record_repeats.proofs.repeats.letters_at.Goals as goal

pub returns : goal.returns
unfolding letters_at
returns c = let z = add-sub_cancel_left in rw z at c.equal_to.ensures
