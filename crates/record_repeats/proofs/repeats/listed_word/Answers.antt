use Rattle.paper_record.specs.Repeats.{listed_word}
use Rattle.std.proofs.Common.{arith}
use Rattle.record_repeats.proofs.repeats.listed_word.Goals as goal

pub returns-then-spells-2 : goal.returns-then-spells-2
unfolding listed_word
returns-then-spells-2 c = grind arith

pub returns-then-in_data : goal.returns-then-in_data
unfolding listed_word
returns-then-in_data c = grind arith

pub returns-else-in_data : goal.returns-else-in_data
unfolding listed_word
returns-else-in_data c = grind arith
