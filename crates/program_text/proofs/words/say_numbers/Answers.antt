use Rattle.program_text.proofs.words.say_numbers.Goals as goal

-- Safe, and ends behind the last number.

pub loop-i-init : goal.loop-i-init
loop-i-init c = tt

pub loop-i-preserved : goal.loop-i-preserved
loop-i-preserved c = tt

pub returns : goal.returns
returns c = tt
