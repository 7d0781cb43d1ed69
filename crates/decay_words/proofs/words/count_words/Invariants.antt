use Rattle.decay_words.proofs.Cutting.{Counted}
use Rattle.decay_words.proofs.words.count_words.Given as goal

abbrev pub invariant-loop-b : goal.invariant-loop-b
invariant-loop-b l = Counted l.c l.text l.b-index l.count
