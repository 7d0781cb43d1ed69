use mathlib.Core.Path.{◌≡◌}
use Prim.Native.Nat.{◌-◌, ◌≤◌}
use lib.ListN.{length}
use Rattle.decay_words.proofs.Cutting.{Cutting}
use Rattle.decay_words.proofs.words.word_at.Given as goal

abbrev pub invariant-loop-word : goal.invariant-loop-word
invariant-loop-word l = (l.n ≡ length l.text) × ((l._word ≤ l.k) × Cutting l.c l.text l.k l.start (l.k - l._word))
