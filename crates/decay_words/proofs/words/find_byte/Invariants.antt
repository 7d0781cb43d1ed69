use Prim.Native.Nat.{ℕ, ◌≤◌}
use lib.Dec.{eqb}
use lib.ListN.{length, get_or}
use Rattle.laws.proofs.Search.{Scan}
use Rattle.decay_words.proofs.Cutting.{end_of}
use Rattle.decay_words.proofs.words.find_byte.Given as goal

abbrev pub invariant-loop-i : goal.invariant-loop-i
invariant-loop-i l = (l.from ≤ l.i) × Scan (λ (j : ℕ). eqb (get_or l.text j 0) l.c) (end_of l.c l.text l.from) l.i (length l.text)
