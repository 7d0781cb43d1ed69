-- Block or sequence, by the two tests: behind a good block the sequence is looked at.
-- Assumes nothing.
use Prim.Native.Nat.{ℕ}
use mathlib.Core.Path.{◌≡◌, refl}
use mathlib.Core.Bool.{Bool, true, false}
use mathlib.Core.List.{List}
use Rattle.paper_faults.specs.Fault.{leftmost}
use Rattle.paper_cinda.specs.Rules.{is_integer, good_block, rule75}

module _ (l : List ℕ) (b q : Bool) (block : b ≡ good_block l) (sequence : q ≡ is_integer l 38 2) where
  pub sequence-bad : b ≡ true → q ≡ false → 38 ≡ leftmost (rule75 l)
  unfolding rule75
  sequence-bad e f = rw (← block, e, ← sequence, f) refl

  pub sequence-good : b ≡ true → q ≡ true → 0 ≡ leftmost (rule75 l)
  unfolding rule75
  sequence-good e f = rw (← block, e, ← sequence, f) refl
