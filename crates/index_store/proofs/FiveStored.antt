-- Five numbers stored one by one are stored as a row.
-- Assumes nothing.
use Prim.Native.Nat.{ℕ, ◌+◌, ◌≤◌}
use mathlib.Core.Path.{◌≡◌}
use mathlib.Core.List.{List, [], ◌∷◌}
use native.Mathlib.Numerals.{add-one, add-two, add-three, add-four}
use lib.ListN.{length, set}
use lib.Seq.{paste, sets-eq}

pub five-stored : (t : List ℕ) (at a b c d e : ℕ) → at + 5 ≤ length t
    → set (set (set (set (set t at a) (at + 1) b) (at + 2) c) (at + 3) d) (at + 4) e
    ≡ paste t at (a ∷ b ∷ c ∷ d ∷ e ∷ []) 5
five-stored t at a b c d e h =
    rw (add-one at, add-two at, add-three at, add-four at) (sets-eq (a ∷ b ∷ c ∷ d ∷ e ∷ []) t at h)
