-- Bytes stored in a buffer from a place on, as far as the buffer goes.
use Rattle.std.specs.Prelude.{◌≡◌, List, [], ◌++◌, ℕ, ◌+◌, ◌≤◌, length, take, drop}
use Rattle.std.proofs.Math.Seq.{paste}

unfoldable pub overlay : List ℕ → ℕ → List ℕ → List ℕ
overlay x at l = take (length x) (take at x ++ (l ++ drop (at + length l) x))

-- where they fit they stand there, and every other byte stays
abbrev pub OverlayFits : Type 0
OverlayFits = (x : List ℕ) (at : ℕ) (l : List ℕ) → at + length l ≤ length x → overlay x at l ≡ paste x at l (length l)

-- an empty buffer stays empty: so a length is found before anything is stored
abbrev pub OverlayEmpty : Type 0
OverlayEmpty = (at : ℕ) (l : List ℕ) → overlay [] at l ≡ []

-- one behind the other
abbrev pub OverlayMore : Type 0
OverlayMore =
    (x : List ℕ) (at : ℕ) (l m : List ℕ) → overlay (overlay x at l) (at + length l) m ≡ overlay x at (l ++ m)
