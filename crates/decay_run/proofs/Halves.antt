-- A text in two parts, of which what becomes of them is stored one behind the other.
-- Assumes nothing.
use Prim.Native.Nat.{ℕ, ◌+◌, ◌-◌}
use mathlib.Core.Path.{◌≡◌, refl, ◌∙◌}
use mathlib.Core.List.{List, ◌++◌}
use native.Mathlib.Omega.{arith}
use lib.ListN.{length, take, drop, length-append, length-drop}
use lib.Seq.{take_all}
use Rattle.paper_decay_run.specs.Overlay.{overlay}
use Rattle.paper_decay_run.proofs.Overlay.{overlay-more}
use Rattle.decay_numbers.proofs.Words.{between}

pub front-part : (l : List ℕ) (k : ℕ) → between l 0 k ≡ take k l
front-part l k = let z : k - 0 ≡ k = omega arith in rw z refl

pub rest_part : (l : List ℕ) (k : ℕ) → between l k (length l) ≡ drop k l
rest_part l k = let long = length-drop k l in take_all (length l - k) (drop k l) (omega arith)

-- f of the part before k, and g of the part from k on
pub stored-both : (f g : List ℕ → List ℕ) (l : List ℕ) (k : ℕ) (x y z : List ℕ) (at to past : ℕ)
    → y ≡ overlay x at (f (between l 0 k)) → to ≡ at + length (f (between l 0 k))
    → z ≡ overlay y to (g (between l k (length l))) → past ≡ to + length (g (between l k (length l)))
    → (z ≡ overlay x at (f (take k l) ++ g (drop k l))) × (past ≡ at + length (f (take k l) ++ g (drop k l)))
stored-both f g l k x y z at to past p q r s =
    let a = between l 0 k in
    let b = between l k (length l) in
    let n = length-append (f a) (g b) in
    rw (← front-part l k, ← rest_part l k)
    (r ∙ (λ i. overlay (p i) (q i) (g b)) ∙ overlay-more x at (f a) (g b), omega arith)
