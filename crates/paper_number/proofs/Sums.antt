-- Sums of whole numbers, of which a field's power is one.
-- Assumes nothing.
use mathlib.Core.Path.{◌≡◌, sym, ap, ◌∙◌}
use mathlib.Core.Bool.{Bool, true, false, cond}
use Prim.Native.Nat.{ℕ, zero, suc, ◌+◌, ◌-◌, ◌<◌, ◌≤◌}
use native.Mathlib.Omega.{arith}
use lib.Dec.{ltb, ltb→lt, le→leb, lt→ltb}
use lib.IntN.{ℤ, pos, negsuc, neg_ℤ, ◌+ℤ◌, ◌-ℤ◌, +ℤ_assoc, +ℤ_comm, +ℤ-neg_ℤ_cancel, neg_ℤ-+ℤ}
use lib.Signed.{mag, ◌≤ℤ◌, ◌<ℤ◌}
use Rattle.paper_number.specs.Value.{signed_by}

-- ---- order of summands

pub plus-swap : (p q r : ℤ) → p +ℤ q +ℤ r ≡ p +ℤ r +ℤ q
plus-swap p q r = +ℤ_assoc p q r ∙ ap (λ (x : ℤ). p +ℤ x) (+ℤ_comm q r) ∙ sym (+ℤ_assoc p r q)

pub plus-plus : (p : ℤ) (m n : ℕ) → p +ℤ pos (m + n) ≡ p +ℤ pos m +ℤ pos n
plus-plus p m n = sym (+ℤ_assoc p (pos m) (pos n))

-- a sum is told by either summand
pub plus-cancel : (p q r : ℤ) → p +ℤ r ≡ q +ℤ r → p ≡ q
plus-cancel p q r e = sym (+ℤ-neg_ℤ_cancel p r) ∙ ap (λ (x : ℤ). x -ℤ r) e ∙ +ℤ-neg_ℤ_cancel q r

-- ---- a written exponent less the places behind the point, with the last zeros added: what goes up, and what goes down

abbrev pub up_of : Bool → ℕ → ℕ → ℕ
up_of true e zeros = zeros
up_of false e zeros = e + zeros

abbrev pub down_of : Bool → ℕ → ℕ → ℕ
down_of true e places = e + places
down_of false e places = places

pub power-sum : (below : Bool) (e places zeros : ℕ)
    → signed_by below e -ℤ pos places +ℤ pos zeros ≡ pos (up_of below e zeros) -ℤ pos (down_of below e places)
power-sum true e places zeros =
    +ℤ_comm (neg_ℤ (pos e) -ℤ pos places) (pos zeros)
    ∙ ap (λ (x : ℤ). pos zeros +ℤ x) (sym (neg_ℤ-+ℤ (pos e) (pos places)))
power-sum false e places zeros = plus-swap (pos e) (neg_ℤ (pos places)) (pos zeros)

-- ---- sizes

mag-cond : (t : Bool) (a b m : ℕ) → a < m → b < m → mag (cond t (negsuc a) (pos b)) < m
mag-cond true a b m p q = p
mag-cond false a b m p q = q

pub diff-size : (a b m : ℕ) → a < m → b ≤ m → mag (pos a -ℤ pos b) < m
diff-size a zero m h l = omega arith
diff-size a (suc b) m h l = mag-cond (ltb a (suc b)) (suc b - suc a) (a - suc b) m (omega arith) (omega arith)

pub size-least : (m : ℕ) (z : ℤ) → mag z < m → neg_ℤ (pos m) ≤ℤ z
size-least zero z h = absurd (omega arith)
size-least (suc m) (pos n) h = record { le = tt }
size-least (suc m) (negsuc n) h = record { le = le→leb n m (omega arith) }

pub size-most : (m : ℕ) (z : ℤ) → mag z < m → z <ℤ pos m
size-most m (pos n) h = record { lt = lt→ltb n m h }
size-most m (negsuc n) h = record { lt = tt }

pub lt-le : (z : ℤ) (m : ℕ) → z <ℤ pos (suc m) → z ≤ℤ pos m
lt-le (pos n) m h = let l : n < suc m = ltb→lt n (suc m) h.lt in record { le = le→leb n m (omega arith) }
lt-le (negsuc n) m h = record { le = tt }
