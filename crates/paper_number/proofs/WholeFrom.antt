-- The digits behind the point are taken off one by one, and are zeros exactly where a whole number is left.
-- Assumes nothing.
use mathlib.Core.Path.{◌≡◌, refl, sym}
use mathlib.Core.Bool.{Bool, true, false, cond}
use Prim.Native.Nat.{ℕ, zero, suc, ◌-◌, ◌*◌, ◌/◌, ◌%◌, ◌^◌, ◌<◌}
use native.Mathlib.Nat.{mul_assoc, mul_comm, mul-mod_left, mul-one, pow-zero}
use native.Mathlib.Omega.{arith}
use borrow.Author.Tests.{eqb-true, eq-eqb, ne_eqb}
use lib.Dec.{eqb}
use Rattle.laws.proofs.Booleans.{either-as}
use Rattle.paper_number.proofs.Tens.{ten-suc}
use Rattle.paper_number.specs.declared.types.WholeRead.{WholeRead}
use Rattle.paper_number.specs.declared.types.WholeRead.TheVariants.{NoNumber, Broken, Whole}
use Rattle.paper_number.specs.declared.types.SpeltNumber.{SpeltNumber}
use Rattle.paper_number.specs.declared.types.Spelt.{Spelt}
use Rattle.paper_number.specs.declared.types.Spelt.TheVariants as S
use Rattle.paper_number.specs.Whole.{whole_from, whole_of, Short, Few}

-- ---- what the loop does

pub from_step : (p v : ℕ) → 0 < p → v % 10 ≡ 0 → whole_from p v ≡ whole_from (p - 1) (v / 10)
unfolding whole_from
from_step zero v h e = absurd (omega arith)
from_step (suc p) v h e =
    let q : suc p - 1 ≡ p = omega arith in
    rw (eq-eqb (v % 10) 0 e, q) refl

pub from-broken : (p v : ℕ) → 0 < p → (v % 10 ≡ 0 → ⊥) → whole_from p v ≡ Broken
unfolding whole_from
from-broken zero v h e = absurd (omega arith)
from-broken (suc p) v h e = rw (ne_eqb (v % 10) 0 e) refl

pub from_end : (p v : ℕ) → p ≡ 0 → whole_from p v ≡ Whole v
unfolding whole_from
from_end p v e = rw e refl

-- what is no number says none
pub none-whole : (x : Spelt) → ((n : SpeltNumber) → x ≡ S.Number n → ⊥) → whole_of x ≡ NoNumber
none-whole S.Blank h = refl
none-whole S.Malformed h = refl
none-whole (S.Number n) h = absurd (h n refl)

-- ---- how large it is

tenth : (v : ℕ) → Short v → Short (v / 10)
tenth v h = record { few = omega (arith, h.few) }

pub from-few : (p v : ℕ) → Short v → Few (whole_from p v)
unfolding whole_from
from-few zero v h = h
from-few (suc p) v h =
    either-as Few (eqb (v % 10) 0) (whole_from p (v / 10)) Broken (λ e. from-few p (v / 10) (tenth v h)) (λ e. tt)

-- ---- what it is

ten-off : (n p : ℕ) → n * 10 ^ suc p ≡ n * 10 ^ p * 10
ten-off n p = rw (ten-suc p, mul_comm 10 (10 ^ p)) (sym (mul_assoc n (10 ^ p) 10))

pub from-exact : (p n : ℕ) → whole_from p (n * 10 ^ p) ≡ Whole n
unfolding whole_from
from-exact zero n = rw (pow-zero, mul-one) refl
from-exact (suc p) n =
    let a = n * 10 ^ p in
    let r : a * 10 % 10 ≡ 0 = mul-mod_left a 10 in
    let d : a * 10 / 10 ≡ a = omega arith in
    rw (ten-off n p, eq-eqb (a * 10 % 10) 0 r, d) (from-exact p n)

from-by : (b : Bool) (w : WholeRead) (n : ℕ) → cond b w Broken ≡ Whole n → (b ≡ true) × (w ≡ Whole n)
from-by true w n e = (refl, e)
from-by false w n e = let z : ◌≡◌ {A = ℕ} 0 1 = cc in absurd (omega arith)

pub from-whole : (p v n : ℕ) → whole_from p v ≡ Whole n → v ≡ n * 10 ^ p
unfolding whole_from
from-whole zero v n e =
    let q : v ≡ n = cc in
    rw (pow-zero, mul-one) q
from-whole (suc p) v n e =
    let (b, w) = from-by (eqb (v % 10) 0) (whole_from p (v / 10)) n e in
    let r : v % 10 ≡ 0 = eqb-true (v % 10) 0 b in
    let d : v / 10 ≡ n * 10 ^ p = from-whole p (v / 10) n w in
    rw (ten-off n p) (omega arith)
