-- Digits and their numbers.
-- Assumes nothing.
use mathlib.Core.Path.{◌≡◌, refl, ◌∙◌}
use mathlib.Core.List.{List, [], ◌∷◌, ◌++◌, append_assoc, append-nil}
use Prim.Native.Nat.{ℕ, zero, suc, ◌+◌, ◌*◌, ◌/◌, ◌%◌, ◌^◌, ◌<◌}
use native.Mathlib.Nat.{add-suc, add-zero}
use native.Mathlib.Omega.{arith}
use lib.ListN.{length, length-append}
use Rattle.paper_number.specs.Grammar.{Digits, digits_text, num_from, num}
use Rattle.paper_number.proofs.Tens.{ten-suc}
use Rattle.paper_number.proofs.Bounds.{text-length}
use Rattle.paper_number.proofs.Reach.{num_from-append, digits_append}
use Rattle.paper_canonical.specs.Closed.{digits_n, shift}

-- ---- lists of digits, one behind the other

pub append_inj : (a b c d : List ℕ) → length a ≡ length c → a ++ b ≡ c ++ d → (a ≡ c) × (b ≡ d)
append_inj [] b [] d n e = (refl, e)
append_inj [] b (y ∷ c) d n e = absurd (omega arith)
append_inj (x ∷ a) b [] d n e = absurd (omega arith)
append_inj (x ∷ a) b (y ∷ c) d n e =
    let h : x ≡ y = cc in
    let t : a ++ b ≡ c ++ d = cc in
    let (p, q) = append_inj a b c d (omega arith) t in
    (rw (h, p) refl, q)

-- ---- the number of a list of digits

same-pair : (a b d e : ℕ) → d < 10 → e < 10 → a * 10 + d ≡ b * 10 + e → (a ≡ b) × (d ≡ e)
same-pair a b d e hd he q = (omega arith, omega arith)

num_from-inj : (l r : List ℕ) (a b : ℕ) → Digits l → Digits r → length l ≡ length r → num_from a l ≡ num_from b r
    → (a ≡ b) × (l ≡ r)
num_from-inj [] [] a b hl hr n e = (e, refl)
num_from-inj [] (y ∷ r) a b hl hr n e = absurd (omega arith)
num_from-inj (x ∷ l) [] a b hl hr n e = absurd (omega arith)
num_from-inj (x ∷ l) (y ∷ r) a b hl hr n e =
    let (p, q) = num_from-inj l r (a * 10 + x) (b * 10 + y) hl.1 hr.1 (omega arith) e in
    let (s, t) = same-pair a b x y hl.0 hr.0 p in
    (s, rw (q, t) refl)

-- digits are told by their count and their number
pub num-inj : (l r : List ℕ) → Digits l → Digits r → length l ≡ length r → num l ≡ num r → l ≡ r
num-inj l r hl hr n e = (num_from-inj l r 0 0 hl hr n e).1

-- ---- the digits of a number

pub digits_n-length : (n v : ℕ) → length (digits_n n v) ≡ n
unfolding digits_n
digits_n-length zero v = refl
digits_n-length (suc n) v = simp length-append (omega (arith, digits_n-length n (v / 10)))

pub digits_n-digits : (n v : ℕ) → Digits (digits_n n v)
unfolding digits_n
digits_n-digits zero v = tt
digits_n-digits (suc n) v =
    digits_append (digits_n n (v / 10)) (v % 10 ∷ []) (digits_n-digits n (v / 10)) (omega arith, tt)

pub digits_n-num : (n v : ℕ) → v < 10 ^ n → num (digits_n n v) ≡ v
unfolding digits_n
digits_n-num zero v h = omega arith
digits_n-num (suc n) v h =
    let e = ten-suc n in
    rw (num_from-append, digits_n-num n (v / 10) (omega arith)) (omega arith)

-- cut in two
pub digits_n-append : (b a v : ℕ) → digits_n (a + b) v ≡ digits_n a (shift b v) ++ digits_n b v
unfolding digits_n shift
digits_n-append zero a v = rw (add-zero a, append-nil) refl
digits_n-append (suc b) a v =
    rw (add-suc a b, digits_n-append b a (v / 10))
    (append_assoc (digits_n a (shift b (v / 10))) (digits_n b (v / 10)) (v % 10 ∷ []))

pub digits-wide : (n v : ℕ) → length (digits_text (digits_n n v)) ≡ n
digits-wide n v = text-length (digits_n n v) ∙ digits_n-length n v
