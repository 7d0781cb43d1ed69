-- How two fields that read to one value are compared, and when they are the same.
-- Assumes nothing.
use mathlib.Core.Path.{◌≡◌, refl, ap}
use mathlib.Core.Bool.{Bool, true, false}
use mathlib.Core.List.{List, [], ◌∷◌, ◌++◌}
use mathlib.Core.Logic.{◌⊎◌, inl, inr, ⊎_elim}
use Prim.Native.Nat.{ℕ, ◌+◌, ◌<◌, ◌≤◌}
use native.Mathlib.Nat.{eq-or-lt_of_le}
use native.Mathlib.Omega.{arith}
use lib.ListN.{length, replicate, length-append, length-replicate}
use Rattle.paper_number.specs.Grammar.{Digits, num, sign_text, Sign, unsigned, signed, sign_byte, minus}
use Rattle.paper_number.specs.Grammar.{Opening, by_sign, by_mark, by_bare, open_text, below, power, Field}
use Rattle.paper_canonical.specs.Canonical.{Fewer, Ahead, columns, exponents, marks_e, blanks_behind}
use Rattle.paper_canonical.specs.Closed.{sign_of}
use Rattle.paper_canonical.proofs.Digits.{num-inj, append_inj}

-- equal but for the blanks in front
pub record Same (f g : Field) : Type 0 where
  pub sign : g.sign ≡ f.sign
  pub whole : g.whole ≡ f.whole
  pub part : g.part ≡ f.part
  pub tail : g.tail ≡ f.tail

-- ---- the keys, one after the other

tie-by : {R S : Type 0} (a b : ℕ) → (a ≡ b) ⊎ (a < b) → (a ≡ b → R ⊎ S) → Fewer a b R ⊎ S
tie-by a b (inl e) f = ⊎_elim (λ r. inl (inr (e, r))) (λ s. inr s) (f e)
tie-by a b (inr l) f = inl (inl l)

tie : {R S : Type 0} (a b : ℕ) → a ≤ b → (a ≡ b → R ⊎ S) → Fewer a b R ⊎ S
tie a b h f = tie-by a b (eq-or-lt_of_le h) f

module _ (f g : Field) (S : Type 0) (cols : columns f ≤ columns g) where
  -- against a field that has an exponent where this one has none
  pub settle-less : exponents f.tail < exponents g.tail → Ahead f g ⊎ S
  unfolding Ahead
  settle-less l = tie (columns f) (columns g) cols (λ e. inl (inl l))

  -- of the same kind
  pub settle : exponents f.tail ≡ exponents g.tail → marks_e f.tail ≤ marks_e g.tail
      → (columns f ≡ columns g → marks_e f.tail ≡ marks_e g.tail → length g.whole ≤ length f.whole)
      → (columns f ≡ columns g → marks_e f.tail ≡ marks_e g.tail → length g.whole ≡ length f.whole
      → (blanks_behind f.tail < blanks_behind g.tail) ⊎ S)
      → Ahead f g ⊎ S
  unfolding Ahead
  settle hp hm before last =
      tie (columns f) (columns g) cols (λ e.
      tie (exponents f.tail) (exponents g.tail) (omega arith) (λ _.
      tie (marks_e f.tail) (marks_e g.tail) hm (λ m.
      tie (length g.whole) (length f.whole) (before e m) (λ b. last e m b))))

-- ---- the sign, the opening of an exponent, lists of digits

pub sign-least : (s : Sign) (n : Bool) → minus s ≡ n → length (sign_text (sign_of n)) ≤ length (sign_text s)
sign-least unsigned true e = let z : ◌≡◌ {A = ℕ} 0 1 = cc in absurd (omega arith)
sign-least unsigned false e = omega arith
sign-least (signed g) true e = omega arith
sign-least (signed g) false e = omega arith

pub sign_same : (s : Sign) (n : Bool) → minus s ≡ n → length (sign_text s) ≡ length (sign_text (sign_of n)) → s ≡ sign_of n
sign_same unsigned true e q = let z : ◌≡◌ {A = ℕ} 0 1 = cc in absurd (omega arith)
sign_same unsigned false e q = refl
sign_same (signed g) true e q = ap signed e
sign_same (signed g) false e q = absurd (omega arith)

open-length : (k : ℕ) (l : List ℕ) → length (replicate k 32 ++ l) ≡ k + length l
open-length k l = rw (length-append, length-replicate) refl

pub open-least : (o : Opening) → 1 ≤ length (open_text o)
open-least (by_sign k g) = omega (arith, open-length k (sign_byte g ∷ []))
open-least (by_mark k g) = omega (arith, open-length k (69 ∷ sign_byte g ∷ []))
open-least (by_bare k j) = omega (arith, open-length k (69 ∷ replicate j 32))

pub open-same : (o : Opening) (ds : List ℕ) → length (open_text o) ≡ 1 → 0 ≡ marks_e (power o ds) → o ≡ by_sign 0 (below o)
open-same (by_sign k g) ds e m = let q : k ≡ 0 = omega (arith, open-length k (sign_byte g ∷ [])) in rw q refl
open-same (by_mark k g) ds e m = absurd (omega arith)
open-same (by_bare k j) ds e m = absurd (omega arith)

pub same_digits : (a b c d : List ℕ) → Digits (a ++ b) → Digits (c ++ d) → length a ≡ length c → length b ≡ length d
    → num (a ++ b) ≡ num (c ++ d) → (a ≡ c) × (b ≡ d)
same_digits a b c d h k n m e =
    append_inj a b c d n (num-inj (a ++ b) (c ++ d) h k (simp length-append (omega arith)) e)
