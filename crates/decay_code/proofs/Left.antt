-- The loop that looks for the j-th record that opens: what its invariant says, and what each turn keeps of it.
-- Assumes nothing.
use mathlib.Core.Path.{◌≡◌, refl, sym, ◌∙◌}
use mathlib.Core.Bool.{Bool, true, false, cond}
use mathlib.Core.List.{List}
use Prim.Native.Nat.{ℕ, suc, ◌+◌, ◌-◌, ◌<◌, ◌≤◌}
use native.Mathlib.Omega.{arith}
use borrow.Author.Tests.{eq-eqb, ne_eqb}
use Rattle.laws.proofs.Search.{less}
use Rattle.paper_codes.proofs.Opening.{counted-from}
use Rattle.paper_codes.specs.Opening.{records_of, opens, opening_from, opening_of}

-- the loop whose answer is to be `whole` has come to i, with so many openings left, and goes up to e
pub record Left (p : List ℕ) (whole left i e : ℕ) : Type 0 where
  pub low : i ≤ e
  pub some : 1 ≤ left
  pub rest : whole ≡ opening_from p left i (e - i)

-- at the start; there is no code 0
pub left-all : (p : List ℕ) (j : ℕ) → (j ≡ 0 → ⊥) → Left p (opening_of p j) j 0 (records_of p)
left-all p j h =
    let z : records_of p - 0 ≡ records_of p = omega arith in
    record { low = omega arith; some = omega arith; rest = rw z (counted-from p j h) }

module _ (p : List ℕ) (left i k : ℕ) (some : 1 ≤ left) where
  step-here : (b : Bool) → opens p i ≡ b → cond b (left - 1) left ≡ 0 → opening_from p left i (suc k) ≡ i
  unfolding opening_from
  step-here true e z = rw (e, eq-eqb left 1 (omega arith)) refl
  step-here false e z = absurd (omega arith)

  step-next : (b : Bool) → opens p i ≡ b → (cond b (left - 1) left ≡ 0 → ⊥)
      → opening_from p left i (suc k) ≡ opening_from p (cond b (left - 1) left) (i + 1) k
  unfolding opening_from
  step-next true e n = rw (e, ne_eqb left 1 (λ z. n (omega arith))) refl
  step-next false e n = rw e refl

module _ {p : List ℕ} {whole left i e : ℕ} (x : Left p whole left i e) where
  -- after the last turn
  pub left-done : e ≤ i → e ≡ whole
  unfolding opening_from
  left-done h =
      let low = x.low in
      let z : e - i ≡ 0 = omega arith in
      let w : e ≡ i = omega arith in
      let u : opening_from p left i (e - i) ≡ i = rw z refl in
      w ∙ sym (x.rest ∙ u)

  -- a turn that finds
  pub left_here : {l : ℕ} → i < e → l ≡ cond (opens p i) (left - 1) left → l ≡ 0 → i ≡ whole
  left_here h q z =
      let u : opening_from p left i (e - i) ≡ i =
      rw (less i e h) (step-here p left i (e - (i + 1)) x.some (opens p i) refl (sym q ∙ z)) in
      sym (x.rest ∙ u)

  -- a turn that does not
  pub left-next : {l : ℕ} → i < e → l ≡ cond (opens p i) (left - 1) left → (l ≡ 0 → ⊥) → Left p whole l (i + 1) e
  left-next {l} h q n =
      let u : opening_from p left i (e - i) ≡ opening_from p l (i + 1) (e - (i + 1)) =
      rw (less i e h, q) (step-next p left i (e - (i + 1)) x.some (opens p i) refl (λ z. n (q ∙ z))) in
      record { low = omega arith; some = omega arith; rest = x.rest ∙ u }
