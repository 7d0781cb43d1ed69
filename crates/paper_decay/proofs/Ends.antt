-- The columns of a record up to the last that is filled.
-- Assumes nothing.
use mathlib.Core.Path.{◌≡◌, refl, sym, ap, ◌∙◌}
use mathlib.Core.Bool.{Bool, true, false}
use mathlib.Core.List.{List, [], ◌∷◌, ◌++◌}
use mathlib.Core.Logic.{◌⊎◌, inl, inr}
use Prim.Native.Nat.{ℕ, zero, suc, ◌+◌, ◌-◌, ◌<◌, ◌≤◌}
use native.Mathlib.Omega.{arith}
use borrow.Author.Tests.{ne_eqb, eqb-true, eqb-false}
use lib.Dec.{eqb}
use lib.ListN.{length, get_or, length-append, length-replicate, get_or-replicate}
use lib.Seq.{get_or-append-add}
use Rattle.laws.specs.Search.{first}
use Rattle.laws.proofs.Search.{pass-first}
use Rattle.paper_number.specs.Grammar.{blanks}
use Rattle.paper_decay.specs.Records.{filled_behind, filled_to}

-- the first place is k behind i
first-is : (f : ℕ → Bool) (k n i : ℕ) → ((j : ℕ) → i ≤ j → j < i + k → f j ≡ false) → f (i + k) ≡ true → k < n
    → first f i n ≡ i + k
unfolding first
first-is f k zero i h t l = absurd (omega arith)
first-is f zero (suc n) i h t l =
    let z : i + 0 ≡ i = omega arith in
    let u : f i ≡ true = ap f (sym z) ∙ t in
    rw u (sym z)
first-is f (suc k) (suc n) i h t l =
    let z : i + 1 + k ≡ i + suc k = omega arith in
    rw (h i (omega arith) (omega arith))
    (first-is f k n (i + 1) (λ j a b. h j (omega arith) (omega arith)) (ap f z ∙ t) (omega arith) ∙ z)

blank-at : (l : List ℕ) (j : ℕ) → get_or l (length l - 1 - j) 0 ≡ 32 → filled_behind l j ≡ false
blank-at l j e = rw e refl

filled_at : (l : List ℕ) (j x : ℕ) → get_or l (length l - 1 - j) 0 ≡ x → (x ≡ 32 → ⊥) → filled_behind l j ≡ true
filled_at l j x e h = rw (e, ne_eqb x 32 h) refl

pub filled_none : (k : ℕ) → filled_to (blanks k) ≡ 0
unfolding filled_to
filled_none k =
    let n : length (blanks k) ≡ k = length-replicate k 32 in
    let e : first (filled_behind (blanks k)) 0 (length (blanks k)) ≡ 0 + length (blanks k) =
    pass-first (filled_behind (blanks k)) 0 (length (blanks k))
    (λ j a b. blank-at (blanks k) j (get_or-replicate k (length (blanks k) - 1 - j) 32 0 (omega arith))) in
    omega arith

module _ (t : List ℕ) (x k : ℕ) (h : x ≡ 32 → ⊥) where
  wide : length (t ++ (x ∷ blanks k)) ≡ length t + suc k
  wide = let n : length (blanks k) ≡ k = length-replicate k 32 in let a = length-append t (x ∷ blanks k) in omega arith

  behind : (j : ℕ) → j < k → get_or (t ++ (x ∷ blanks k)) (length (t ++ (x ∷ blanks k)) - 1 - j) 0 ≡ 32
  behind j l =
      let w = wide in
      let z : length (t ++ (x ∷ blanks k)) - 1 - j ≡ length t + suc (k - 1 - j) = omega arith in
      ap (λ (i : ℕ). get_or (t ++ (x ∷ blanks k)) i 0) z ∙ get_or-append-add t (x ∷ blanks k) (suc (k - 1 - j)) 0
      ∙ get_or-replicate k (k - 1 - j) 32 0 (omega arith)

  last-at : get_or (t ++ (x ∷ blanks k)) (length (t ++ (x ∷ blanks k)) - 1 - k) 0 ≡ x
  last-at =
      let w = wide in
      let z : length (t ++ (x ∷ blanks k)) - 1 - k ≡ length t + 0 = omega arith in
      ap (λ (i : ℕ). get_or (t ++ (x ∷ blanks k)) i 0) z ∙ get_or-append-add t (x ∷ blanks k) 0 0

  pub filled-last : filled_to (t ++ (x ∷ blanks k)) ≡ length t + 1
  unfolding filled_to
  filled-last =
      let w = wide in
      let l = t ++ (x ∷ blanks k) in
      let zk : 0 + k ≡ k = omega arith in
      let e : first (filled_behind l) 0 (length l) ≡ 0 + k =
      first-is (filled_behind l) k (length l) 0 (λ j a b. blank-at l j (behind j (omega arith))) (ap (filled_behind l) zk ∙ filled_at l k x last-at h) (omega arith) in
      omega arith

-- a record is blank, or has a last filled column
pub record Last (l : List ℕ) : Type 0 where
  pub before : List ℕ
  pub last : ℕ
  pub rest : ℕ
  pub filled : last ≡ 32 → ⊥
  pub same : before ++ (last ∷ blanks rest) ≡ l

pub record Bare (l : List ℕ) : Type 0 where
  pub wide : ℕ
  pub same : blanks wide ≡ l

pub last_of : (l : List ℕ) → Bare l ⊎ Last l
last_of [] = inl (record { wide = 0; same = refl })
last_of (b ∷ l) = by-rest (last_of l) (eqb b 32) refl
  where
    by-rest : Bare l ⊎ Last l → (p : Bool) → eqb b 32 ≡ p → Bare (b ∷ l) ⊎ Last (b ∷ l)
    by-rest (inr r) p e =
        inr (record {
          before = b ∷ r.before;
          last = r.last;
          rest = r.rest;
          filled = r.filled;
          same = ap (λ (m : List ℕ). b ∷ m) r.same;
        })
    by-rest (inl r) true e =
        let z : 32 ≡ b = sym (eqb-true b 32 e) in
        inl (record { wide = suc r.wide; same = λ i. z i ∷ r.same i })
    by-rest (inl r) false e =
        inr (record {
          before = [];
          last = b;
          rest = r.wide;
          filled = eqb-false b 32 e;
          same = ap (λ (m : List ℕ). b ∷ m) r.same;
        })
