-- A loop that looks for the first place at which a test holds: what its invariant says, and what each turn keeps of it.
-- Assumes nothing.
use Prim.Native.Nat.{ℕ, zero, suc, ◌+◌, ◌-◌, ◌<◌, ◌≤◌}
use mathlib.Core.Path.{◌≡◌, ◌∙◌, refl, sym}
use mathlib.Core.Bool.{Bool, true, false, cond}
use lib.Dec.{eqb, ltb}
use borrow.Author.Tests.{eq-eqb, ne_eqb, ltb-true, ltb-false}
use native.Mathlib.Omega.{arith}
use native.Mathlib.Nat.{add-sub_cancel_left}
use Rattle.laws.specs.Search.{first, how_many}

pub less : (i e : ℕ) → i < e → e - i ≡ suc (e - (i + 1))
less i e h = omega arith

-- the loop that looks for the first place up to e, and whose answer is to be `whole`, has come to i
pub record Scan (f : ℕ → Bool) (whole i e : ℕ) : Type 0 where
  pub low : i ≤ e
  pub rest : whole ≡ first f i (e - i)

-- at the start: n places from i, or all places from i up to e
pub scan-run : {f : ℕ → Bool} {i : ℕ} (n : ℕ) → Scan f (first f i n) i (i + n)
scan-run n = record { low = omega arith; rest = rw add-sub_cancel_left }

pub scan-all : {f : ℕ → Bool} (n : ℕ) → Scan f (first f 0 n) 0 n
scan-all {f} n = let z : n - 0 ≡ n = omega arith in record { low = omega arith; rest = rw z }

pub scan-upto : {f : ℕ → Bool} {i : ℕ} (e : ℕ) → i ≤ e → Scan f (first f i (e - i)) i e
scan-upto e h = record { low = h; rest = refl }

module _ {f : ℕ → Bool} {whole i e : ℕ} (s : Scan f whole i e) where
  -- after the last turn
  pub scan-done : e ≤ i → e ≡ whole
  unfolding first
  scan-done h =
      let z : e - i ≡ 0 = omega arith in
      let w : e ≡ i = omega arith in
      let u : first f i (e - i) ≡ i = rw z refl in
      w ∙ sym (s.rest ∙ u)

  -- a turn that finds
  pub scan-found : i < e → f i ≡ true → i ≡ whole
  unfolding first
  scan-found h t = let u : first f i (e - i) ≡ i = rw (less i e h) (rw t refl) in sym (s.rest ∙ u)

  -- a turn that does not
  pub scan-next : i < e → f i ≡ false → Scan f whole (i + 1) e
  unfolding first
  scan-next h t =
      let u : first f i (e - i) ≡ first f (i + 1) (e - (i + 1)) = rw (less i e h) (rw t refl) in
      record { low = omega arith; rest = s.rest ∙ u }

  -- of a test that the scan reaches its end: it does not, and it does
  pub scan-stopped : i < e → f i ≡ true → false ≡ eqb whole e
  scan-stopped h t = let w : i ≡ whole = scan-found h t in sym (ne_eqb whole e (λ z. omega arith))

  pub scan-passed : e ≤ i → true ≡ eqb whole e
  scan-passed h = let w : e ≡ whole = scan-done h in sym (eq-eqb whole e (sym w))

-- the first place lies in the run, or at its end
pub first-from : (f : ℕ → Bool) (i n : ℕ) → i ≤ first f i n
unfolding first
first-from f i zero = omega arith
first-from f i (suc n) = by-test (f i) (first f (i + 1) n) (first-from f (i + 1) n)
  where
    by-test : (b : Bool) (x : ℕ) → i + 1 ≤ x → i ≤ cond b i x
    by-test true x h = omega arith
    by-test false x h = omega arith

pub first_to : (f : ℕ → Bool) (i n : ℕ) → first f i n ≤ i + n
unfolding first
first_to f i zero = omega arith
first_to f i (suc n) = by-test (f i) (first f (i + 1) n) (first_to f (i + 1) n)
  where
    by-test : (b : Bool) (x : ℕ) → x ≤ (i + 1) + n → cond b i x ≤ i + suc n
    by-test true x h = omega arith
    by-test false x h = omega arith

-- a search goes by its test alone
pub first-same : (f g : ℕ → Bool) (i n : ℕ) → ((k : ℕ) → i ≤ k → k < i + n → f k ≡ g k) → first f i n ≡ first g i n
unfolding first
first-same f g i zero h = refl
first-same f g i (suc n) h =
    rw (h i (omega arith) (omega arith), first-same f g (i + 1) n (λ k a b. h k (omega arith) (omega arith)))

-- below, or not below
pub either : {X : Type 0} (a b : ℕ) → (a < b → X) → (b ≤ a → X) → X
either {X} a b yes' no' = by-test (ltb a b) refl
  where
    by-test : (t : Bool) → ltb a b ≡ t → X
    by-test true e = yes' (ltb-true a b e)
    by-test false e = no' (ltb-false a b e)

-- nothing found: the test holds nowhere
pub first-pass : (f : ℕ → Bool) (i n : ℕ) → first f i n ≡ i + n → (k : ℕ) → i ≤ k → k < i + n → f k ≡ false
unfolding first
first-pass f i zero e k a b = absurd (omega arith)
first-pass f i (suc n) e k a b = by-test (f i) refl e (λ h. first-pass f (i + 1) n h k)
  where
    by-test : (t : Bool) → f i ≡ t → cond t i (first f (i + 1) n) ≡ i + suc n
        → (first f (i + 1) n ≡ i + 1 + n → i + 1 ≤ k → k < i + 1 + n → f k ≡ false) → f k ≡ false
    by-test true q h rest = absurd (omega arith)
    by-test false q h rest =
        either i k
        (λ l. rest (omega arith) (omega arith) (omega arith))
        (λ l. let z : k ≡ i = omega arith in rw z q)

-- and the other way round
pub pass-first : (f : ℕ → Bool) (i n : ℕ) → ((k : ℕ) → i ≤ k → k < i + n → f k ≡ false) → first f i n ≡ i + n
unfolding first
pass-first f i zero h = omega arith
pass-first f i (suc n) h =
    rw (h i (omega arith) (omega arith))
    (pass-first f (i + 1) n (λ k a b. h k (omega arith) (omega arith)) ∙ shift)
  where
    shift : i + 1 + n ≡ i + suc n
    shift = omega arith

-- a test holds at no more places than there are
pub many-to : (f : ℕ → Bool) (i n : ℕ) → how_many f i n ≤ n
unfolding how_many
many-to f i zero = omega arith
many-to f i (suc n) = by-test (f (i + n)) (how_many f i n) (many-to f i n)
  where
    by-test : (b : Bool) (x : ℕ) → x ≤ n → x + cond b 1 0 ≤ suc n
    by-test true x h = omega arith
    by-test false x h = omega arith

-- a count goes by its test alone
pub many-same : (f g : ℕ → Bool) (i n : ℕ) → ((k : ℕ) → i ≤ k → k < i + n → f k ≡ g k) → how_many f i n ≡ how_many g i n
unfolding how_many
many-same f g i zero h = refl
many-same f g i (suc n) h =
    rw (h (i + n) (omega arith) (omega arith), many-same f g i n (λ k a b. h k a (omega arith)))
