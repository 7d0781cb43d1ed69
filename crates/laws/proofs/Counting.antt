-- How many places meet a test, and the first that does. Assumes nothing.
use Prim.Native.Nat.{ℕ, zero, suc, ◌+◌, ◌<◌, ◌≤◌}
use mathlib.Core.Path.{◌≡◌, refl, sym, ap, ◌∙◌}
use mathlib.Core.Bool.{Bool, true, false, cond, ◌&&◌}
use native.Mathlib.Omega.{arith}
use lib.Dec.{eqb, leb, ltb}
use borrow.Author.Tests.{lt-ltb, le-ltb, leb-true, leb-false, eq-eqb, ne_eqb}
use Rattle.laws.specs.Search.{first, how_many}
use Rattle.laws.proofs.Booleans.{differ}
use Rattle.laws.proofs.Search.{either}

pub many-same : (f g : ℕ → Bool) (n : ℕ) → ((k : ℕ) → k < n → f k ≡ g k) → how_many f 0 n ≡ how_many g 0 n
unfolding how_many
many-same f g zero h = refl
many-same f g (suc n) h =
    let z : 0 + n ≡ n = omega arith in
    rw (z, h n (omega arith), many-same f g n (λ k l. h k (omega arith)))

pub many-none : (t : ℕ → Bool) (n : ℕ) → ((k : ℕ) → k < n → t k ≡ false) → how_many t 0 n ≡ 0
unfolding how_many
many-none t zero h = refl
many-none t (suc n) h =
    let z : 0 + n ≡ n = omega arith in
    rw (z, h n (omega arith), many-none t n (λ k l. h k (omega arith)))

pub none-many : (t : ℕ → Bool) (n : ℕ) → how_many t 0 n ≡ 0 → (k : ℕ) → k < n → t k ≡ false
unfolding how_many
none-many t zero e k l = absurd (omega arith)
none-many t (suc n) e k l =
    let z : 0 + n ≡ n = omega arith in
    by-test (t n) refl (rw z at e) (λ e l. none-many t n e k l)
  where
    by-test : (b : Bool) → t n ≡ b → how_many t 0 n + cond b 1 0 ≡ 0
        → (how_many t 0 n ≡ 0 → k < n → t k ≡ false) → t k ≡ false
    by-test true q h rest = absurd (omega arith)
    by-test false q h rest =
        either k n (λ a. rest (omega arith) a) (λ a. let y : k ≡ n = omega arith in rw y q)

-- of n places only the first u count
pub many_below : (t : ℕ → Bool) (u n : ℕ) → n ≤ u → how_many (λ k. ltb k u && t k) 0 n ≡ how_many t 0 n
many_below t u n l = many-same (λ k. ltb k u && t k) t n (λ k a. rw (lt-ltb k u (omega arith)))

pub many-above : (t : ℕ → Bool) (u n : ℕ) → u ≤ n → how_many (λ k. ltb k u && t k) 0 n ≡ how_many t 0 u
unfolding how_many
many-above t u zero l = let z : u ≡ 0 = omega arith in rw z
many-above t u (suc n) l =
    either n u
    (λ a. let z : u ≡ suc n = omega arith in
    ap (λ v. how_many (λ k. ltb k v && t k) 0 (suc n)) z
    ∙ many_below t (suc n) (suc n) (omega arith)
    ∙ ap (how_many t 0) (sym z))
    (λ a. let z : 0 + n ≡ n = omega arith in
    let e = many-above t u n a in
    rw (z, le-ltb n u a) (omega arith))

-- the places from m on
pub many-split : (t : ℕ → Bool) (m n : ℕ) → how_many t 0 (m + n) ≡ how_many t 0 m + how_many (λ k. t (m + k)) 0 n
unfolding how_many
many-split t m zero = let z : m + 0 ≡ m = omega arith in rw z (omega arith)
many-split t m (suc n) =
    let z : m + suc n ≡ suc (m + n) = omega arith in
    let y : 0 + (m + n) ≡ m + n = omega arith in
    let x : 0 + n ≡ n = omega arith in
    rw z (rw (y, x) (let e = many-split t m n in omega arith))

-- ---- the first

pub first-before : (f : ℕ → Bool) (i n k : ℕ) → i ≤ k → k < first f i n → k < i + n → f k ≡ false
unfolding first
first-before f i zero k a b l = absurd (omega arith)
first-before f i (suc n) k a b l = by-test (f i) refl b (λ a b l. first-before f (i + 1) n k a b l)
  where
    by-test : (t : Bool) → f i ≡ t → k < cond t i (first f (i + 1) n)
        → (i + 1 ≤ k → k < first f (i + 1) n → k < i + 1 + n → f k ≡ false) → f k ≡ false
    by-test true q h rest = absurd (omega arith)
    by-test false q h rest =
        either i k (λ e. rest (omega arith) h (omega arith)) (λ e. let y : k ≡ i = omega arith in rw y q)

pub first_past : (f : ℕ → Bool) (i n u : ℕ) → i ≤ u → u ≤ i + n → ((k : ℕ) → i ≤ k → k < u → f k ≡ false)
    → u ≤ first f i n
unfolding first
first_past f i zero u a b h = omega arith
first_past f i (suc n) u a b h =
    either i u
    (λ l. rw (h i (omega arith) l) (first_past f (i + 1) n u (omega arith) (omega arith)
    (λ k x y. h k (omega arith) y)))
    (λ l. by-test (f i) (first f (i + 1) n) (first_past f (i + 1) n (i + 1) (omega arith) (omega arith)
    (λ k x y. absurd (omega arith))) l)
  where
    by-test : (t : Bool) (x : ℕ) → i + 1 ≤ x → u ≤ i → u ≤ cond t i x
    by-test true x p l = l
    by-test false x p l = omega arith

-- none of the first u places meets the test, seen by the first that does and by their number
pub first-many : (f t : ℕ → Bool) (u n : ℕ) → u ≤ n → ((k : ℕ) → k < u → f k ≡ t k)
    → leb u (first f 0 n) ≡ eqb (how_many t 0 u) 0
first-many f t u n l same = by-test (leb u (first f 0 n)) refl
  where
    by-test : (b : Bool) → leb u (first f 0 n) ≡ b → b ≡ eqb (how_many t 0 u) 0
    by-test true e =
        let x = leb-true u (first f 0 n) e in
        sym (eq-eqb (how_many t 0 u) 0
        (many-none t u (λ k a. sym (same k a) ∙ first-before f 0 n k (omega arith) (omega arith) (omega arith))))
    by-test false e =
        let x = leb-false u (first f 0 n) e in
        sym (ne_eqb (how_many t 0 u) 0 (λ z.
        let y = first_past f 0 n u (omega arith) (omega arith)
        (λ k p q. same k q ∙ none-many t u z k q) in
        absurd (omega arith)))

-- what is found meets the test
pub first_holds : (f : ℕ → Bool) (i n : ℕ) → first f i n < i + n → f (first f i n) ≡ true
unfolding first
first_holds f i zero h = absurd (omega arith)
first_holds f i (suc n) h = by-test (f i) refl h (first_holds f (i + 1) n)
  where
    by-test : (t : Bool) → f i ≡ t → cond t i (first f (i + 1) n) < i + suc n
        → (first f (i + 1) n < i + 1 + n → f (first f (i + 1) n) ≡ true) → f (cond t i (first f (i + 1) n)) ≡ true
    by-test true q h rest = q
    by-test false q h rest = rest (omega arith)

-- the search ends at a place that meets the test, where none before it does
pub first-is : (f : ℕ → Bool) (i n k : ℕ) → i ≤ k → k < i + n → f k ≡ true
    → ((j : ℕ) → i ≤ j → j < k → f j ≡ false) → first f i n ≡ k
first-is f i n k a b here before =
    let l = first_past f i n k a (omega arith) before in
    either k (first f i n) (λ h. differ (sym here ∙ first-before f i n k a h b)) (λ h. omega arith)
