-- A loop that looks for a member of a list that meets a test, and one that looks through several lists: what the
-- invariant says, and what each turn keeps of it. The list is told by its places, so the loop never makes it.
-- Assumes nothing.
use Prim.Native.Nat.{ℕ, zero, suc, ◌+◌, ◌-◌, ◌<◌, ◌≤◌}
use mathlib.Core.Path.{◌≡◌, ◌∙◌, refl, sym, ap}
use mathlib.Core.Bool.{Bool, true, false, cond}
use mathlib.Core.List.{List, [], ◌∷◌, ◌++◌}
use native.Mathlib.Omega.{arith}
use native.Mathlib.Nat.{add-zero, le_of_suc-le-suc, not-suc-le-zero}
use lib.ListN.{length, get_or}
use Rattle.laws.specs.Members.{list_of, join_of, any_of}
use Rattle.laws.proofs.Search.{less}

-- the loop whose answer is to be `whole` has come to i, and goes up to e
pub record Look {A : Type 0} (p : A → Bool) (f : ℕ → A) (whole : Bool) (i e : ℕ) : Type 0 where
  pub low : i ≤ e
  pub rest : whole ≡ any_of p (list_of f i (e - i))

pub look-all : {A : Type 0} {p : A → Bool} {f : ℕ → A} (n : ℕ) → Look p f (any_of p (list_of f 0 n)) 0 n
look-all n = let z : n - 0 ≡ n = omega arith in record { low = omega arith; rest = rw z }

module _ {A : Type 0} {p : A → Bool} {f : ℕ → A} {whole : Bool} {i e : ℕ} (l : Look p f whole i e) where
  pub look-done : e ≤ i → false ≡ whole
  unfolding list_of any_of
  look-done h =
      let z : e - i ≡ 0 = omega arith in
      let u : any_of p (list_of f i (e - i)) ≡ false = rw z refl in
      sym (l.rest ∙ u)

  pub look-found : i < e → p (f i) ≡ true → true ≡ whole
  unfolding list_of any_of
  look-found h t = let u : any_of p (list_of f i (e - i)) ≡ true = rw (less i e h) (rw t refl) in sym (l.rest ∙ u)

  pub look-next : i < e → p (f i) ≡ false → Look p f whole (i + 1) e
  unfolding list_of any_of
  look-next h t =
      let u : any_of p (list_of f i (e - i)) ≡ any_of p (list_of f (i + 1) (e - (i + 1))) = rw (less i e h) (rw t refl) in
      record { low = omega arith; rest = l.rest ∙ u }

-- where no member of one list meets its test, none of another does that would bring it about
pub any-weaker : {A B : Type 0} (p : A → Bool) (q : B → Bool) (f : ℕ → A) (g : ℕ → B)
    → ((i : ℕ) → p (f i) ≡ true → q (g i) ≡ true)
    → (i n : ℕ) → any_of q (list_of g i n) ≡ false → any_of p (list_of f i n) ≡ false
unfolding list_of any_of
any-weaker p q f g h i zero e = refl
any-weaker p q f g h i (suc n) e = by_tests (p (f i)) (h i) (q (g i)) refl e (any-weaker p q f g h (i + 1) n)
  where
    by_tests : (a : Bool) → (a ≡ true → q (g i) ≡ true) → (b : Bool) → q (g i) ≡ b
        → cond b true (any_of q (list_of g (i + 1) n)) ≡ false
        → (any_of q (list_of g (i + 1) n) ≡ false → any_of p (list_of f (i + 1) n) ≡ false)
        → cond a true (any_of p (list_of f (i + 1) n)) ≡ false
    by_tests true k true w e r = e
    by_tests true k false w e r = sym (k refl) ∙ w
    by_tests false k true w e r = cc
    by_tests false k false w e r = r e

-- of two lists joined
pub any_append : {A : Type 0} (p : A → Bool) (a b : List A) → any_of p (a ++ b) ≡ cond (any_of p a) true (any_of p b)
unfolding any_of
any_append p [] b = refl
any_append p (x ∷ a) b = by-test (p x) (any_of p (a ++ b)) (any_of p a) (any_of p b) (any_append p a b)
  where
    by-test : (t u v w : Bool) → u ≡ cond v true w → cond t true u ≡ cond (cond t true v) true w
    by-test true u v w e = refl
    by-test false u v w e = e

-- the same for lists joined, list by list
pub record Join {A : Type 0} (p : A → Bool) (f : ℕ → List A) (whole : Bool) (i e : ℕ) : Type 0 where
  pub low : i ≤ e
  pub rest : whole ≡ any_of p (join_of f i (e - i))

module _ {A : Type 0} {p : A → Bool} {f : ℕ → List A} {whole : Bool} {i e : ℕ} (l : Join p f whole i e) where
  pub join-done : e ≤ i → false ≡ whole
  unfolding join_of any_of
  join-done h =
      let z : e - i ≡ 0 = omega arith in
      let u : any_of p (join_of f i (e - i)) ≡ false = rw z refl in
      sym (l.rest ∙ u)

  here : i < e
      → any_of p (join_of f i (e - i)) ≡ cond (any_of p (f i)) true (any_of p (join_of f (i + 1) (e - (i + 1))))
  unfolding join_of
  here h = rw (less i e h) (any_append p (f i) (join_of f (i + 1) (e - (i + 1))))

  pub join-found : i < e → true ≡ any_of p (f i) → true ≡ whole
  join-found h t = sym (l.rest ∙ here h ∙ rw (← t) refl)

  pub join-next : i < e → false ≡ any_of p (f i) → Join p f whole (i + 1) e
  join-next h t = record { low = omega arith; rest = l.rest ∙ here h ∙ rw (← t) refl }

-- what the list has at a place
pub list_at : {A : Type 0} (f : ℕ → A) (i n k : ℕ) (d : A) → k < n → get_or (list_of f i n) k d ≡ f (i + k)
unfolding list_of
list_at f i zero k d h = absurd (not-suc-le-zero h)
list_at f i (suc n) zero d h = rw (add-zero i) refl
list_at f i (suc n) (suc k) d h =
    let e : i + 1 + k ≡ i + suc k = omega arith in
    list_at f (i + 1) n k d (le_of_suc-le-suc h) ∙ rw e refl

pub list_length : {A : Type 0} (f : ℕ → A) (i n : ℕ) → length (list_of f i n) ≡ n
unfolding list_of
list_length f i zero = refl
list_length f i (suc n) = ap suc (list_length f (i + 1) n)
