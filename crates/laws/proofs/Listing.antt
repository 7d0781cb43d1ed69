-- Lists told by their places, tests over them, and properties of all their members. Assumes nothing.
use Prim.Native.Nat.{ℕ, zero, suc, ◌+◌, ◌<◌, ◌≤◌}
use mathlib.Core.Path.{◌≡◌, refl, sym, ◌∙◌, ap}
use mathlib.Core.Bool.{Bool, true, false, cond, ◌&&◌}
use mathlib.Core.List.{List, [], ◌∷◌, ◌++◌, map, append-nil, append_assoc}
use native.Mathlib.Omega.{arith}
use Rattle.laws.specs.Members.{list_of, any_of}
use Rattle.laws.specs.Walk.{All}
use Rattle.laws.specs.Blocks.{joined}
use Rattle.laws.proofs.Search.{either}
use Rattle.laws.proofs.Members.{any_append}
use Rattle.laws.proofs.Booleans.{differ}

pub all_append : {A : Type 0} (P : A → Type 0) (xs ys : List A) → All P xs → All P ys → All P (xs ++ ys)
all_append P [] ys a b = b
all_append P (x ∷ xs) ys a b = (a.0, all_append P xs ys a.1 b)

pub all_left : {A : Type 0} (P : A → Type 0) (xs ys : List A) → All P (xs ++ ys) → All P xs
all_left P [] ys a = tt
all_left P (x ∷ xs) ys a = (a.0, all_left P xs ys a.1)

pub all_right : {A : Type 0} (P : A → Type 0) (xs ys : List A) → All P (xs ++ ys) → All P ys
all_right P [] ys a = a
all_right P (x ∷ xs) ys a = all_right P xs ys a.1

pub all-places : (P : List ℕ → Type 0) (g : ℕ → List ℕ) (i n : ℕ) → ((x : ℕ) → i ≤ x → x < i + n → P (g x))
    → All P (list_of g i n)
unfolding list_of
all-places P g i zero h = tt
all-places P g i (suc n) h =
    (h i (omega arith) (omega arith), all-places P g (i + 1) n (λ x a b. h x (omega arith) (omega arith)))

pub places-all : (P : List ℕ → Type 0) (g : ℕ → List ℕ) (i n : ℕ) → All P (list_of g i n) → (x : ℕ) → i ≤ x → x < i + n
    → P (g x)
unfolding list_of
places-all P g i zero h x a b = absurd (omega arith)
places-all P g i (suc n) h x a b =
    either i x
    (λ l. places-all P g (i + 1) n h.1 x (omega arith) (omega arith))
    (λ l. let z : x ≡ i = omega arith in rw z h.0)

pub list-shift : {A : Type 0} (f g : ℕ → A) (i n : ℕ) → ((k : ℕ) → f (k + 1) ≡ g k) → list_of f (i + 1) n ≡ list_of g i n
unfolding list_of
list-shift f g i zero h = refl
list-shift f g i (suc n) h = rw (h i, list-shift f g (i + 1) n h)

pub list-split : {A : Type 0} (g : ℕ → A) (i n m : ℕ) → list_of g i (n + m) ≡ list_of g i n ++ list_of g (i + n) m
unfolding list_of
list-split {A} g i zero m =
    let a : 0 + m ≡ m = omega arith in
    let b : i + 0 ≡ i = omega arith in
    rw (a, b)
list-split {A} g i (suc n) m =
    let a : suc n + m ≡ suc (n + m) = omega arith in
    let b : i + 1 + n ≡ i + suc n = omega arith in
    rw a (ap (λ (x : List A). g i ∷ x) (list-split g (i + 1) n m ∙ rw b))

pub list_same : {A : Type 0} (f g : ℕ → A) (i n : ℕ) → ((k : ℕ) → i ≤ k → k < i + n → f k ≡ g k)
    → list_of f i n ≡ list_of g i n
unfolding list_of
list_same f g i zero h = refl
list_same f g i (suc n) h =
    rw (h i (omega arith) (omega arith), list_same f g (i + 1) n (λ k a b. h k (omega arith) (omega arith)))

pub any_none : {A : Type 0} (p : A → Bool) (g : ℕ → A) (i n : ℕ) → any_of p (list_of g i n) ≡ false
    → (k : ℕ) → i ≤ k → k < i + n → p (g k) ≡ false
unfolding any_of list_of
any_none p g i zero e k a b = absurd (omega arith)
any_none p g i (suc n) e k a b = by-test (p (g i)) refl e (λ e. any_none p g (i + 1) n e k)
  where
    by-test : (t : Bool) → p (g i) ≡ t → cond t true (any_of p (list_of g (i + 1) n)) ≡ false
        → (any_of p (list_of g (i + 1) n) ≡ false → i + 1 ≤ k → k < i + 1 + n → p (g k) ≡ false) → p (g k) ≡ false
    by-test true q h rest = differ h
    by-test false q h rest =
        either i k (λ l. rest h (omega arith) (omega arith)) (λ l. let z : k ≡ i = omega arith in rw z q)

pub none_any : {A : Type 0} (p : A → Bool) (g : ℕ → A) (i n : ℕ)
    → ((k : ℕ) → i ≤ k → k < i + n → p (g k) ≡ false) → any_of p (list_of g i n) ≡ false
unfolding any_of list_of
none_any p g i zero h = refl
none_any p g i (suc n) h =
    rw (h i (omega arith) (omega arith)) (none_any p g (i + 1) n (λ k a b. h k (omega arith) (omega arith)))

pub any-one : {A : Type 0} (p : A → Bool) (xs : List A) (x : A) → any_of p (xs ++ (x ∷ [])) ≡ false
    → (any_of p xs ≡ false) × (p x ≡ false)
unfolding any_of
any-one p xs x e = by-test (any_of p xs) (p x) (sym (any_append p xs (x ∷ [])) ∙ e)
  where
    by-test : (a b : Bool) → cond a true (cond b true false) ≡ false → (a ≡ false) × (b ≡ false)
    by-test true b h = differ h
    by-test false true h = differ h
    by-test false false h = (refl, refl)

pub any-map : {A B : Type 0} (t : B → Bool) (f : A → B) (xs : List A) → any_of t (map f xs) ≡ any_of (λ x. t (f x)) xs
unfolding any_of
any-map t f [] = refl
any-map t f (x ∷ xs) = rw (any-map t f xs)

-- tests that say the same of each member
pub any_same : {A : Type 0} (p q : A → Bool) (xs : List A) → ((x : A) → p x ≡ q x) → any_of p xs ≡ any_of q xs
unfolding any_of
any_same p q [] h = refl
any_same p q (x ∷ xs) h = rw (h x, any_same p q xs h)

-- a test that fails on all
pub any-never : {A : Type 0} (xs : List A) → any_of (λ x. false) xs ≡ false
unfolding any_of
any-never [] = refl
any-never (x ∷ xs) = any-never xs

pub any-list : {A B : Type 0} (t : B → Bool) (f : A → B) (g : ℕ → A) (i n : ℕ)
    → any_of (λ x. t (f x)) (list_of g i n) ≡ any_of t (list_of (λ k. f (g k)) i n)
unfolding any_of list_of
any-list t f g i zero = refl
any-list t f g i (suc n) = rw (any-list t f g (i + 1) n)

pub any-and : {A : Type 0} (a : Bool) (t : A → Bool) (xs : List A) → any_of (λ x. a && t x) xs ≡ (a && any_of t xs)
unfolding any_of
any-and true t [] = refl
any-and false t [] = refl
any-and true t (x ∷ xs) = rw (any-and true t xs)
any-and false t (x ∷ xs) = any-and false t xs

pub joined-append : (xs ys : List (List ℕ)) → joined (xs ++ ys) ≡ joined xs ++ joined ys
unfolding joined
joined-append [] ys = refl
joined-append (x ∷ xs) ys = rw (joined-append xs ys) (sym (append_assoc x (joined xs) (joined ys)))

pub joined-one : (xs : List (List ℕ)) (r : List ℕ) → joined (xs ++ (r ∷ [])) ≡ joined xs ++ r
unfolding joined
joined-one xs r = joined-append xs (r ∷ []) ∙ ap (λ (w : List ℕ). joined xs ++ w) (append-nil r)
