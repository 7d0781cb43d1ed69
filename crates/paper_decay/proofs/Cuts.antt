-- Where one text is written as two, with a character between them that the first cannot have, the two are the same.
-- Assumes nothing.
use mathlib.Core.Path.{◌≡◌, refl, sym, ap, subst}
use mathlib.Core.List.{List, [], ◌∷◌, ◌++◌}
use Prim.Native.Nat.{ℕ, zero, suc, ◌+◌, ◌≤◌}
use native.Mathlib.Omega.{arith}
use Rattle.laws.specs.Walk.{All}
use Rattle.paper_number.specs.Grammar.{blanks, Digits, digits_text}

-- a list begins with no such character
abbrev pub Stops : (ℕ → Type 0) → List ℕ → Type 0
Stops P [] = Unit {0}
Stops P (x ∷ r) = P x → ⊥

-- [] is no list with a first character
pub no-first : {X : Type 0} (x : ℕ) (l : List ℕ) → [] ≡ x ∷ l → X
no-first x l e = let z : ◌≡◌ {A = ℕ} 0 1 = cc in absurd (omega arith)

pub cut-once : (P : ℕ → Type 0) (a c r s : List ℕ) → All P a → All P c → Stops P r → Stops P s → a ++ r ≡ c ++ s
    → (a ≡ c) × (r ≡ s)
cut-once P [] [] r s ha hc hr hs e = (refl, e)
cut-once P [] (y ∷ c) [] s ha hc hr hs e = no-first y (c ++ s) e
cut-once P [] (y ∷ c) (x ∷ r) s ha hc hr hs e =
    let h : y ≡ x = cc in
    absurd (hr (subst P h hc.0))
cut-once P (x ∷ a) [] r [] ha hc hr hs e = no-first x (a ++ r) (sym e)
cut-once P (x ∷ a) [] r (y ∷ s) ha hc hr hs e =
    let h : x ≡ y = cc in
    absurd (hs (subst P h ha.0))
cut-once P (x ∷ a) (y ∷ c) r s ha hc hr hs e =
    let h : x ≡ y = cc in
    let t : a ++ r ≡ c ++ s = cc in
    let (p, q) = cut-once P a c r s ha.1 hc.1 hr hs t in
    (rw (h, p) refl, q)

-- ---- of each character of texts

pub all_append : (P : ℕ → Type 0) (a b : List ℕ) → All P a → All P b → All P (a ++ b)
all_append P [] b h k = k
all_append P (x ∷ a) b h k = (h.0, all_append P a b h.1 k)

pub all_map : {A : Type 0} (P Q : A → Type 0) (a : List A) → ((b : A) → P b → Q b) → All P a → All Q a
all_map P Q [] f h = tt
all_map P Q (x ∷ a) f h = (f x h.0, all_map P Q a f h.1)

-- ---- blanks

abbrev pub Blank : ℕ → Type 0
Blank b = b ≡ 32

pub blanks-once : (m n : ℕ) (r s : List ℕ) → Stops Blank r → Stops Blank s → blanks m ++ r ≡ blanks n ++ s
    → (m ≡ n) × (r ≡ s)
blanks-once zero zero r s hr hs e = (refl, e)
blanks-once zero (suc n) [] s hr hs e = no-first 32 (blanks n ++ s) e
blanks-once zero (suc n) (x ∷ r) s hr hs e = let h : x ≡ 32 = cc in absurd (hr h)
blanks-once (suc m) zero r [] hr hs e = no-first 32 (blanks m ++ r) (sym e)
blanks-once (suc m) zero r (y ∷ s) hr hs e = let h : y ≡ 32 = cc in absurd (hs h)
blanks-once (suc m) (suc n) r s hr hs e =
    let t : blanks m ++ r ≡ blanks n ++ s = cc in
    let (p, q) = blanks-once m n r s hr hs t in
    (ap suc p, q)

-- ---- digits

abbrev pub Figure : ℕ → Type 0
Figure b = (48 ≤ b) × (b ≤ 57)

pub figures : (ds : List ℕ) → Digits ds → All Figure (digits_text ds)
figures [] h = tt
figures (d ∷ ds) h = ((omega (arith, h.0), omega (arith, h.0)), figures ds h.1)

pub digits-inj : (a b : List ℕ) → digits_text a ≡ digits_text b → a ≡ b
digits-inj [] [] e = refl
digits-inj [] (y ∷ b) e = no-first (48 + y) (digits_text b) e
digits-inj (x ∷ a) [] e = no-first (48 + x) (digits_text a) (sym e)
digits-inj (x ∷ a) (y ∷ b) e =
    let h : 48 + x ≡ 48 + y = cc in
    let t : digits_text a ≡ digits_text b = cc in
    let k : x ≡ y = omega arith in
    rw (k, digits-inj a b t) refl

pub digits-once : (a b r s : List ℕ) → Digits a → Digits b → Stops Figure r → Stops Figure s
    → digits_text a ++ r ≡ digits_text b ++ s → (a ≡ b) × (r ≡ s)
digits-once a b r s ha hb hr hs e =
    let (p, q) = cut-once Figure (digits_text a) (digits_text b) r s (figures a ha) (figures b hb) hr hs e in
    (digits-inj a b p, q)
