-- Words cut at a character and written with it between them are the text again; two texts are cut one by one.
-- Assumes nothing.
use mathlib.Core.Path.{◌≡◌, refl, sym, ap, ◌∙◌}
use mathlib.Core.Bool.{Bool, true, false}
use mathlib.Core.List.{List, [], ◌∷◌, ◌++◌, append_assoc}
use Prim.Native.Nat.{ℕ, ◌≤◌}
use native.Mathlib.Omega.{arith}
use borrow.Author.Tests.{eq-eqb, eqb-true}
use lib.Dec.{eqb}
use lib.ListN.{length}
use Rattle.paper_decay.specs.Code.{split}
use Rattle.paper_decay.specs.Fields.{longer, cut_step, cut_at}

split-longer : (c b : ℕ) (ws : List (List ℕ)) → split c (longer b ws) ≡ b ∷ split c ws
split-longer c b [] = refl
split-longer c b (w ∷ []) = refl
split-longer c b (w ∷ x ∷ ws) = refl

-- there is always a word
split-open : (c : ℕ) (l : List ℕ) → split c ([] ∷ cut_at c l) ≡ c ∷ split c (cut_at c l)
split-open c [] = refl
split-open c (b ∷ l) = by-step (eqb b c) (cut_at c l)
  where
    by-step : (t : Bool) (ws : List (List ℕ)) → split c ([] ∷ cut_step t b ws) ≡ c ∷ split c (cut_step t b ws)
    by-step true ws = refl
    by-step false [] = refl
    by-step false (w ∷ ws) = refl

pub split-cut : (c : ℕ) (l : List ℕ) → split c (cut_at c l) ≡ l
split-cut c [] = refl
split-cut c (b ∷ l) = by-step (split-cut c l) (eqb b c) refl
  where
    by-step : split c (cut_at c l) ≡ l → (t : Bool) → eqb b c ≡ t → split c (cut_step t b (cut_at c l)) ≡ b ∷ l
    by-step r true e =
        let z : c ≡ b = sym (eqb-true b c e) in
        split-open c l ∙ (λ i. z i ∷ r i)
    by-step r false e = split-longer c b (cut_at c l) ∙ ap (λ (m : List ℕ). b ∷ m) r

-- ---- two texts with the character between them

pub cut-some : (c : ℕ) (l : List ℕ) → 1 ≤ length (cut_at c l)
cut-some c [] = omega arith
cut-some c (b ∷ l) = by-step (eqb b c) (cut_at c l)
  where
    by-step : (t : Bool) (ws : List (List ℕ)) → 1 ≤ length (cut_step t b ws)
    by-step true ws = omega arith
    by-step false [] = omega arith
    by-step false (w ∷ ws) = omega arith

pub cut-append : (c : ℕ) (l m : List ℕ) → cut_at c (l ++ (c ∷ m)) ≡ cut_at c l ++ cut_at c m
cut-append c [] m = rw (eq-eqb c c refl) refl
cut-append c (b ∷ l) m =
    ap (cut_step (eqb b c) b) (cut-append c l m) ∙ by-step (eqb b c) (cut_at c l) (cut-some c l)
  where
    by-step : (t : Bool) (ws : List (List ℕ)) → 1 ≤ length ws → cut_step t b (ws ++ cut_at c m) ≡ cut_step t b ws ++ cut_at c m
    by-step true ws h = refl
    by-step false [] h = absurd (omega arith)
    by-step false (w ∷ ws) h = refl

pub split-append : (c : ℕ) (vs ws : List (List ℕ)) → 1 ≤ length vs → 1 ≤ length ws
    → split c (vs ++ ws) ≡ split c vs ++ (c ∷ split c ws)
split-append c [] ws h k = absurd (omega arith)
split-append c (v ∷ vs) [] h k = absurd (omega arith)
split-append c (v ∷ []) (w ∷ ws) h k = refl
split-append c (v ∷ x ∷ vs) (w ∷ ws) h k =
    ap (λ (l : List ℕ). v ++ (c ∷ l)) (split-append c (x ∷ vs) (w ∷ ws) (omega arith) k)
    ∙ sym (append_assoc v (c ∷ split c (x ∷ vs)) (c ∷ split c (w ∷ ws)))
