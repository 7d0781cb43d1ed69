-- A text cut at a character: how often it stands before a word, and what stands behind the word.
-- Assumes nothing.
use mathlib.Core.Path.{◌≡◌, refl, ap, ◌∙◌}
use mathlib.Core.Bool.{Bool, true, false}
use mathlib.Core.List.{List, [], ◌∷◌, ◌++◌}
use mathlib.Core.Logic.{◌⊎◌, inl, inr}
use Prim.Native.Nat.{ℕ, zero, suc, ◌+◌, ◌≤◌, ◌<◌}
use native.Mathlib.Omega.{arith}
use borrow.Author.Tests.{eqb-true}
use lib.Dec.{eqb}
use lib.ListN.{length, get_or, take, drop}
use Rattle.paper_decay.specs.Fields.{cut_step, cut_at}
use Rattle.paper_decay_fields.specs.Parts.{behind_words, word_at}
use Rattle.paper_decay_fields.specs.Standing.{times}
use Rattle.paper_decay_fields.proofs.Words.{word-lies}

-- ---- how often a character stands in a part of a text

pub times-take : (c n : ℕ) (l : List ℕ) → times c (take n l) ≤ times c l
unfolding times
times-take c zero l = omega arith
times-take c (suc n) [] = omega arith
times-take c (suc n) (b ∷ l) = let h = times-take c n l in omega arith

pub times-drop : (c n : ℕ) (l : List ℕ) → times c (drop n l) ≤ times c l
unfolding times
times-drop c zero l = omega arith
times-drop c (suc n) [] = omega arith
times-drop c (suc n) (b ∷ l) = let h = times-drop c n l in omega arith

pub times-append : (c : ℕ) (a b : List ℕ) → times c (a ++ b) ≡ times c a + times c b
unfolding times
times-append c [] b = omega arith
times-append c (x ∷ a) b = let h = times-append c a b in omega arith

-- ---- words

cut-some : (c : ℕ) (l : List ℕ) → 1 ≤ length (cut_at c l)
cut-some c [] = omega arith
cut-some c (b ∷ l) = by-cut (eqb b c) (cut_at c l)
  where
    by-cut : (t : Bool) (ws : List (List ℕ)) → 1 ≤ length (cut_step t b ws)
    by-cut true ws = omega arith
    by-cut false [] = omega arith
    by-cut false (w ∷ ws) = omega arith

-- before the word k + 1 the character stands last, and k times before that
abbrev Open : ℕ → List ℕ → List (List ℕ) → Type 0
Open c l ws =
    (k : ℕ) → suc k < length ws
    → (t : List ℕ) × (times c t ≡ k) × (take (behind_words ws (suc k)) l ≡ t ++ (c ∷ []))

open_more : (c : ℕ) (t : Bool) (b : ℕ) (l : List ℕ) (ws : List (List ℕ)) → eqb b c ≡ t → Open c l ws
    → Open c (b ∷ l) (cut_step t b ws)
unfolding times
open_more c true b l [] e h k n = absurd (omega arith)
open_more c true b l (x ∷ ws) e h zero n = ([], refl, ap (λ (y : ℕ). y ∷ []) (eqb-true b c e))
open_more c true b l (x ∷ ws) e h (suc k) n =
    let (t, m, q) = h k (omega arith) in
    let s : 0 + 1 + behind_words (x ∷ ws) (suc k) ≡ suc (behind_words (x ∷ ws) (suc k)) = omega arith in
    (b ∷ t, rw e (omega arith), ap (λ (j : ℕ). take j (b ∷ l)) s ∙ ap (λ (r : List ℕ). b ∷ r) q)
open_more c false b l [] e h k n = absurd (omega arith)
open_more c false b l (w ∷ []) e h k n = absurd (omega arith)
open_more c false b l (w ∷ x ∷ ws) e h k n =
    let (t, m, q) = h k n in
    let s : suc (length w) + 1 + behind_words (x ∷ ws) k ≡ suc (length w + 1 + behind_words (x ∷ ws) k) = omega arith in
    (b ∷ t, rw e (omega arith), ap (λ (j : ℕ). take j (b ∷ l)) s ∙ ap (λ (r : List ℕ). b ∷ r) q)

pub cut-open : (c : ℕ) (l : List ℕ) → Open c l (cut_at c l)
cut-open c [] k n = absurd (omega arith)
cut-open c (b ∷ l) k n = open_more c (eqb b c) b l (cut_at c l) refl (cut-open c l) k n

-- behind a word the character stands, or the text ends
abbrev pub Behind : ℕ → List ℕ → ℕ → Type 0
Behind c l e = ((get_or l e 0 ≡ c) × (e < length l)) ⊎ (e ≡ length l)

behind_more : (c b : ℕ) (l : List ℕ) (e f : ℕ) → f ≡ suc e → Behind c l e → Behind c (b ∷ l) f
behind_more c b l e f s (inl (h, n)) = inl (ap (λ (j : ℕ). get_or (b ∷ l) j 0) s ∙ h, omega arith)
behind_more c b l e f s (inr h) = inr (omega arith)

abbrev End : ℕ → List ℕ → List (List ℕ) → Type 0
End c l ws = (k : ℕ) → k < length ws → Behind c l (behind_words ws k + length (get_or ws k []))

end_more : (c : ℕ) (t : Bool) (b : ℕ) (l : List ℕ) (ws : List (List ℕ)) → eqb b c ≡ t → 1 ≤ length ws → End c l ws
    → End c (b ∷ l) (cut_step t b ws)
end_more c true b l ws e m h zero n = inl (eqb-true b c e, omega arith)
end_more c true b l [] e m h (suc k) n = absurd (omega arith)
end_more c true b l (x ∷ ws) e m h (suc k) n = behind_more c b l _ _ (omega arith) (h k (omega arith))
end_more c false b l [] e m h k n = absurd (omega arith)
end_more c false b l (w ∷ ws) e m h zero n = behind_more c b l _ _ (omega arith) (h zero (omega arith))
end_more c false b l (w ∷ []) e m h (suc k) n = absurd (omega arith)
end_more c false b l (w ∷ x ∷ ws) e m h (suc k) n = behind_more c b l _ _ (omega arith) (h (suc k) n)

pub cut-end : (c : ℕ) (l : List ℕ) → End c l (cut_at c l)
cut-end c [] zero n = inr refl
cut-end c [] (suc k) n = absurd (omega arith)
cut-end c (b ∷ l) k n = end_more c (eqb b c) b l (cut_at c l) refl (cut-some c l) (cut-end c l) k n

-- no word has the character
none_more : (c : ℕ) (t : Bool) (b : ℕ) (ws : List (List ℕ)) → eqb b c ≡ t → ((k : ℕ) → times c (get_or ws k []) ≡ 0)
    → (k : ℕ) → times c (get_or (cut_step t b ws) k []) ≡ 0
unfolding times
none_more c true b ws e h zero = refl
none_more c true b ws e h (suc k) = h k
none_more c false b [] e h zero = rw e refl
none_more c false b [] e h (suc k) = refl
none_more c false b (w ∷ ws) e h zero = let x = h zero in rw e (omega arith)
none_more c false b (w ∷ ws) e h (suc k) = h (suc k)

pub cut-none : (c : ℕ) (l : List ℕ) (k : ℕ) → times c (get_or (cut_at c l) k []) ≡ 0
unfolding times
cut-none c [] zero = refl
cut-none c [] (suc k) = refl
cut-none c (b ∷ l) k = none_more c (eqb b c) b (cut_at c l) refl (cut-none c l) k

-- ---- the next word

behind-next : (ws : List (List ℕ)) (k : ℕ) → suc k < length ws
    → behind_words ws (suc k) ≡ behind_words ws k + length (get_or ws k []) + 1
behind-next [] k h = absurd (omega arith)
behind-next (w ∷ []) k h = absurd (omega arith)
behind-next (w ∷ x ∷ ws) zero h = omega arith
behind-next (w ∷ x ∷ ws) (suc k) h = let e = behind-next (x ∷ ws) k (omega arith) in omega arith

pub record Next (c : ℕ) (l : List ℕ) (k : ℕ) : Type 0 where
  pub first : (word_at c l (suc k)).first ≡ (word_at c l k).first + (word_at c l k).length + 1
  pub between : get_or l ((word_at c l k).first + (word_at c l k).length) 0 ≡ c
  pub inside : (word_at c l k).first + (word_at c l k).length < length l

pub cut-next : (c : ℕ) (l : List ℕ) (k : ℕ) → suc k < length (cut_at c l) → Next c l k
unfolding word_at
cut-next c l k n =
    by-behind (cut-end c l k (omega arith)) (behind-next (cut_at c l) k n) (word-lies c l (suc k))
  where
    by-behind : Behind c l (behind_words (cut_at c l) k + length (get_or (cut_at c l) k []))
        → behind_words (cut_at c l) (suc k) ≡ behind_words (cut_at c l) k + length (get_or (cut_at c l) k []) + 1
        → behind_words (cut_at c l) (suc k) + length (get_or (cut_at c l) (suc k) []) ≤ length l → Next c l k
    by-behind (inl (h, m)) e o = record { first = e; between = h; inside = m }
    by-behind (inr h) e o = absurd (omega arith)

-- a word with characters is one of them
pub word-there : (ws : List (List ℕ)) (k : ℕ) → 1 ≤ length (get_or ws k []) → k < length ws
word-there [] k h = absurd (omega arith)
word-there (w ∷ ws) zero h = omega arith
word-there (w ∷ ws) (suc k) h = let m = word-there ws k h in omega arith
