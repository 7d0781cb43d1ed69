-- A text from a place on: the blanks there, the capitals before it, and the words that are left.
-- Assumes nothing.
use mathlib.Core.Path.{◌≡◌, refl, sym, ap, ◌∙◌}
use mathlib.Core.Bool.{Bool, true, false, cond}
use mathlib.Core.List.{List, [], ◌∷◌, ◌++◌}
use Prim.Native.Nat.{ℕ, zero, suc, ◌+◌, ◌-◌, ◌≤◌, ◌<◌}
use native.Mathlib.Omega.{arith}
use borrow.Author.Tests.{eq-eqb, ne_eqb}
use lib.Dec.{eqb}
use lib.ListN.{length, get_or, take, drop, length-drop, drop_of_length-le}
use lib.Seq.{drop-cons, take-suc, get_or-drop, drop-drop, length-take-le}
use Rattle.laws.specs.Search.{first}
use Rattle.laws.proofs.Search.{either, first-from, first_to}
use Rattle.laws.proofs.Counting.{first-before, first_holds}
use Rattle.paper_record.specs.Text.{is_capital}
use Rattle.paper_decay.specs.Fields.{front, cut_step, cut_at}
use Rattle.paper_decay_run.specs.Run.{lead_of}
use Rattle.paper_decay_fields.specs.Parts.{part, behind_words, word_at}

-- ---- blanks at the beginning

pub lead-stop : (l : List ℕ) (i : ℕ) → i < length l → (get_or l i 0 ≡ 32 → ⊥) → lead_of (drop i l) ≡ 0
unfolding lead_of
lead-stop l i h n = rw (drop-cons l i 0 h, ne_eqb (get_or l i 0) 32 n)

pub lead-more : (l : List ℕ) (i : ℕ) → i < length l → get_or l i 0 ≡ 32 → lead_of (drop i l) ≡ lead_of (drop (suc i) l) + 1
unfolding lead_of
lead-more l i h e = rw (drop-cons l i 0 h, eq-eqb (get_or l i 0) 32 e)

pub lead-end : (l : List ℕ) (i : ℕ) → length l ≤ i → lead_of (drop i l) ≡ 0
unfolding lead_of
lead-end l i h = rw (drop_of_length-le l h)

-- ---- capitals at the end

front-behind : (l : List ℕ) (b : ℕ) → is_capital b ≡ false → front (l ++ (b ∷ [])) ≡ suc (length l)
front-behind [] b e = rw e
front-behind (x ∷ l) b e = rw (front-behind l b e)

front_same : (l : List ℕ) (b : ℕ) → is_capital b ≡ true → front (l ++ (b ∷ [])) ≡ front l
front_same [] b e = rw e
front_same (x ∷ l) b e = rw (front_same l b e)

pub front-stop : (l : List ℕ) (n : ℕ) → 0 < n → n ≤ length l → is_capital (get_or l (n - 1) 0) ≡ false → front (take n l) ≡ n
front-stop l zero h k e = absurd (omega arith)
front-stop l (suc m) h k e =
    let z : suc m - 1 ≡ m = omega arith in
    let long : length (take m l) ≡ m = length-take-le m l (omega arith) in
    rw (take-suc l m 0 (omega arith), front-behind (take m l) (get_or l m 0) (rw z at e), long)

pub front_less : (l : List ℕ) (n : ℕ) → 0 < n → n ≤ length l → is_capital (get_or l (n - 1) 0) ≡ true
    → front (take n l) ≡ front (take (n - 1) l)
front_less l zero h k e = absurd (omega arith)
front_less l (suc m) h k e =
    let z : suc m - 1 ≡ m = omega arith in
    rw (take-suc l m 0 (omega arith), front_same (take m l) (get_or l m 0) (rw z at e), z)

-- ---- words

some-step : (t : Bool) (b : ℕ) (ws : List (List ℕ)) → 1 ≤ length ws → 1 ≤ length (cut_step t b ws)
some-step true b ws h = omega arith
some-step false b [] h = absurd (omega arith)
some-step false b (w ∷ ws) h = omega arith

pub cut-some : (c : ℕ) (l : List ℕ) → 1 ≤ length (cut_at c l)
cut-some c [] = omega arith
cut-some c (b ∷ l) = some-step (eqb b c) b (cut_at c l) (cut-some c l)

-- the first word ends at the first place of the character, or with the text
cut-here : (c : ℕ) (l : List ℕ) (m : ℕ) → m < length l → eqb (get_or l m 0) c ≡ true
    → ((j : ℕ) → j < m → eqb (get_or l j 0) c ≡ false) → cut_at c l ≡ take m l ∷ cut_at c (drop (suc m) l)
cut-here c [] m h e n = absurd (omega arith)
cut-here c (x ∷ l) zero h e n = rw e
cut-here c (x ∷ l) (suc m) h e n =
    rw (n 0 (omega arith), cut-here c l m (omega arith) e (λ j k. n (suc j) (omega arith)))

cut-none : (c : ℕ) (l : List ℕ) → ((j : ℕ) → j < length l → eqb (get_or l j 0) c ≡ false) → cut_at c l ≡ l ∷ []
cut-none c [] n = refl
cut-none c (x ∷ l) n = rw (n 0 (omega arith), cut-none c l (λ j k. n (suc j) (omega arith)))

behind_more : (w : List ℕ) (ws : List (List ℕ)) (k : ℕ) → 1 ≤ length ws
    → behind_words (w ∷ ws) (suc k) ≡ length w + 1 + behind_words ws k
behind_more w [] k h = absurd (omega arith)
behind_more w (x ∷ ws) k h = refl

-- the place of a character from another on
abbrev pub end_of : ℕ → List ℕ → ℕ → ℕ
end_of c l start = first (λ i. eqb (get_or l i 0) c) start (length l - start)

module _ (c : ℕ) (l : List ℕ) (start : ℕ) (low : start ≤ length l) where
  before : (j : ℕ) → start + j < end_of c l start → eqb (get_or (drop start l) j 0) c ≡ false
  before j h =
      let top = first_to (λ (i : ℕ). eqb (get_or l i 0) c) start (length l - start) in
      rw (get_or-drop start l j 0)
      (first-before (λ (i : ℕ). eqb (get_or l i 0) c) start (length l - start) (start + j) (omega arith) h (omega arith))

  pub cut-at : end_of c l start < length l
      → cut_at c (drop start l) ≡ take (end_of c l start - start) (drop start l) ∷ cut_at c (drop (end_of c l start + 1) l)
  cut-at h =
      let e = end_of c l start in
      let from = first-from (λ (i : ℕ). eqb (get_or l i 0) c) start (length l - start) in
      let z : start + (e - start) ≡ e = omega arith in
      let y : start + suc (e - start) ≡ e + 1 = omega arith in
      let long = length-drop start l in
      let here = first_holds (λ (i : ℕ). eqb (get_or l i 0) c) start (length l - start) (omega arith) in
      let there : eqb (get_or (drop start l) (e - start) 0) c ≡ true = rw (get_or-drop start l (e - start) 0, z) here in
      let q = cut-here c (drop start l) (e - start) (omega arith) there (λ j k. before j (omega arith)) in
      let d : drop (suc (e - start)) (drop start l) ≡ drop (e + 1) l = rw (drop-drop (suc (e - start)) start l, y) in
      q ∙ ap (λ (x : List ℕ). take (e - start) (drop start l) ∷ cut_at c x) d

  pub cut-last : length l ≤ end_of c l start → cut_at c (drop start l) ≡ drop start l ∷ []
  cut-last h =
      let long = length-drop start l in
      cut-none c (drop start l) (λ j k. before j (omega arith))

  -- how long the first of them is
  pub word-long : length (get_or (cut_at c (drop start l)) 0 []) ≡ end_of c l start - start
  word-long =
      let e = end_of c l start in
      let from = first-from (λ (i : ℕ). eqb (get_or l i 0) c) start (length l - start) in
      let top = first_to (λ (i : ℕ). eqb (get_or l i 0) c) start (length l - start) in
      let long = length-drop start l in
      either e (length l)
      (λ h. rw (cut-at h) (length-take-le (e - start) (drop start l) (omega arith)))
      (λ h. rw (cut-last h) (omega arith))

-- the word k of the text is the word `left` of what stands from `start` on
pub record Cutting (c : ℕ) (l : List ℕ) (k start left : ℕ) : Type 0 where
  pub low : start ≤ length l
  pub behind : behind_words (cut_at c l) k ≡ start + behind_words (cut_at c (drop start l)) left
  pub word : get_or (cut_at c l) k [] ≡ get_or (cut_at c (drop start l)) left []

pub cutting-all : (c : ℕ) (l : List ℕ) (k : ℕ) → Cutting c l k 0 k
cutting-all c l k = record { low = omega arith; behind = omega arith; word = refl }

pub cutting-next : (c : ℕ) (l : List ℕ) (k start left : ℕ) → Cutting c l k start (suc left) → end_of c l start < length l
    → Cutting c l k (end_of c l start + 1) left
cutting-next c l k start left cut h =
    let e = end_of c l start in
    let from = first-from (λ (i : ℕ). eqb (get_or l i 0) c) start (length l - start) in
    let q = cut-at c l start cut.low h in
    let long = length-drop start l in
    let w : length (take (e - start) (drop start l)) ≡ e - start = length-take-le (e - start) (drop start l) (omega arith) in
    let ws = cut_at c (drop (e + 1) l) in
    let more = behind_more (take (e - start) (drop start l)) ws left (cut-some c (drop (e + 1) l)) in
    let b = rw q at cut.behind in
    record {
      low = omega arith;
      behind = b ∙ (ap (λ (x : ℕ). start + x) more ∙ rw w (shift start e (behind_words ws left) from));
      word = rw q at cut.word;
    }
  where
    shift : (s e n : ℕ) → s ≤ e → s + (e - s + 1 + n) ≡ e + 1 + n
    shift s e n h = omega arith

-- at its end, and where the words end before
pub cutting-done : (c : ℕ) (l : List ℕ) (k start : ℕ) → Cutting c l k start 0
    → part start (end_of c l start - start) ≡ word_at c l k
unfolding word_at
cutting-done c l k start cut =
    let a : start ≡ behind_words (cut_at c l) k = sym (cut.behind ∙ (omega arith)) in
    let b : end_of c l start - start ≡ length (get_or (cut_at c l) k []) =
    sym (ap length cut.word ∙ word-long c l start cut.low) in
    λ i. part (a i) (b i)

pub cutting-out : (c : ℕ) (l : List ℕ) (k start left : ℕ) → Cutting c l k start (suc left) → length l ≤ end_of c l start
    → part (length l) 0 ≡ word_at c l k
unfolding word_at
cutting-out c l k start left cut h =
    let q = cut-last c l start cut.low h in
    let long = length-drop start l in
    let low = cut.low in
    let x = rw q at cut.behind in
    let a : length l ≡ behind_words (cut_at c l) k = sym (x ∙ (omega arith)) in
    let b : 0 ≡ length (get_or (cut_at c l) k []) = sym (ap length (rw q at cut.word)) in
    λ i. part (a i) (b i)

-- ---- how many

-- so many words begin up to a place
pub record Counted (c : ℕ) (l : List ℕ) (i count : ℕ) : Type 0 where
  pub low : i ≤ length l
  pub few : count ≤ i + 1
  pub rest : count + length (cut_at c (drop i l)) ≡ length (cut_at c l) + 1

pub counted_none : (c : ℕ) (l : List ℕ) → Counted c l 0 1
counted_none c l = record { low = omega arith; few = omega arith; rest = omega arith }

pub counted_next : (c : ℕ) (l : List ℕ) (i count : ℕ) → Counted c l i count → i < length l
    → Counted c l (i + 1) (cond (eqb (get_or l i 0) c) (count + 1) count)
counted_next c l i count s h =
    let z : i + 1 ≡ suc i = omega arith in
    let q : cut_at c (drop i l) ≡ cut_step (eqb (get_or l i 0) c) (get_or l i 0) (cut_at c (drop (suc i) l)) =
    rw (drop-cons l i 0 h) in
    rw z
    (by-test (eqb (get_or l i 0) c) (get_or l i 0) (cut_at c (drop (suc i) l)) (cut-some c (drop (suc i) l)) refl
    (rw q at s.rest))
  where
    made : (n : ℕ) → n ≤ i + 2 → n + length (cut_at c (drop (suc i) l)) ≡ length (cut_at c l) + 1 → Counted c l (suc i) n
    made n k e = record { low = omega arith; few = omega arith; rest = e }

    by-test : (t : Bool) (b : ℕ) (ws : List (List ℕ)) → 1 ≤ length ws → ws ≡ cut_at c (drop (suc i) l)
        → count + length (cut_step t b ws) ≡ length (cut_at c l) + 1 → Counted c l (suc i) (cond t (count + 1) count)
    by-test true b ws k e r = let f = s.few in made (count + 1) (omega arith) (rw (← e) (omega arith))
    by-test false b [] k e r = absurd (omega arith)
    by-test false b (w ∷ ws) k e r = let f = s.few in made count (omega arith) (rw (← e) (omega arith))

pub counted-all : (c : ℕ) (l : List ℕ) (i count : ℕ) → Counted c l i count → length l ≤ i → count ≡ length (cut_at c l)
counted-all c l i count s h =
    let e : length (cut_at c (drop i l)) ≡ 1 = rw (drop_of_length-le l h) in
    let r = s.rest in
    omega arith
