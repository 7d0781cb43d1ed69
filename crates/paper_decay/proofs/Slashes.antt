-- Words between slashes: a text is cut into them, and the steps over it are the steps over each word.
-- Assumes nothing.
use mathlib.Core.Path.{◌≡◌, refl, sym, ap, ◌∙◌, subst}
use mathlib.Core.Bool.{Bool, true, false, cond}
use mathlib.Core.List.{List, [], ◌∷◌, ◌++◌}
use mathlib.Core.Logic.{◌⊎◌, inl, inr, ◌↔◌}
use Prim.Native.Nat.{ℕ, ◌+◌, ◌≤◌}
use native.Mathlib.Omega.{arith}
use borrow.Author.Tests.{eqb-true, eqb-false}
use lib.Dec.{eqb}
use lib.ListN.{length}
use Rattle.laws.specs.Walk.{All}
use Rattle.laws.proofs.Booleans.{differ, cond-itself}
use Rattle.paper_decay.specs.declared.types.Scan.{Scan}
use Rattle.paper_decay.specs.Scan.{standing, nowhere, to_if, number_whole, is_whole, step_of}
use Rattle.paper_decay.specs.Code.{split, Slashed}
use Rattle.paper_decay.proofs.Cuts.{Stops, Blank}
use Rattle.paper_decay.proofs.Words.{NoSlash}
use Rattle.paper_decay.proofs.Steps.{steps, steps-append, nowhere-steps, Inner}

-- ---- the words of a text

pub record Parts (l : List ℕ) : Type 0 where
  pub first : List ℕ
  pub more : List (List ℕ)
  pub same : split 47 (first ∷ more) ≡ l
  pub clean : All NoSlash first
  pub cleans : All (All NoSlash) more

split-longer : (b : ℕ) (w : List ℕ) (ws : List (List ℕ)) → split 47 ((b ∷ w) ∷ ws) ≡ b ∷ split 47 (w ∷ ws)
split-longer b w [] = refl
split-longer b w (x ∷ ws) = refl

pub parts : (l : List ℕ) → Parts l
parts [] = record { first = []; more = []; same = refl; clean = tt; cleans = tt }
parts (b ∷ l) = by-slash (parts l) (eqb b 47) refl
  where
    by-slash : Parts l → (t : Bool) → eqb b 47 ≡ t → Parts (b ∷ l)
    by-slash p true e =
        let z : 47 ≡ b = sym (eqb-true b 47 e) in
        record {
          first = [];
          more = p.first ∷ p.more;
          same = λ i. z i ∷ p.same i;
          clean = tt;
          cleans = (p.clean, p.cleans);
        }
    by-slash p false e =
        record {
          first = b ∷ p.first;
          more = p.more;
          same = split-longer b p.first p.more ∙ ap (λ (r : List ℕ). b ∷ r) p.same;
          clean = (eqb-false b 47 e, p.clean);
          cleans = p.cleans;
        }

pub all_left : (P : ℕ → Type 0) (a b : List ℕ) → All P (a ++ b) → All P a
all_left P [] b h = tt
all_left P (x ∷ a) b h = (h.0, all_left P a b h.1)

pub all_right : (P : ℕ → Type 0) (a b : List ℕ) → All P (a ++ b) → All P b
all_right P [] b h = h
all_right P (x ∷ a) b h = all_right P a b h.1

all_first : (P : ℕ → Type 0) (w : List ℕ) (ws : List (List ℕ)) → All P (split 47 (w ∷ ws)) → All P w
all_first P w [] h = h
all_first P w (x ∷ ws) h = all_left P w (47 ∷ split 47 (x ∷ ws)) h

all_more : (P : ℕ → Type 0) (w : List ℕ) (ws : List (List ℕ)) → All P (split 47 (w ∷ ws)) → All (All P) ws
all_more P w [] h = tt
all_more P w (x ∷ ws) h =
    let k = (all_right P w (47 ∷ split 47 (x ∷ ws)) h).1 in
    (all_first P x ws k, all_more P x ws k)

first_stops : (w : List ℕ) (ws : List (List ℕ)) → Stops Blank (split 47 (w ∷ ws)) → Stops Blank w
first_stops [] ws h = tt
first_stops (b ∷ w) [] h = h
first_stops (b ∷ w) (x ∷ ws) h = h

-- ---- the steps over them

-- a word of a field's characters, without a slash
abbrev pub Clean : List ℕ → Type 0
Clean w = All Inner w × All NoSlash w

-- no blank at its beginning, or a slash before it
abbrev pub Opens : List ℕ → Bool → Type 0
Opens w again = Stops Blank w ⊎ (again ≡ true)

abbrev pub every : (List ℕ → Bool) → List (List ℕ) → Bool
every one [] = true
every one (w ∷ ws) = cond (one w) (every one ws) false

pub nowhere-whole : is_whole nowhere ≡ false
unfolding is_whole number_whole
nowhere-whole = refl

both-clean : (ws : List (List ℕ)) → All (All Inner) ws → All (All NoSlash) ws → All Clean ws
both-clean [] h k = tt
both-clean (w ∷ ws) h k = ((h.0, k.0), both-clean ws h.1 k.1)

-- what a place makes of a word, and of the slash behind it
module _ (p : ℕ) (one : List ℕ → Bool)
    (ends : (w : List ℕ) (again filled : Bool) → Clean w → Opens w again
    → is_whole (steps (standing p 0 0 again filled) w) ≡ one w)
    (slashed : (w : List ℕ) (again filled : Bool) → Clean w → Opens w again
    → step_of (steps (standing p 0 0 again filled) w) 47 ≡ to_if (one w) (standing p 0 0 true filled)) where
  words-fold : (ws : List (List ℕ)) (w : List ℕ) (again filled : Bool) → Clean w → Opens w again → All Clean ws
      → is_whole (steps (standing p 0 0 again filled) (split 47 (w ∷ ws))) ≡ every one (w ∷ ws)
  unfolding steps
  words-fold [] w again filled c o h = ends w again filled c o ∙ sym (cond-itself (one w))
  words-fold (x ∷ ws) w again filled c o h =
      ap is_whole
      (steps-append w (47 ∷ split 47 (x ∷ ws)) (standing p 0 0 again filled)
      ∙ ap (λ (s : Scan). steps s (split 47 (x ∷ ws))) (slashed w again filled c o))
      ∙ by_one (one w) (words-fold ws x true filled h.0 (inr refl) h.1)
    where
      by_one : (t : Bool) → is_whole (steps (standing p 0 0 true filled) (split 47 (x ∷ ws))) ≡ every one (x ∷ ws)
          → is_whole (steps (to_if t (standing p 0 0 true filled)) (split 47 (x ∷ ws))) ≡ cond t (every one (x ∷ ws)) false
      by_one true r = r
      by_one false r = ap is_whole (nowhere-steps (split 47 (x ∷ ws))) ∙ nowhere-whole

  module _ (W : List ℕ → Type 0) (yes : (w : List ℕ) → one w ≡ true → W w) (back : (w : List ℕ) → W w → one w ≡ true)
      (tidy : (w : List ℕ) → W w → Clean w) where
    every-each : (ws : List (List ℕ)) → every one ws ≡ true → All W ws
    every-each [] e = tt
    every-each (w ∷ ws) e = by_one (every-each ws) (one w) refl e
      where
        by_one : (every one ws ≡ true → All W ws) → (t : Bool) → one w ≡ t → cond t (every one ws) false ≡ true
            → All W (w ∷ ws)
        by_one r true h f = (yes w h, r f)
        by_one r false h f = differ (sym f)

    each-every : (ws : List (List ℕ)) → All W ws → every one ws ≡ true
    each-every [] h = refl
    each-every (w ∷ ws) h = rw (back w h.0) (each-every ws h.1)

    all-tidy : (ws : List (List ℕ)) → All W ws → All Clean ws
    all-tidy [] h = tt
    all-tidy (w ∷ ws) h = (tidy w h.0, all-tidy ws h.1)

    whole-slashed : (l : List ℕ) (filled : Bool) → All Inner l → Stops Blank l
        → is_whole (steps (standing p 0 0 false filled) l) ≡ true → Slashed W l
    whole-slashed l filled i st e =
        let q = parts l in
        let j : All Inner (split 47 (q.first ∷ q.more)) = subst (All Inner) (sym q.same) i in
        let o : Stops Blank (split 47 (q.first ∷ q.more)) = subst (Stops Blank) (sym q.same) st in
        let f = words-fold q.more q.first false filled (all_first Inner q.first q.more j, q.clean)
        (inl (first_stops q.first q.more o)) (both-clean q.more (all_more Inner q.first q.more j) q.cleans) in
        let g : every one (q.first ∷ q.more) ≡ true =
        sym f ∙ ap (λ (m : List ℕ). is_whole (steps (standing p 0 0 false filled) m)) q.same ∙ e in
        record { words = q.first ∷ q.more; some = omega arith; each = every-each (q.first ∷ q.more) g; same = q.same }

    words-whole : (ws : List (List ℕ)) (l : List ℕ) (filled : Bool) → 1 ≤ length ws → All W ws → split 47 ws ≡ l
        → Stops Blank l → is_whole (steps (standing p 0 0 false filled) l) ≡ true
    words-whole [] l filled n h e st = absurd (omega arith)
    words-whole (w ∷ ws) l filled n h e st =
        let o : Stops Blank (split 47 (w ∷ ws)) = subst (Stops Blank) (sym e) st in
        let c = all-tidy (w ∷ ws) h in
        ap (λ (m : List ℕ). is_whole (steps (standing p 0 0 false filled) m)) (sym e)
        ∙ words-fold ws w false filled c.0 (inl (first_stops w ws o)) c.1
        ∙ each-every (w ∷ ws) h

    pub words-exactly : (l : List ℕ) (filled : Bool) → All Inner l → Stops Blank l
        → (is_whole (steps (standing p 0 0 false filled) l) ≡ true) ↔ Slashed W l
    words-exactly l filled i st = (
      whole-slashed l filled i st,
      λ h. words-whole h.words l filled h.some h.each h.same st,
    )
