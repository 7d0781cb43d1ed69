-- The steps over a text, and what a step inside a field keeps: the place, or it leads nowhere.
-- Assumes nothing.
use mathlib.Core.Path.{◌≡◌, refl, sym, ap, ◌∙◌}
use mathlib.Core.Bool.{Bool, true, false, cond}
use mathlib.Core.List.{List, [], ◌∷◌, ◌++◌}
use mathlib.Core.Logic.{◌⊎◌, inl, inr}
use Prim.Native.Nat.{ℕ, ◌+◌, ◌≤◌}
use native.Mathlib.Omega.{arith}
use borrow.Author.Tests.{ne_eqb, eqb-true, lt-ltb}
use lib.Dec.{eqb, ltb}
use Rattle.laws.specs.Walk.{All}
use Rattle.paper_record.specs.Text.{is_capital}
use Rattle.paper_decay.specs.declared.types.Scan.{Scan}
use Rattle.paper_decay.specs.Characters.{is_type}
use Rattle.paper_decay.specs.Scan.{standing, fresh, nowhere, to_if, number_more, number_next, number_whole, half, unit_step, mark_step}
use Rattle.paper_decay.specs.Scan.{behind_number, half_number_step, half_step, type_step, numbers_step, is_empty, place_step}
use Rattle.paper_decay.specs.Scan.{field_step, inside_step, is_whole, next_place, comma_step, is_flag_point, close_step, step_of}

unfoldable pub steps : Scan → List ℕ → Scan
steps s [] = s
steps s (b ∷ l) = steps (step_of s b) l

pub steps-append : (a b : List ℕ) (s : Scan) → steps s (a ++ b) ≡ steps (steps s a) b
unfolding steps
steps-append [] b s = refl
steps-append (x ∷ a) b s = steps-append a b (step_of s x)

-- a character of no field's end
abbrev pub Inner : ℕ → Type 0
Inner b = (b ≡ 41 → ⊥) × (b ≡ 44 → ⊥)

pub step-inside : (s : Scan) (b : ℕ) → Inner b → step_of s b ≡ inside_step s b
unfolding step_of
step-inside s b h = rw (ne_eqb b 44 h.1, ne_eqb b 41 h.0) refl

-- ---- from nowhere it goes nowhere

pub nowhere-stays : (b : ℕ) → step_of nowhere b ≡ nowhere
unfolding step_of comma_step close_step inside_step is_whole is_empty is_flag_point next_place number_whole
nowhere-stays b = by_tests (eqb b 44) (eqb b 41)
  where
    by_tests : (p q : Bool) → cond p nowhere (cond q nowhere nowhere) ≡ nowhere
    by_tests true q = refl
    by_tests false true = refl
    by_tests false false = refl

pub nowhere-steps : (l : List ℕ) → steps nowhere l ≡ nowhere
unfolding steps
nowhere-steps [] = refl
nowhere-steps (b ∷ l) = ap (λ (s : Scan). steps s l) (nowhere-stays b) ∙ nowhere-steps l

-- ---- a field that has begun

abbrev pub Kept : ℕ → Scan → Type 0
Kept p s = (s ≡ nowhere) ⊎ ((s.place ≡ p) × (is_empty s ≡ false))

cond-kept : (p : ℕ) (t : Bool) (x y : Scan) → Kept p x → Kept p y → Kept p (cond t x y)
cond-kept p true x y h k = h
cond-kept p false x y h k = k

if_kept : (p : ℕ) (t : Bool) (x : Scan) → Kept p x → Kept p (to_if t x)
if_kept p true x h = h
if_kept p false x h = inl refl

cond-false : (t : Bool) → cond t false false ≡ false
cond-false true = refl
cond-false false = refl

cond_either : (t u : Bool) → u ≡ false → cond t u false ≡ false
cond_either true u e = e
cond_either false u e = refl

-- one character more was read
counted-kept : (p inner count : ℕ) (again filled : Bool) → Kept p (standing p inner (count + 1) again filled)
unfolding is_empty
counted-kept p inner count again filled =
    let e : eqb (count + 1) 0 ≡ false = ne_eqb (count + 1) 0 (λ z. omega arith) in
    inr (refl, by-again again (cond_either (eqb inner 0) (eqb (count + 1) 0) e))
  where
    by-again : (t : Bool) {u : Bool} → u ≡ false → cond t false u ≡ false
    by-again true e = refl
    by-again false e = e

more-kept : (p next count : ℕ) (again filled : Bool) → Kept p (number_more p next count again filled)
unfolding number_more
more-kept p next count again filled =
    cond-kept p (eqb next 10) nowhere _ (inl refl)
    (cond-kept p (ltb count 11) _ nowhere (counted-kept p next count again filled) (inl refl))

half-kept : (inner count : ℕ) → Kept 1 (half inner (count + 1))
half-kept inner count = counted-kept 1 inner count false false

unit_kept : (count b : ℕ) → Kept 1 (unit_step count b)
unfolding unit_step
unit_kept count b =
    cond-kept 1 (is_capital b) _ nowhere (cond-kept 1 (ltb count 10) _ nowhere (half-kept 12 count) (inl refl)) (inl refl)

mark-kept : (count b : ℕ) → Kept 1 (mark_step count b)
unfolding mark_step
mark-kept count b =
    cond-kept 1 (is_capital b) (half 12 2) _ (half-kept 12 1) (more-kept 1 (number_next 6 count b) count false false)

behind-kept : (next count b : ℕ) → Kept 1 (behind_number next count b)
unfolding behind_number
behind-kept next count b =
    cond-kept 1 (eqb next 6) _ _ (more-kept 1 11 count false false)
    (cond-kept 1 (is_capital b) (half 12 1) _ (half-kept 12 0) (more-kept 1 next count false false))

halfnumber-kept : (inner count b : ℕ) → Kept 1 (half_number_step inner count b)
unfolding half_number_step
halfnumber-kept inner count b =
    cond-kept 1 (number_whole inner) _ _ (behind-kept (number_next inner count b) count b)
    (more-kept 1 (number_next inner count b) count false false)

halfstep-kept : (inner count b : ℕ) → Kept 1 (half_step inner count b)
unfolding half_step
halfstep-kept inner count b =
    cond-kept 1 (eqb inner 12) _ _ (unit_kept count b)
    (cond-kept 1 (eqb inner 11) _ _ (mark-kept count b) (halfnumber-kept inner count b))

-- in types: a character or a slash stands before
begun_kept : (inner : ℕ) (again filled : Bool) → Kept 2 (standing 2 1 0 again filled)
unfolding is_empty
begun_kept inner true filled = inr (refl, refl)
begun_kept inner false filled = inr (refl, refl)

type-kept : (inner b : ℕ) (again filled : Bool) → Kept 2 (type_step inner again filled b)
unfolding type_step is_empty
type-kept inner b again filled =
    cond-kept 2 (is_type b) _ _ (begun_kept 1 again filled)
    (cond-kept 2 (eqb inner 1) _ nowhere (if_kept 2 (eqb b 47) (standing 2 0 0 true filled) (inr (refl, refl))) (inl refl))

numbers-kept : (s : Scan) (b p : ℕ) → s.place ≡ p → Kept p (numbers_step s b)
unfolding numbers_step is_empty
numbers-kept s b p e =
    let t : s.place ≡ p = e in
    cond-kept p (eqb b 47) _ _ (by_three (eqb s.place 3) refl)
    (rw e (more-kept p (number_next s.inner s.count b) s.count s.again s.filled))
  where
    by_three : (t : Bool) → eqb s.place 3 ≡ t
        → Kept p (cond t (to_if (number_whole s.inner) (standing 3 0 0 true s.filled)) nowhere)
    by_three true f =
        let z : 3 ≡ p = sym (eqb-true s.place 3 f) ∙ e in
        if_kept p (number_whole s.inner) (standing 3 0 0 true s.filled) (inr (z, refl))
    by_three false f = inl refl

-- the half-life's place, or one of a group's
abbrev pub Field : ℕ → Type 0
Field p = (1 ≤ p) × (p ≤ 4)

pub place_kept : (s : Scan) (b p : ℕ) → s.place ≡ p → Kept p (place_step s b)
unfolding place_step
place_kept s b p e = by_tests (eqb s.place 1) (eqb s.place 2) refl refl
  where
    by_tests : (t u : Bool) → eqb s.place 1 ≡ t → eqb s.place 2 ≡ u
        → Kept p (cond t (half_step s.inner s.count b) (cond u (type_step s.inner s.again s.filled b) (numbers_step s b)))
    by_tests true u f g =
        let z : 1 ≡ p = sym (eqb-true s.place 1 f) ∙ e in
        rw (← z) (halfstep-kept s.inner s.count b)
    by_tests false true f g =
        let z : 2 ≡ p = sym (eqb-true s.place 2 g) ∙ e in
        rw (← z) (type-kept s.inner b s.again s.filled)
    by_tests false false f g = numbers-kept s b p e

-- inside a field a step is one of its place
pub step_field : (s : Scan) (b p : ℕ) → Field p → s.place ≡ p → Inner b → step_of s b ≡ field_step s b
unfolding inside_step
step_field s b p f e h =
    step-inside s b h
    ∙ rw (ne_eqb s.place 0 (λ z. omega (arith, f.0)), lt-ltb s.place 5 (omega (arith, f.1))) refl

-- of a character that is no blank
pub step-place : (s : Scan) (b p : ℕ) → Field p → s.place ≡ p → Inner b → (b ≡ 32 → ⊥) → step_of s b ≡ place_step s b
unfolding field_step
step-place s b p f e h n = step_field s b p f e h ∙ rw (ne_eqb b 32 n) refl

pub first-kept : (s : Scan) (b p : ℕ) → Field p → s.place ≡ p → Inner b → (b ≡ 32 → ⊥) → Kept p (step_of s b)
first-kept s b p f e h n = rw (step-place s b p f e h n) (place_kept s b p e)

pub step_kept : (s : Scan) (b p : ℕ) → Field p → Kept p s → Inner b → Kept p (step_of s b)
unfolding field_step
step_kept s b p f (inl e) h = inl (ap (λ (t : Scan). step_of t b) e ∙ nowhere-stays b)
step_kept s b p f (inr (e, k)) h =
    rw (step_field s b p f e h)
    (cond-kept p (eqb b 32) _ _ (rw k (inl refl)) (place_kept s b p e))

pub steps-kept : (l : List ℕ) (s : Scan) (p : ℕ) → Field p → Kept p s → All Inner l → Kept p (steps s l)
unfolding steps
steps-kept [] s p f k h = k
steps-kept (b ∷ l) s p f k h = steps-kept l (step_of s b) p f (step_kept s b p f k h.0) h.1

-- ---- blanks at the beginning of a field

pub fresh-blank : (p : ℕ) (filled : Bool) → Field p → step_of (fresh p filled) 32 ≡ fresh p filled
unfolding field_step is_empty
fresh-blank p filled f = step_field (fresh p filled) 32 p f refl (λ e. omega arith, λ e. omega arith)

-- ---- the end of a field that has begun

comma-nowhere : (p : ℕ) → comma_step nowhere ≡ cond (is_whole nowhere) (next_place p true) nowhere
unfolding comma_step is_whole is_empty next_place number_whole
comma-nowhere p = refl

pub kept-comma : (s : Scan) (p : ℕ) → Field p → Kept p s → comma_step s ≡ cond (is_whole s) (next_place p true) nowhere
unfolding comma_step
kept-comma s p f (inl e) =
    ap comma_step e ∙ comma-nowhere p ∙ ap (λ (t : Scan). cond (is_whole t) (next_place p true) nowhere) (sym e)
kept-comma s p f (inr (e, k)) =
    rw (ne_eqb s.place 0 (λ z. omega (arith, f.0)), k)
    (ap (λ (x : ℕ). cond (is_whole s) (next_place x true) nowhere) e)

close-nowhere : close_step nowhere ≡ to_if (is_whole nowhere) (fresh 5 false)
unfolding close_step is_whole is_flag_point number_whole
close-nowhere = refl

pub kept-close : (s : Scan) (p : ℕ) → Field p → Kept p s → close_step s ≡ to_if (is_whole s) (fresh 5 false)
unfolding close_step is_flag_point
kept-close s p f (inl e) = ap close_step e ∙ close-nowhere ∙ ap (λ (t : Scan). to_if (is_whole t) (fresh 5 false)) (sym e)
kept-close s p f (inr (e, k)) = rw (ne_eqb s.place 0 (λ z. omega (arith, f.0))) refl

pub place-close : (s : Scan) (p : ℕ) → Field p → s.place ≡ p → step_of s 41 ≡ to_if (is_whole s) (fresh 5 false)
unfolding step_of close_step is_flag_point
place-close s p f e = rw (ne_eqb s.place 0 (λ z. omega (arith, f.0))) refl
