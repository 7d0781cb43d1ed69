-- Numbers in the places of energies and of an abundance: the steps over one are the reading of its characters.
-- Assumes nothing.
use mathlib.Core.Path.{◌≡◌, refl, ap, ◌∙◌}
use mathlib.Core.Bool.{Bool, true, false, cond}
use mathlib.Core.List.{List, [], ◌∷◌}
use mathlib.Core.Logic.{◌⊎◌, inl, inr}
use Prim.Native.Nat.{ℕ, suc, ◌+◌, ◌≤◌}
use native.Mathlib.Omega.{arith}
use borrow.Author.Tests.{ne_eqb, eqb-true, eqb-false, lt-ltb, ltb-false}
use lib.Dec.{eqb, ltb}
use lib.ListN.{length}
use Rattle.laws.specs.Walk.{All}
use Rattle.paper_number.specs.Form.{place_number, place_at}
use Rattle.paper_number.specs.Reading as R
use Rattle.paper_number.specs.Reading.{column_of, scan_step, Lead, Signed, Whole, Point, Fraction, Gap, Mark, MarkGap}
use Rattle.paper_number.specs.Reading.{PowerSign, Power, Bad}
use Rattle.paper_decay.specs.declared.types.Scan.{Scan}
use Rattle.paper_decay.specs.Scan.{standing, nowhere, to_if, need_of, next_of, number_more, number_next, number_whole}
use Rattle.paper_decay.specs.Scan.{numbers_step, is_empty, place_step, field_step, is_whole, step_of}
use Rattle.paper_decay.specs.Numerals.{number_from}
use Rattle.paper_decay.proofs.Numerals.{stuck-by, stuck-from}
use Rattle.paper_decay.proofs.Cuts.{Stops, Blank}
use Rattle.paper_decay.proofs.Steps.{steps, nowhere-stays, nowhere-steps, Inner, Field, step-place, step_field}

-- a character that leads somewhere is no blank, and there was room for it
pub roomy : (inner count b : ℕ) → (number_next inner count b ≡ 10 → ⊥) → (b ≡ 32 → ⊥) × (count ≤ 10)
unfolding number_next
roomy inner count b h =
    by-test (eqb b 32) (ltb 10 inner) (ltb 10 count) (ltb 10 (count + need_of (next_of inner b))) refl refl h
  where
    by-test : (p q r w : Bool) → eqb b 32 ≡ p → ltb 10 count ≡ r
        → (cond p 10 (cond q 10 (cond r 10 (cond w 10 (next_of inner b)))) ≡ 10 → ⊥) → (b ≡ 32 → ⊥) × (count ≤ 10)
    by-test true q r w e f h = absurd (h refl)
    by-test false true r w e f h = absurd (h refl)
    by-test false false true w e f h = absurd (h refl)
    by-test false false false w e f h = (eqb-false b 32 e, ltb-false 10 count f)

-- at a place of the number's reading, or nowhere
unfoldable pub held : ℕ → ℕ → ℕ → Bool → Bool → Scan
held p inner count again filled = cond (eqb inner 10) nowhere (standing p inner count again filled)

more-held : (p inner count b : ℕ) (again filled : Bool)
    → number_more p (number_next inner count b) count again filled ≡ held p (number_next inner count b) (count + 1) again filled
unfolding number_more held
more-held p inner count b again filled = by_ten (eqb (number_next inner count b) 10) refl
  where
    by_ten : (t : Bool) → eqb (number_next inner count b) 10 ≡ t
        → cond t nowhere (cond (ltb count 11) (standing p (number_next inner count b) (count + 1) again filled) nowhere)
        ≡ cond t nowhere (standing p (number_next inner count b) (count + 1) again filled)
    by_ten true e = refl
    by_ten false e =
        let r = roomy inner count b (eqb-false (number_next inner count b) 10 e) in
        rw (lt-ltb count 11 (omega (arith, r.1))) refl

-- the places of numbers
abbrev pub Numbers : ℕ → Type 0
Numbers p = (3 ≤ p) × (p ≤ 4)

-- a slash parts energies, and stands in no abundance
abbrev pub Passed : ℕ → ℕ → Type 0
Passed p b = b ≡ 47 → p ≡ 4

pub slash-none : (t : R.Scan) → place_number (scan_step t (column_of 47)) ≡ 10
slash-none Lead = refl
slash-none (Signed n) = refl
slash-none (Whole n c) = refl
slash-none (Point n) = refl
slash-none (Fraction x) = refl
slash-none (Gap x) = refl
slash-none (Mark x) = refl
slash-none (MarkGap x) = refl
slash-none (PowerSign x s) = refl
slash-none (Power x s e) = refl
slash-none Bad = refl

slash-of : (inner : ℕ) → next_of inner 47 ≡ 10
unfolding next_of
slash-of inner = slash-none (place_at inner)

slash-next : (inner count : ℕ) → number_next inner count 47 ≡ 10
unfolding number_next
slash-next inner count =
    rw (slash-of inner) (stuck-by (eqb 47 32) (ltb 10 inner) (ltb 10 count) (ltb 10 (count + need_of 10)) 10)

slash-lost : (inner count : ℕ) (again filled : Bool)
    → place_step (standing 4 inner count again filled) 47 ≡ held 4 (number_next inner count 47) (count + 1) again filled
unfolding place_step numbers_step held
slash-lost inner count again filled = rw (slash-next inner count) refl

other_place : (p inner count b : ℕ) (again filled : Bool) → Numbers p → (b ≡ 47 → ⊥)
    → place_step (standing p inner count again filled) b ≡ held p (number_next inner count b) (count + 1) again filled
unfolding place_step numbers_step
other_place p inner count b again filled n h =
    rw (ne_eqb p 1 (λ z. omega (arith, n.0)), ne_eqb p 2 (λ z. omega (arith, n.0)), ne_eqb b 47 h)
    (more-held p inner count b again filled)

number-place : (p inner count b : ℕ) (again filled : Bool) → Numbers p → Passed p b
    → place_step (standing p inner count again filled) b ≡ held p (number_next inner count b) (count + 1) again filled
number-place p inner count b again filled n h = by-slash (eqb b 47) refl
  where
    by-slash : (t : Bool) → eqb b 47 ≡ t
        → place_step (standing p inner count again filled) b ≡ held p (number_next inner count b) (count + 1) again filled
    by-slash true e =
        let z : b ≡ 47 = eqb-true b 47 e in
        let y : p ≡ 4 = h z in
        rw (z, y) (slash-lost inner count again filled)
    by-slash false e = other_place p inner count b again filled n (eqb-false b 47 e)

-- a blank leads on only where the field begins
blank-lost : (p inner count : ℕ) (again filled : Bool) → is_empty (standing p inner count again filled) ≡ false
    → field_step (standing p inner count again filled) 32 ≡ held p (number_next inner count 32) (count + 1) again filled
unfolding field_step number_next held
blank-lost p inner count again filled e = rw e refl

pub number_step : (p inner count b : ℕ) (again filled : Bool) → Numbers p → Inner b → Passed p b
    → (b ≡ 32 → is_empty (standing p inner count again filled) ≡ false)
    → step_of (standing p inner count again filled) b ≡ held p (number_next inner count b) (count + 1) again filled
number_step p inner count b again filled n i h k = by_blank (eqb b 32) refl
  where
    f : Field p
    f = (omega (arith, n.0), n.1)

    by_blank : (t : Bool) → eqb b 32 ≡ t
        → step_of (standing p inner count again filled) b ≡ held p (number_next inner count b) (count + 1) again filled
    by_blank true e =
        let z : b ≡ 32 = eqb-true b 32 e in
        step_field (standing p inner count again filled) b p f refl i
        ∙ rw z (blank-lost p inner count again filled (k z))
    by_blank false e =
        step-place (standing p inner count again filled) b p f refl i (eqb-false b 32 e)
        ∙ number-place p inner count b again filled n h

pub counted-open : (p inner count : ℕ) (again filled : Bool) → 1 ≤ count → is_empty (standing p inner count again filled) ≡ false
unfolding is_empty
counted-open p inner count again filled h =
    rw (ne_eqb count 0 (λ z. omega arith)) (by_tests again (eqb inner 0))
  where
    by_tests : (t u : Bool) → cond t false (cond u false false) ≡ false
    by_tests true u = refl
    by_tests false true = refl
    by_tests false false = refl

held_none : (l : List ℕ) (p count k : ℕ) (again filled : Bool)
    → steps (held p 10 count again filled) l ≡ held p (number_from 10 count l) k again filled
unfolding held
held_none l p count k again filled = rw (stuck-from l count) (nowhere-steps l)

pub held_some : (p inner count : ℕ) (again filled : Bool) → eqb inner 10 ≡ false
    → held p inner count again filled ≡ standing p inner count again filled
unfolding held
held_some p inner count again filled e = rw e refl

pub held_steps : (l : List ℕ) (p inner count : ℕ) (again filled : Bool) → Numbers p → 1 ≤ count → All Inner l
    → All (Passed p) l
    → steps (held p inner count again filled) l ≡ held p (number_from inner count l) (count + length l) again filled
unfolding steps number_from
held_steps [] p inner count again filled n c i h = ap (λ (k : ℕ). held p inner k again filled) (omega arith)
held_steps (b ∷ l) p inner count again filled n c i h =
    by_ten (held_steps l p (number_next inner count b) (count + 1) again filled n (omega arith) i.1 h.1)
    (eqb inner 10) refl
  where
    by_ten : steps (held p (number_next inner count b) (count + 1) again filled) l
        ≡ held p (number_from (number_next inner count b) (count + 1) l) (count + 1 + length l) again filled
        → (t : Bool) → eqb inner 10 ≡ t
        → steps (held p inner count again filled) (b ∷ l)
        ≡ held p (number_from inner count (b ∷ l)) (count + length (b ∷ l)) again filled
    by_ten r true e =
        let z : inner ≡ 10 = eqb-true inner 10 e in
        rw z (held_none (b ∷ l) p count (count + suc (length l)) again filled)
    by_ten r false e =
        let q = number_step p inner count b again filled n i.0 h.0 (λ z. counted-open p inner count again filled c) in
        ap (λ (s : Scan). steps s (b ∷ l)) (held_some p inner count again filled e)
        ∙ ap (λ (s : Scan). steps s l) q
        ∙ r
        ∙ ap (λ (k : ℕ). held p (number_from (number_next inner count b) (count + 1) l) k again filled) (omega arith)

again-open : (p : ℕ) (again filled : Bool) → again ≡ true → is_empty (standing p 0 0 again filled) ≡ false
unfolding is_empty
again-open p again filled e = rw e refl

ten-whole : is_whole nowhere ≡ number_whole 10
unfolding is_whole number_whole
ten-whole = refl

held_start : (p : ℕ) (again filled : Bool) → standing p 0 0 again filled ≡ held p 0 0 again filled
unfolding held
held_start p again filled = refl

-- a word from its first character on: no blank there, or a slash before it
pub word-steps : (w : List ℕ) (p : ℕ) (again filled : Bool) → Numbers p → All Inner w → All (Passed p) w
    → Stops Blank w ⊎ (again ≡ true)
    → steps (standing p 0 0 again filled) w ≡ held p (number_from 0 0 w) (length w) again filled
unfolding steps number_from
word-steps [] p again filled n i h o = held_start p again filled
word-steps (b ∷ l) p again filled n i h o =
    ap (λ (s : Scan). steps s l) (number_step p 0 0 b again filled n i.0 h.0 (by-open o))
    ∙ held_steps l p (number_next 0 0 b) 1 again filled n (omega arith) i.1 h.1
    ∙ ap (λ (k : ℕ). held p (number_from (number_next 0 0 b) 1 l) k again filled) (omega arith)
  where
    by-open : Stops Blank (b ∷ l) ⊎ (again ≡ true) → b ≡ 32 → is_empty (standing p 0 0 again filled) ≡ false
    by-open (inl s) z = absurd (s z)
    by-open (inr e) z = again-open p again filled e

pub held_whole : (p inner count : ℕ) (again filled : Bool) → Numbers p
    → is_whole (held p inner count again filled) ≡ number_whole inner
unfolding held is_whole
held_whole p inner count again filled n = by_ten (eqb inner 10) refl
  where
    by_ten : (t : Bool) → eqb inner 10 ≡ t → is_whole (cond t nowhere (standing p inner count again filled)) ≡ number_whole inner
    by_ten true e = let z : inner ≡ 10 = eqb-true inner 10 e in rw z ten-whole
    by_ten false e =
        rw (ne_eqb p 0 (λ z. omega (arith, n.0)), ne_eqb p 1 (λ z. omega (arith, n.0)), ne_eqb p 2 (λ z. omega (arith, n.0))) refl

-- ---- a slash behind a word

slash-standing : (inner count : ℕ) (again filled : Bool)
    → step_of (standing 3 inner count again filled) 47 ≡ to_if (number_whole inner) (standing 3 0 0 true filled)
unfolding place_step numbers_step
slash-standing inner count again filled =
    step-place (standing 3 inner count again filled) 47 3 (omega arith, omega arith) refl
    (λ e. omega arith, λ e. omega arith) (λ e. omega arith)

ten-if : (filled : Bool) → nowhere ≡ to_if (number_whole 10) (standing 3 0 0 true filled)
unfolding number_whole
ten-if filled = refl

pub slash-held : (inner count : ℕ) (again filled : Bool)
    → step_of (held 3 inner count again filled) 47 ≡ to_if (number_whole inner) (standing 3 0 0 true filled)
unfolding held
slash-held inner count again filled = by_ten (eqb inner 10) refl
  where
    by_ten : (t : Bool) → eqb inner 10 ≡ t
        → step_of (cond t nowhere (standing 3 inner count again filled)) 47
        ≡ to_if (number_whole inner) (standing 3 0 0 true filled)
    by_ten true e = let z : inner ≡ 10 = eqb-true inner 10 e in rw z (nowhere-stays 47 ∙ ten-if filled)
    by_ten false e = slash-standing inner count again filled

pub standing-whole : (p inner count : ℕ) (again filled : Bool) → Numbers p
    → is_whole (standing p inner count again filled) ≡ number_whole inner
unfolding is_whole
standing-whole p inner count again filled n =
    rw (ne_eqb p 0 (λ z. omega (arith, n.0)), ne_eqb p 1 (λ z. omega (arith, n.0)), ne_eqb p 2 (λ z. omega (arith, n.0))) refl
