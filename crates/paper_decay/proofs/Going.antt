-- Wherever the scan goes on, some code goes on: each state has characters that close it.
-- Assumes nothing.
use mathlib.Core.Path.{◌≡◌, refl, ap, ◌∙◌}
use mathlib.Core.Bool.{Bool, true, false, cond}
use mathlib.Core.List.{List, [], ◌∷◌}
use mathlib.Core.Logic.{◌⊎◌, inl, inr}
use Prim.Native.Nat.{ℕ, zero, suc, ◌+◌, ◌<◌, ◌≤◌}
use native.Mathlib.Omega.{arith}
use borrow.Author.Tests.{ne_eqb, eqb-false, le-ltb, ltb-true, ltb-false}
use lib.Dec.{eqb, ltb}
use Rattle.paper_number.specs.Form.{place_at}
use Rattle.paper_number.specs.Reading.{column_of, scan_step}
use Rattle.paper_record.specs.Text.{is_digit, is_capital}
use Rattle.paper_decay.specs.declared.types.Scan.{Scan}
use Rattle.paper_decay.specs.Characters.{is_type}
use Rattle.paper_decay.specs.Scan.{standing, fresh, nowhere, to_if, need_of, next_of, number_next, number_whole, number_more}
use Rattle.paper_decay.specs.Scan.{head, digits_next, before_nuclide, flag_digits, flag_step, digits_step, symbol_step, nuclide_step}
use Rattle.paper_decay.specs.Scan.{head_step, half, unit_step, mark_step, behind_number, half_number_step, half_step, type_step}
use Rattle.paper_decay.specs.Scan.{numbers_step, is_empty, place_step, field_step, inside_step, is_whole, is_flag_point, close_step}
use Rattle.paper_decay.specs.Scan.{head_whole, next_place, comma_step, step_of}
use Rattle.paper_decay.proofs.Numerals.{place-small, by_tests, stuck-by}
use Rattle.paper_decay.proofs.Cuts.{Figure}
use Rattle.paper_decay.proofs.Steps.{steps, nowhere-steps, Field, place-close}
use Rattle.paper_decay.proofs.Reading.{Numbers, held, held_some, number_step, slash-none, standing-whole}
use Rattle.paper_decay.proofs.Filling.{if-whole, type-first}
use Rattle.paper_decay.proofs.HalfLives.{step-half, more-half, in-unit-whole, at-mark-whole, plain-no, plain-cap}
use Rattle.paper_decay.proofs.Heads.{in-0, in-2, in-6, in-8, head-close, hyphen-5, counted-whole, nine-whole}
use Rattle.paper_decay.proofs.Heads.{ten-whole, first-7, first-4, first-1, flag-point, flag-more, inner-from, inner-45}
use Rattle.paper_decay.proofs.Heads.{symbol-hyphen, symbol-more, next-zero, point-close}

-- characters that close it
abbrev pub Live : Scan → Type 0
Live s = (r : List ℕ) × (steps s r ≡ fresh 5 false)

live-by : (s t : Scan) (b : ℕ) → step_of s b ≡ t → Live t → Live s
unfolding steps
live-by s t b e (r, h) = (b ∷ r, ap (λ (x : Scan). steps x r) e ∙ h)

pub closed-live : Live (fresh 5 false)
unfolding steps
closed-live = ([], refl)

-- ---- in the flag and the nuclide

head_live : (q k : ℕ) → head_whole q k ≡ true → (q ≡ 3 → ⊥) → Live (head q k)
head_live q k w n =
    live-by (head q k) (fresh 5 false) 41 (head-close q k n ∙ ap (λ (t : Bool). to_if t (fresh 5 false)) w) closed-live

live-10 : Live (head 10 0)
live-10 = head_live 10 0 ten-whole (λ e. omega arith)

live-9 : Live (head 9 0)
live-9 = head_live 9 0 nine-whole (λ e. omega arith)

live-8 : Live (head 8 0)
live-8 = live-by (head 8 0) (head 10 0) 71 (in-8 71 (inner-from 71 (omega arith))) live-10

live-7 : (k : ℕ) → 1 ≤ k → Live (head 7 k)
live-7 k h = head_live 7 k (counted-whole k h) (λ e. omega arith)

zero-figure : Figure 48
zero-figure = (omega arith, omega arith)

live-70 : Live (head 7 0)
live-70 = live-by (head 7 0) (head 7 3) 48 (first-7 48 3 zero-figure next-zero (omega arith)) (live-7 3 (omega arith))

live-6 : (k : ℕ) → 1 ≤ k → Live (head 6 k)
live-6 k h = live-by (head 6 k) (head 7 0) 45 (in-6 k 45 inner-45 ∙ symbol-hyphen k h) live-70

live-60 : Live (head 6 0)
live-60 =
    live-by (head 6 0) (head 6 1) 65 (in-6 0 65 (inner-from 65 (omega arith)) ∙ symbol-more 0 65 refl (omega arith))
    (live-6 1 (omega arith))

live-5 : (k : ℕ) → 1 ≤ k → Live (head 5 k)
live-5 k h = live-by (head 5 k) (head 6 0) 45 (hyphen-5 k h) live-60

live-4 : Live (head 4 0)
live-4 = live-by (head 4 0) (head 5 3) 48 (first-4 48 3 zero-figure next-zero (omega arith)) (live-5 3 (omega arith))

live-3 : Live (head 3 0)
live-3 = live-by (head 3 0) (head 4 0) 41 point-close live-4

live-2 : (k : ℕ) → 1 ≤ k → Live (head 2 k)
live-2 k h = live-by (head 2 k) (head 3 0) 46 (in-2 k 46 (inner-from 46 (omega arith)) ∙ flag-point k h) live-3

live-20 : Live (head 2 0)
live-20 =
    live-by (head 2 0) (head 2 1) 48 (in-2 0 48 (inner-from 48 (omega arith)) ∙ flag-more 0 48 zero-figure (omega arith))
    (live-2 1 (omega arith))

live-1 : Live (head 1 0)
live-1 = live-by (head 1 0) (head 5 3) 48 (first-1 48 3 zero-figure next-zero (omega arith)) (live-5 3 (omega arith))

pub live-0 : Live (head 0 0)
live-0 = live-by (head 0 0) (head 1 0) 40 (in-0 40 (λ e. omega arith, λ e. omega arith)) live-1

-- ---- in a place

whole-live : (s : Scan) (p : ℕ) → Field p → s.place ≡ p → is_whole s ≡ true → Live s
whole-live s p f e w =
    live-by s (fresh 5 false) 41 (place-close s p f e ∙ ap (λ (t : Bool). to_if t (fresh 5 false)) w) closed-live

type-live : (again filled : Bool) → Live (standing 2 1 0 again filled)
type-live again filled = whole-live (standing 2 1 0 again filled) 2 (omega arith, omega arith) refl (if-whole true again filled)

an-a : is_type 65 ≡ true
unfolding is_type
an-a = refl

types-live : (again filled : Bool) → Live (standing 2 0 0 again filled)
types-live again filled =
    live-by (standing 2 0 0 again filled) (standing 2 1 0 again filled) 65
    (type-first 65 again filled (inner-from 65 (omega arith)) (λ z. absurd (omega arith))
    ∙ ap (λ (t : Bool). to_if t (standing 2 1 0 again filled)) an-a)
    (type-live again filled)

-- where a character leads, if there is room
leads : (inner count b next : ℕ) → next_of inner b ≡ next → inner < 11 → (b ≡ 32 → ⊥) → count + need_of next ≤ 10
    → number_next inner count b ≡ next
leads inner count b next e s h r =
    by_tests inner count b next (ne_eqb b 32 h) (le-ltb 10 inner (omega arith)) (le-ltb 10 count (omega arith))
    (le-ltb 10 (count + need_of next) r) e

-- how a number goes on from each place: the character, and where it leads
record Onward (inner next b : ℕ) : Type 0 where
  goes : next_of inner b ≡ next
  small : inner < 11
  printed : (b ≡ 46) ⊎ (b ≡ 48)
  ten : next ≡ 10 → ⊥
  unwhole : number_whole inner ≡ false

digit-or-point : (b : ℕ) → (b ≡ 46) ⊎ (b ≡ 48) → (45 ≤ b) × ((b ≡ 32 → ⊥) × (b ≡ 47 → ⊥))
digit-or-point b (inl e) = (omega arith, (λ z. omega arith, λ z. omega arith))
digit-or-point b (inr e) = (omega arith, (λ z. omega arith, λ z. omega arith))

module _ (p : ℕ) (n : Numbers p) (again filled : Bool) where
  on-number : (inner next b count : ℕ) → Onward inner next b → count + need_of next ≤ 10
      → Live (standing p next (count + 1) again filled) → Live (standing p inner count again filled)
  on-number inner next b count o r h =
      let (l, (x, y)) = digit-or-point b o.printed in
      live-by (standing p inner count again filled) (standing p next (count + 1) again filled) b
      (number_step p inner count b again filled n (inner-from b l) (λ z. absurd (y z)) (λ z. absurd (x z))
      ∙ ap (λ (k : ℕ). held p k (count + 1) again filled) (leads inner count b next o.goes o.small x r)
      ∙ held_some p next (count + 1) again filled (ne_eqb next 10 o.ten))
      h

  ended-number : (inner count : ℕ) → number_whole inner ≡ true → Live (standing p inner count again filled)
  ended-number inner count w =
      whole-live (standing p inner count again filled) p (omega (arith, n.0), n.1) refl
      (standing-whole p inner count again filled n ∙ w)

on-half : (inner next b count : ℕ) → Onward inner next b → count + need_of next ≤ 10 → Live (half next (count + 1))
    → Live (half inner count)
on-half inner next b count o r h =
    let (l, (x, y)) = digit-or-point b o.printed in
    live-by (half inner count) (half next (count + 1)) b
    (step-half inner count b (inner-from b l) x ∙ plain-no inner count b o.small o.unwhole
    ∙ ap (λ (k : ℕ). number_more 1 k count false false) (leads inner count b next o.goes o.small x r)
    ∙ more-half next count o.ten (omega arith))
    h

unit-live : (count : ℕ) → Live (half 12 count)
unit-live count = whole-live (half 12 count) 1 (omega arith, omega arith) refl (in-unit-whole count)

mark-live : (count : ℕ) → Live (half 11 count)
mark-live count = whole-live (half 11 count) 1 (omega arith, omega arith) refl (at-mark-whole count)

-- a D begins the unit
letter-of : (inner : ℕ) → next_of inner 68 ≡ 10
unfolding next_of
letter-of inner = slash-none (place_at inner)

letter-next : (inner count : ℕ) → number_next inner count 68 ≡ 10
unfolding number_next
letter-next inner count =
    rw (letter-of inner) (stuck-by (eqb 68 32) (ltb 10 inner) (ltb 10 count) (ltb 10 (count + need_of 10)) 10)

ended-half : (inner count : ℕ) → number_whole inner ≡ true → inner < 11 → Live (half inner count)
ended-half inner count w s =
    let e = letter-next inner count in
    live-by (half inner count) (half 12 1) 68
    (step-half inner count 68 (inner-from 68 (omega arith)) (λ z. omega arith)
    ∙ plain-cap inner count 68 s w (λ z. omega arith) refl)
    (unit-live 1)

-- ---- each place of a number's reading

from-0 : Onward 0 2 48
unfolding next_of number_whole
from-0 = record { goes = refl; small = omega arith; printed = inr refl; ten = λ z. omega arith; unwhole = refl }

from-1 : Onward 1 2 48
unfolding next_of number_whole
from-1 = record { goes = refl; small = omega arith; printed = inr refl; ten = λ z. omega arith; unwhole = refl }

from-2 : Onward 2 4 46
unfolding next_of number_whole
from-2 = record { goes = refl; small = omega arith; printed = inl refl; ten = λ z. omega arith; unwhole = refl }

from-3 : Onward 3 4 48
unfolding next_of number_whole
from-3 = record { goes = refl; small = omega arith; printed = inr refl; ten = λ z. omega arith; unwhole = refl }

from-6 : Onward 6 9 48
unfolding next_of number_whole
from-6 = record { goes = refl; small = omega arith; printed = inr refl; ten = λ z. omega arith; unwhole = refl }

from-8 : Onward 8 9 48
unfolding next_of number_whole
from-8 = record { goes = refl; small = omega arith; printed = inr refl; ten = λ z. omega arith; unwhole = refl }

four-whole : number_whole 4 ≡ true
unfolding number_whole
four-whole = refl

nine-ends : number_whole 9 ≡ true
unfolding number_whole
nine-ends = refl

-- what holds of each place, with room for what it needs
module _ (P : ℕ → ℕ → Type 0)
    (on : (inner next b count : ℕ) → Onward inner next b → count + need_of next ≤ 10 → P next (count + 1) → P inner count)
    (ended : (inner count : ℕ) → number_whole inner ≡ true → inner < 11 → P inner count) where
  at-4 : (count : ℕ) → P 4 count
  at-4 count = ended 4 count four-whole (omega arith)

  at_9 : (count : ℕ) → P 9 count
  at_9 count = ended 9 count nine-ends (omega arith)

  at-2 : (count : ℕ) → count ≤ 10 → P 2 count
  unfolding need_of
  at-2 count h = on 2 4 46 count from-2 (omega arith) (at-4 (count + 1))

  each-place : (inner count : ℕ) → inner < 11 → count + need_of inner ≤ 11 → P inner count
  unfolding need_of
  each-place zero count s r = on 0 2 48 count from-0 (omega arith) (at-2 (count + 1) (omega arith))
  each-place (suc zero) count s r = on 1 2 48 count from-1 (omega arith) (at-2 (count + 1) (omega arith))
  each-place (suc (suc zero)) count s r = at-2 count (omega arith)
  each-place (suc (suc (suc zero))) count s r = on 3 4 48 count from-3 (omega arith) (at-4 (count + 1))
  each-place (suc (suc (suc (suc zero)))) count s r = at-4 count
  each-place (suc (suc (suc (suc (suc zero))))) count s r = absurd (omega arith)
  each-place (suc (suc (suc (suc (suc (suc zero)))))) count s r = on 6 9 48 count from-6 (omega arith) (at_9 (count + 1))
  each-place (suc (suc (suc (suc (suc (suc (suc zero))))))) count s r = absurd (omega arith)
  each-place (suc (suc (suc (suc (suc (suc (suc (suc zero)))))))) count s r =
      on 8 9 48 count from-8 (omega arith) (at_9 (count + 1))
  each-place (suc (suc (suc (suc (suc (suc (suc (suc (suc zero))))))))) count s r = at_9 count
  each-place (suc (suc (suc (suc (suc (suc (suc (suc (suc (suc zero)))))))))) count s r = absurd (omega arith)
  each-place (suc (suc (suc (suc (suc (suc (suc (suc (suc (suc (suc n))))))))))) count s r = absurd (omega arith)

number-live : (p inner count : ℕ) (again filled : Bool) → Numbers p → inner < 11 → count + need_of inner ≤ 11
    → Live (standing p inner count again filled)
number-live p inner count again filled n s r =
    each-place (λ i c. Live (standing p i c again filled)) (on-number p n again filled)
    (λ i c w l. ended-number p n again filled i c w) inner count s r

half-live : (inner count : ℕ) → inner < 11 → count + need_of inner ≤ 11 → Live (half inner count)
half-live inner count s r = each-place (λ i c. Live (half i c)) on-half ended-half inner count s r

-- ---- each step leads nowhere or to such a state

abbrev pub Alive : Scan → Type 0
Alive s = (s ≡ nowhere) ⊎ Live s

off : Alive nowhere
off = inl refl

cond-alive : (t : Bool) (x y : Scan) → (t ≡ true → Alive x) → (t ≡ false → Alive y) → Alive (cond t x y)
cond-alive true x y h k = h refl
cond-alive false x y h k = k refl

if-alive : (t : Bool) (x : Scan) → Live x → Alive (to_if t x)
if-alive true x h = inr h
if-alive false x h = off

next_small : (inner b : ℕ) → next_of inner b < 11
unfolding next_of
next_small inner b = place-small (scan_step (place_at inner) (column_of b))

zero_room : 0 + need_of 0 ≤ 11
unfolding need_of
zero_room = omega arith

one_up : (n : ℕ) → (n ≡ 0 → ⊥) → 1 ≤ n
one_up zero h = absurd (h refl)
one_up (suc n) h = omega arith

three-four : (p : ℕ) → Field p → (p ≡ 1 → ⊥) → (p ≡ 2 → ⊥) → Numbers p
three-four zero f g h = absurd (omega (arith, f.0))
three-four (suc zero) f g h = absurd (g refl)
three-four (suc (suc zero)) f g h = absurd (h refl)
three-four (suc (suc (suc n))) f g h = (omega arith, f.1)

one-four : (p : ℕ) → eqb p 0 ≡ false → ltb p 5 ≡ true → Field p
one-four p e f = (one_up p (eqb-false p 0 e), let l = ltb-true p 5 f in omega arith)

-- a place of the number's reading has room for what it needs
roomed : (inner count b : ℕ) → (number_next inner count b ≡ 10 → ⊥)
    → (number_next inner count b < 11) × (count + need_of (number_next inner count b) ≤ 10)
unfolding number_next
roomed inner count b h =
    by-test (eqb b 32) (ltb 10 inner) (ltb 10 count) (ltb 10 (count + need_of (next_of inner b))) refl h
  where
    by-test : (p q r w : Bool) → ltb 10 (count + need_of (next_of inner b)) ≡ w
        → (cond p 10 (cond q 10 (cond r 10 (cond w 10 (next_of inner b)))) ≡ 10 → ⊥)
        → (cond p 10 (cond q 10 (cond r 10 (cond w 10 (next_of inner b)))) < 11)
        × (count + need_of (cond p 10 (cond q 10 (cond r 10 (cond w 10 (next_of inner b))))) ≤ 10)
    by-test true q r w f h = absurd (h refl)
    by-test false true r w f h = absurd (h refl)
    by-test false false true w f h = absurd (h refl)
    by-test false false false true f h = absurd (h refl)
    by-test false false false false f h = (next_small inner b, ltb-false 10 (count + need_of (next_of inner b)) f)

more-alive : (p inner count b : ℕ) (again filled : Bool)
    → ((i c : ℕ) → i < 11 → c + need_of i ≤ 11 → Live (standing p i c again filled))
    → Alive (number_more p (number_next inner count b) count again filled)
unfolding number_more
more-alive p inner count b again filled live =
    cond-alive (eqb (number_next inner count b) 10) nowhere _ (λ e. off)
    (λ e.
    let (s, r) = roomed inner count b (eqb-false (number_next inner count b) 10 e) in
    cond-alive (ltb count 11) _ nowhere
    (λ f. inr (live (number_next inner count b) (count + 1) s (omega arith))) (λ f. off))

half-more : (inner count b : ℕ) → Alive (number_more 1 (number_next inner count b) count false false)
half-more inner count b = more-alive 1 inner count b false false (λ i c s r. half-live i c s r)

six-more : (count : ℕ) → Alive (number_more 1 11 count false false)
unfolding number_more
six-more count = cond-alive (ltb count 11) _ nowhere (λ f. inr (mark-live (count + 1))) (λ f. off)

half-alive : (inner count b : ℕ) → Alive (half_step inner count b)
unfolding half_step unit_step mark_step half_number_step behind_number
half-alive inner count b =
    cond-alive (eqb inner 12) _ _
    (λ e. cond-alive (is_capital b) _ _ (λ f. cond-alive (ltb count 10) _ _ (λ g. inr (unit-live (count + 1))) (λ g. off)) (λ f. off))
    (λ e. cond-alive (eqb inner 11) _ _
    (λ f. cond-alive (is_capital b) _ _ (λ g. inr (unit-live 2)) (λ g. half-more 6 count b))
    (λ f. cond-alive (number_whole inner) _ _
    (λ w. cond-alive (eqb (number_next inner count b) 6) _ _ (λ g. six-more count)
    (λ g. cond-alive (is_capital b) _ _ (λ c. inr (unit-live 1)) (λ c. half-more inner count b)))
    (λ w. half-more inner count b)))

type-alive : (inner b : ℕ) (again filled : Bool) → Alive (type_step inner again filled b)
unfolding type_step
type-alive inner b again filled =
    cond-alive (is_type b) _ _ (λ e. inr (type-live again filled))
    (λ e. cond-alive (eqb inner 1) _ _ (λ f. if-alive (eqb b 47) (standing 2 0 0 true filled) (types-live true filled)) (λ f. off))

numbers-alive : (s : Scan) (b : ℕ) → Numbers s.place → Alive (numbers_step s b)
unfolding numbers_step
numbers-alive s b n =
    cond-alive (eqb b 47) _ _
    (λ e. cond-alive (eqb s.place 3) _ _
    (λ f. if-alive (number_whole s.inner) (standing 3 0 0 true s.filled)
    (number-live 3 0 0 true s.filled (omega arith, omega arith) (omega arith) zero_room))
    (λ f. off))
    (λ e. more-alive s.place s.inner s.count b s.again s.filled
    (λ i c l r. number-live s.place i c s.again s.filled n l r))

place-alive : (s : Scan) (b : ℕ) → Field s.place → Alive (place_step s b)
unfolding place_step
place-alive s b f =
    cond-alive (eqb s.place 1) _ _ (λ e. half-alive s.inner s.count b)
    (λ e. cond-alive (eqb s.place 2) _ _ (λ g. type-alive s.inner b s.again s.filled)
    (λ g. numbers-alive s b (three-four s.place f (eqb-false s.place 1 e) (eqb-false s.place 2 g))))

field-alive : (s : Scan) (b : ℕ) → Field s.place → Live s → Alive (field_step s b)
unfolding field_step
field-alive s b f h = cond-alive (eqb b 32) _ _ (λ e. if-alive (is_empty s) s h) (λ e. place-alive s b f)

-- in the flag and the nuclide
before-alive : (b : ℕ) → Alive (before_nuclide b)
unfolding before_nuclide
before-alive b =
    cond-alive (eqb b 32) _ _ (λ e. inr live-4)
    (λ e. cond-alive (eqb (digits_next 0 b) 0) _ _ (λ f. off)
    (λ f. let z = eqb-false (digits_next 0 b) 0 f in inr (live-5 (digits_next 0 b) (one_up (digits_next 0 b) z))))

flag-alive : (inner count b : ℕ) → Alive (flag_step inner count b)
unfolding flag_step flag_digits
flag-alive inner count b =
    cond-alive (eqb inner 0) _ _ (λ e. if-alive (eqb b 40) (head 1 0) live-1)
    (λ e. cond-alive (eqb inner 1) _ _ (λ f. cond-alive (eqb b 40) _ _ (λ g. inr live-20) (λ g. before-alive b))
    (λ f. cond-alive (eqb inner 2) _ _
    (λ g. cond-alive (is_digit b) _ _
    (λ h. cond-alive (ltb count 10) _ _ (λ k. inr (live-2 (count + 1) (omega arith))) (λ k. off))
    (λ h. cond-alive (eqb count 0) _ _ (λ k. off) (λ k. if-alive (eqb b 46) (head 3 0) live-3)))
    (λ g. cond-alive (eqb inner 4) _ _ (λ h. before-alive b) (λ h. off))))

digits-alive : (inner count b next : ℕ) → ((k : ℕ) → 1 ≤ k → Live (head inner k)) → Live (head next 0)
    → Alive (digits_step inner count b next)
unfolding digits_step
digits-alive inner count b next h k =
    cond-alive (eqb (digits_next count b) 0) _ _
    (λ e. cond-alive (eqb count 0) _ _ (λ f. off) (λ f. if-alive (eqb b 45) (head next 0) k))
    (λ e. let z = eqb-false (digits_next count b) 0 e in inr (h (digits_next count b) (one_up (digits_next count b) z)))

symbol-alive : (count b : ℕ) → Alive (symbol_step count b)
unfolding symbol_step
symbol-alive count b =
    cond-alive (is_capital b) _ _ (λ e. cond-alive (ltb count 2) _ _ (λ f. inr (live-6 (count + 1) (omega arith))) (λ f. off))
    (λ e. cond-alive (eqb count 0) _ _ (λ f. off) (λ f. if-alive (eqb b 45) (head 7 0) live-70))

nuclide-alive : (inner count b : ℕ) → Alive (nuclide_step inner count b)
unfolding nuclide_step
nuclide-alive inner count b =
    cond-alive (eqb inner 5) _ _ (λ e. digits-alive 5 count b 6 live-5 live-60)
    (λ e. cond-alive (eqb inner 6) _ _ (λ f. symbol-alive count b)
    (λ f. cond-alive (eqb inner 7) _ _ (λ g. digits-alive 7 count b 8 live-7 live-8)
    (λ g. cond-alive (eqb inner 8) _ _
    (λ h. cond-alive (eqb b 77) _ _ (λ k. inr live-9) (λ k. if-alive (eqb b 71) (head 10 0) live-10))
    (λ h. cond-alive (eqb inner 9) _ _
    (λ k. cond-alive (eqb b 49) _ _ (λ l. inr live-10) (λ l. if-alive (eqb b 50) (head 10 0) live-10))
    (λ k. off)))))

inside-alive : (s : Scan) (b : ℕ) → Live s → Alive (inside_step s b)
unfolding inside_step head_step
inside-alive s b h =
    cond-alive (eqb s.place 0) _ _
    (λ e. cond-alive (ltb s.inner 5) _ _ (λ f. flag-alive s.inner s.count b) (λ f. nuclide-alive s.inner s.count b))
    (λ e. cond-alive (ltb s.place 5) _ _ (λ f. field-alive s b (one-four s.place e f) h) (λ f. off))

-- at a comma and a closing parenthesis
next-alive : (p : ℕ) (t : Bool) → Alive (next_place p t)
unfolding next_place
next-alive p t =
    cond-alive (eqb p 0) _ _ (λ e. inr (half-live 0 0 (omega arith) zero_room))
    (λ e. cond-alive (eqb p 1) _ _ (λ f. inr (types-live false false))
    (λ f. cond-alive (eqb p 2) _ _ (λ g. inr (number-live 3 0 0 false t (omega arith, omega arith) (omega arith) zero_room))
    (λ g. cond-alive (eqb p 3) _ _ (λ h. inr (number-live 4 0 0 false t (omega arith, omega arith) (omega arith) zero_room))
    (λ h. cond-alive (eqb p 4) _ _ (λ k. if-alive t (fresh 2 false) (types-live false false)) (λ k. off)))))

comma-alive : (s : Scan) → Alive (comma_step s)
unfolding comma_step
comma-alive s =
    cond-alive (is_whole s) _ _ (λ e. next-alive s.place true)
    (λ e. cond-alive (eqb s.place 0) _ _ (λ f. off)
    (λ f. cond-alive (is_empty s) _ _ (λ g. next-alive s.place s.filled) (λ g. off)))

close-alive : (s : Scan) → Alive (close_step s)
unfolding close_step
close-alive s = cond-alive (is_flag_point s) _ _ (λ e. inr live-4) (λ e. if-alive (is_whole s) (fresh 5 false) closed-live)

pub step-alive : (s : Scan) (b : ℕ) → Live s → Alive (step_of s b)
unfolding step_of
step-alive s b h =
    cond-alive (eqb b 44) _ _ (λ e. comma-alive s)
    (λ e. cond-alive (eqb b 41) _ _ (λ f. close-alive s) (λ f. inside-alive s b h))

pub steps-alive : (l : List ℕ) (s : Scan) → Live s → Alive (steps s l)
unfolding steps
steps-alive [] s h = inr h
steps-alive (b ∷ l) s h = by-step (λ g. steps-alive l (step_of s b) g) (step-alive s b h)
  where
    by-step : (Live (step_of s b) → Alive (steps (step_of s b) l)) → Alive (step_of s b) → Alive (steps (step_of s b) l)
    by-step ih (inl e) = inl (ap (λ (x : Scan). steps x l) e ∙ nowhere-steps l)
    by-step ih (inr g) = ih g
