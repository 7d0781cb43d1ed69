-- The places of a group: the scan may end one exactly where it is filled as its position has it.
-- Assumes nothing.
use mathlib.Core.Path.{◌≡◌, refl, sym, ap, ◌∙◌}
use mathlib.Core.Bool.{Bool, true, false, cond}
use mathlib.Core.List.{List, [], ◌∷◌}
use mathlib.Core.Logic.{inl, inr, ◌↔◌}
use Prim.Native.Nat.{ℕ}
use native.Mathlib.Omega.{arith}
use borrow.Author.Tests.{ne_eqb, eqb-true, eqb-false}
use lib.Dec.{eqb}
use lib.ListN.{length}
use Rattle.laws.specs.Walk.{All}
use Rattle.laws.proofs.Booleans.{differ}
use Rattle.paper_decay.specs.declared.types.Scan.{Scan}
use Rattle.paper_decay.specs.Characters.{is_type}
use Rattle.paper_decay.specs.Scan.{standing, fresh, nowhere, to_if, number_whole, type_step, is_empty, place_step}
use Rattle.paper_decay.specs.Scan.{field_step, is_whole, step_of}
use Rattle.paper_decay.specs.Numerals.{Numeral, number_from}
use Rattle.paper_decay.specs.Code.{OneType, Slashed}
use Rattle.paper_decay.proofs.Numerals.{numeral-exactly}
use Rattle.paper_decay.proofs.Cuts.{Stops, Blank, all_map}
use Rattle.paper_decay.proofs.Inside.{Inside, numeral-inside, type-inside}
use Rattle.paper_decay.proofs.Words.{NoSlash, numeral-solid, type-solid}
use Rattle.paper_decay.proofs.Steps.{steps, nowhere-stays, nowhere-steps, Inner, Field, step_field, step-place}
use Rattle.paper_decay.proofs.Reading.{Passed, Numbers, held, word-steps, held_whole, slash-held}
use Rattle.paper_decay.proofs.Slashes.{Clean, Opens, nowhere-whole, words-exactly}

inner_of : (b : ℕ) → Inside b → Inner b
inner_of b h = h.1

-- ---- the abundance

all-passed : (w : List ℕ) → All (Passed 4) w
all-passed [] = tt
all-passed (b ∷ w) = (λ e. refl, all-passed w)

abundance-fold : (w : List ℕ) (filled : Bool) → All Inner w → Stops Blank w
    → is_whole (steps (fresh 4 filled) w) ≡ number_whole (number_from 0 0 w)
abundance-fold w filled i st =
    ap is_whole (word-steps w 4 false filled (omega arith, omega arith) i (all-passed w) (inl st))
    ∙ held_whole 4 (number_from 0 0 w) (length w) false filled (omega arith, omega arith)

pub abundance-exactly : (w : List ℕ) (filled : Bool) → All Inner w → Stops Blank w
    → (is_whole (steps (fresh 4 filled) w) ≡ true) ↔ Numeral w
abundance-exactly w filled i st =
    let f = abundance-fold w filled i st in
    (λ e. (numeral-exactly w).0 (sym f ∙ e), λ n. f ∙ (numeral-exactly w).1 n)

-- ---- energies

abbrev one_number : List ℕ → Bool
one_number w = number_whole (number_from 0 0 w)

three : Numbers 3
three = (omega arith, omega arith)

word_of : (w : List ℕ) (again filled : Bool) → Clean w → Opens w again
    → steps (standing 3 0 0 again filled) w ≡ held 3 (number_from 0 0 w) (length w) again filled
word_of w again filled c o =
    word-steps w 3 again filled three c.0 (all_map NoSlash (Passed 3) w (λ b h e. absurd (h e)) c.1) o

number-ends : (w : List ℕ) (again filled : Bool) → Clean w → Opens w again
    → is_whole (steps (standing 3 0 0 again filled) w) ≡ one_number w
number-ends w again filled c o =
    ap is_whole (word_of w again filled c o) ∙ held_whole 3 (number_from 0 0 w) (length w) again filled three

number-slash : (w : List ℕ) (again filled : Bool) → Clean w → Opens w again
    → step_of (steps (standing 3 0 0 again filled) w) 47 ≡ to_if (one_number w) (standing 3 0 0 true filled)
number-slash w again filled c o =
    ap (λ (s : Scan). step_of s 47) (word_of w again filled c o) ∙ slash-held (number_from 0 0 w) (length w) again filled

number-tidy : (w : List ℕ) → Numeral w → Clean w
number-tidy w n = (all_map Inside Inner w inner_of (numeral-inside w n), (numeral-solid w n).0)

pub energies-exactly : (l : List ℕ) (filled : Bool) → All Inner l → Stops Blank l
    → (is_whole (steps (fresh 3 filled) l) ≡ true) ↔ Slashed Numeral l
energies-exactly l filled i st =
    words-exactly 3 one_number number-ends number-slash Numeral (λ w e. (numeral-exactly w).0 e)
    (λ w n. (numeral-exactly w).1 n) number-tidy l filled i st

-- ---- types

abbrev all_types : List ℕ → Bool
all_types [] = true
all_types (b ∷ w) = cond (is_type b) (all_types w) false

abbrev one_type : List ℕ → Bool
one_type [] = false
one_type (b ∷ w) = all_types (b ∷ w)

two : Field 2
two = (omega arith, omega arith)

blank-type : is_type 32 ≡ false
unfolding is_type
blank-type = refl

slash-type : is_type 47 ≡ false
unfolding is_type
slash-type = refl

-- a blank leads on only where the field begins
blank-nowhere : (s : Scan) → s.place ≡ 2 → is_empty s ≡ false → step_of s 32 ≡ nowhere
unfolding field_step
blank-nowhere s e k = step_field s 32 2 two e (λ z. omega arith, λ z. omega arith) ∙ rw k refl

begun : (again filled : Bool) → is_empty (standing 2 1 0 again filled) ≡ false
unfolding is_empty
begun true filled = refl
begun false filled = refl

behind-slash : (again filled : Bool) → again ≡ true → is_empty (standing 2 0 0 again filled) ≡ false
unfolding is_empty
behind-slash again filled e = rw e refl

type-on-place : (b : ℕ) (again filled : Bool) → NoSlash b
    → place_step (standing 2 1 0 again filled) b ≡ to_if (is_type b) (standing 2 1 0 again filled)
unfolding place_step type_step
type-on-place b again filled h = rw (ne_eqb b 47 h) refl

type-first-place : (b : ℕ) (again filled : Bool)
    → place_step (standing 2 0 0 again filled) b ≡ to_if (is_type b) (standing 2 1 0 again filled)
unfolding place_step type_step
type-first-place b again filled = refl

type-on : (b : ℕ) (again filled : Bool) → Inner b → NoSlash b
    → step_of (standing 2 1 0 again filled) b ≡ to_if (is_type b) (standing 2 1 0 again filled)
type-on b again filled i h = by_blank (eqb b 32) refl
  where
    by_blank : (t : Bool) → eqb b 32 ≡ t
        → step_of (standing 2 1 0 again filled) b ≡ to_if (is_type b) (standing 2 1 0 again filled)
    by_blank true e =
        let z : b ≡ 32 = eqb-true b 32 e in
        rw (z, blank-type) (blank-nowhere (standing 2 1 0 again filled) refl (begun again filled))
    by_blank false e =
        step-place (standing 2 1 0 again filled) b 2 two refl i (eqb-false b 32 e) ∙ type-on-place b again filled h

pub type-first : (b : ℕ) (again filled : Bool) → Inner b → (b ≡ 32 → again ≡ true)
    → step_of (standing 2 0 0 again filled) b ≡ to_if (is_type b) (standing 2 1 0 again filled)
type-first b again filled i o = by_blank (eqb b 32) refl
  where
    by_blank : (t : Bool) → eqb b 32 ≡ t
        → step_of (standing 2 0 0 again filled) b ≡ to_if (is_type b) (standing 2 1 0 again filled)
    by_blank true e =
        let z : b ≡ 32 = eqb-true b 32 e in
        let k = behind-slash again filled (o z) in
        rw (z, blank-type) (blank-nowhere (standing 2 0 0 again filled) refl k)
    by_blank false e =
        step-place (standing 2 0 0 again filled) b 2 two refl i (eqb-false b 32 e) ∙ type-first-place b again filled

type-steps : (w : List ℕ) (again filled : Bool) → All Inner w → All NoSlash w
    → steps (standing 2 1 0 again filled) w ≡ to_if (all_types w) (standing 2 1 0 again filled)
unfolding steps
type-steps [] again filled i h = refl
type-steps (b ∷ w) again filled i h =
    ap (λ (s : Scan). steps s w) (type-on b again filled i.0 h.0)
    ∙ by-type (is_type b) (type-steps w again filled i.1 h.1)
  where
    by-type : (t : Bool) → steps (standing 2 1 0 again filled) w ≡ to_if (all_types w) (standing 2 1 0 again filled)
        → steps (to_if t (standing 2 1 0 again filled)) w ≡ to_if (cond t (all_types w) false) (standing 2 1 0 again filled)
    by-type true r = r
    by-type false r = nowhere-steps w

type-word : (b : ℕ) (w : List ℕ) (again filled : Bool) → Clean (b ∷ w) → Opens (b ∷ w) again
    → steps (standing 2 0 0 again filled) (b ∷ w) ≡ to_if (all_types (b ∷ w)) (standing 2 1 0 again filled)
unfolding steps
type-word b w again filled c o =
    ap (λ (s : Scan). steps s w) (type-first b again filled c.0.0 (by-open o))
    ∙ by-type (is_type b)
  where
    by-open : Opens (b ∷ w) again → b ≡ 32 → again ≡ true
    by-open (inl s) z = absurd (s z)
    by-open (inr e) z = e

    by-type : (t : Bool)
        → steps (to_if t (standing 2 1 0 again filled)) w ≡ to_if (cond t (all_types w) false) (standing 2 1 0 again filled)
    by-type true = type-steps w again filled c.0.1 c.1.1
    by-type false = nowhere-steps w

pub if-whole : (t again filled : Bool) → is_whole (to_if t (standing 2 1 0 again filled)) ≡ t
unfolding is_whole
if-whole true again filled = refl
if-whole false again filled = nowhere-whole

none-whole : (again filled : Bool) → is_whole (standing 2 0 0 again filled) ≡ false
unfolding is_whole
none-whole again filled = refl

type-ends : (w : List ℕ) (again filled : Bool) → Clean w → Opens w again
    → is_whole (steps (standing 2 0 0 again filled) w) ≡ one_type w
unfolding steps
type-ends [] again filled c o = none-whole again filled
type-ends (b ∷ w) again filled c o =
    ap is_whole (type-word b w again filled c o) ∙ if-whole (all_types (b ∷ w)) again filled

slash-place : (inner : ℕ) (again filled : Bool)
    → step_of (standing 2 inner 0 again filled) 47 ≡ place_step (standing 2 inner 0 again filled) 47
slash-place inner again filled =
    step-place (standing 2 inner 0 again filled) 47 2 two refl (λ z. omega arith, λ z. omega arith) (λ z. omega arith)

slash-one : (again filled : Bool) → step_of (standing 2 1 0 again filled) 47 ≡ standing 2 0 0 true filled
unfolding place_step type_step
slash-one again filled = slash-place 1 again filled ∙ rw slash-type refl

slash-zero : (again filled : Bool) → step_of (standing 2 0 0 again filled) 47 ≡ nowhere
unfolding place_step type_step
slash-zero again filled = slash-place 0 again filled ∙ rw slash-type refl

slash-if : (t again filled : Bool) → step_of (to_if t (standing 2 1 0 again filled)) 47 ≡ to_if t (standing 2 0 0 true filled)
slash-if true again filled = slash-one again filled
slash-if false again filled = nowhere-stays 47

type-slash : (w : List ℕ) (again filled : Bool) → Clean w → Opens w again
    → step_of (steps (standing 2 0 0 again filled) w) 47 ≡ to_if (one_type w) (standing 2 0 0 true filled)
unfolding steps
type-slash [] again filled c o = slash-zero again filled
type-slash (b ∷ w) again filled c o =
    ap (λ (s : Scan). step_of s 47) (type-word b w again filled c o) ∙ slash-if (all_types (b ∷ w)) again filled

types-all : (w : List ℕ) → all_types w ≡ true → All (λ b. is_type b ≡ true) w
types-all [] e = tt
types-all (b ∷ w) e = by-type (types-all w) (is_type b) refl e
  where
    by-type : (all_types w ≡ true → All (λ c. is_type c ≡ true) w) → (t : Bool) → is_type b ≡ t
        → cond t (all_types w) false ≡ true → All (λ c. is_type c ≡ true) (b ∷ w)
    by-type r true h f = (h, r f)
    by-type r false h f = differ (sym f)

all_types_lem : (w : List ℕ) → All (λ b. is_type b ≡ true) w → all_types w ≡ true
all_types_lem [] h = refl
all_types_lem (b ∷ w) h = rw h.0 (all_types_lem w h.1)

type-yes : (w : List ℕ) → one_type w ≡ true → OneType w
type-yes [] e = differ (sym e)
type-yes (b ∷ w) e = (types-all (b ∷ w) e, omega arith)

type-back : (w : List ℕ) → OneType w → one_type w ≡ true
type-back [] h = absurd (omega (arith, h.1))
type-back (b ∷ w) h = all_types_lem (b ∷ w) h.0

type-tidy : (w : List ℕ) → OneType w → Clean w
type-tidy w h =
    (all_map (λ b. is_type b ≡ true) Inner w (λ b k. inner_of b (type-inside b k)) h.0, (type-solid w h).0)

pub types-exactly : (l : List ℕ) (filled : Bool) → All Inner l → Stops Blank l
    → (is_whole (steps (fresh 2 filled) l) ≡ true) ↔ Slashed OneType l
types-exactly l filled i st =
    words-exactly 2 one_type type-ends type-slash OneType type-yes type-back type-tidy l filled i st
