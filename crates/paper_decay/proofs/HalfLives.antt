-- The half-life's place: the scan may end it exactly where a number and a unit stand in it.
-- Assumes nothing.
use mathlib.Core.Path.{◌≡◌, refl, sym, ap, ◌∙◌, subst}
use mathlib.Core.Bool.{Bool, true, false, cond}
use mathlib.Core.List.{List, [], ◌∷◌, ◌++◌}
use mathlib.Core.Logic.{◌⊎◌, inl, inr, ◌↔◌}
use Prim.Native.Nat.{ℕ, ◌+◌, ◌<◌, ◌≤◌}
use native.Mathlib.Omega.{arith}
use borrow.Author.Tests.{ne_eqb, eqb-true, eqb-false, lt-ltb, le-ltb, ltb-true, ltb-false}
use lib.Dec.{eqb, ltb}
use lib.ListN.{length}
use Rattle.laws.specs.Walk.{All}
use Rattle.laws.proofs.Booleans.{differ}
use Rattle.paper_number.specs.Form.{place_number}
use Rattle.paper_number.specs.Reading as R
use Rattle.paper_number.specs.Reading.{Kind, Column, column_of, scan_step, Lead, Signed, Whole, Point, Fraction, Gap, Mark}
use Rattle.paper_number.specs.Reading.{MarkGap, PowerSign, Power, Bad}
use Rattle.paper_number.proofs.Bytes.{Seen, a_blank, a_digit, a_point, a-sign, a-mark, no_such, seen}
use Rattle.paper_record.specs.Text.{is_capital}
use Rattle.paper_record.proofs.Within.{within-bounds}
use Rattle.paper_decay.specs.declared.types.Scan.{Scan}
use Rattle.paper_decay.specs.Scan.{fresh, nowhere, number_more, number_next, number_whole, half, unit_step, mark_step}
use Rattle.paper_decay.specs.Scan.{behind_number, half_number_step, half_step, is_empty, place_step, field_step, is_whole, step_of}
use Rattle.paper_decay.specs.Numerals.{Numeral, number_from}
use Rattle.paper_decay.specs.Code.{Capital, GoodUnit, HalfLife}
use Rattle.paper_decay.proofs.Numerals.{place-small, by_kind, step, NoGap, goes_on, led, stuck-from, numeral-exactly}
use Rattle.paper_decay.proofs.Cuts.{Stops, Blank, all_map}
use Rattle.paper_decay.proofs.Inside.{Inside, numeral-inside, capital-inside}
use Rattle.paper_decay.proofs.Words.{sign_low}
use Rattle.paper_decay.proofs.Steps.{steps, steps-append, nowhere-steps, Inner, Field, step_field, step-place}
use Rattle.paper_decay.proofs.Reading.{roomy, counted-open}
use Rattle.paper_decay.proofs.Slashes.{nowhere-whole}

-- the scan's place for a place of the number's reading: 11 where an E may be the unit's
abbrev shown : ℕ → ℕ
shown inner = cond (eqb inner 6) 11 inner

abbrev placed : ℕ → ℕ → Scan
placed inner count = half (shown inner) count

one : Field 1
one = (omega arith, omega arith)

-- ---- capitals in a number

-- a capital is an E, or no character of numbers
abbrev Capped : Kind → Type 0
Capped R.blank = ⊥
Capped R.digit = ⊥
Capped R.point = ⊥
Capped R.sign = ⊥
Capped R.mark = Unit {0}
Capped R.other = Unit {0}

low-not : {X : Type 0} (b : ℕ) → Capital b → b < 65 → X
low-not b h l = let k = (within-bounds 65 90 b h).0 in absurd (omega arith)

capped : (b : ℕ) → Capital b → Capped (column_of b).kind
capped b h = by-seen (seen b)
  where
    by-seen : Seen b → Capped (column_of b).kind
    by-seen (a_blank e) = low-not b h (omega arith)
    by-seen (a_digit d n e k) = low-not b h (omega arith)
    by-seen (a_point e) = low-not b h (omega arith)
    by-seen (a-sign g e k) = low-not b h (sign_low g b e)
    by-seen (a-mark e) = rw e tt
    by-seen (no_such k) = rw k tt

-- it leads to the E's place, or nowhere
abbrev CapGoes : R.Scan → ℕ → Bool → Kind → Type 0
CapGoes t v m k = Capped k → NoGap t → (step t k v m ≡ 6) ⊎ (step t k v m ≡ 10)

cap-goes : (t : R.Scan) (k : Kind) (v : ℕ) (m : Bool) → CapGoes t v m k
cap-goes Lead k v m =
    by_kind (CapGoes Lead v m) k (λ p. absurd p) (λ p. absurd p) (λ p. absurd p) (λ p. absurd p) (λ p g. inr refl) (λ p g. inr refl)
cap-goes (Signed n) k v m =
    by_kind (CapGoes (Signed n) v m) k (λ p. absurd p) (λ p. absurd p) (λ p. absurd p) (λ p. absurd p) (λ p g. inr refl)
    (λ p g. inr refl)
cap-goes (Whole n c) k v m =
    by_kind (CapGoes (Whole n c) v m) k (λ p. absurd p) (λ p. absurd p) (λ p. absurd p) (λ p. absurd p) (λ p g. inr refl)
    (λ p g. inr refl)
cap-goes (Point n) k v m =
    by_kind (CapGoes (Point n) v m) k (λ p. absurd p) (λ p. absurd p) (λ p. absurd p) (λ p. absurd p) (λ p g. inr refl)
    (λ p g. inr refl)
cap-goes (Fraction x) k v m =
    by_kind (CapGoes (Fraction x) v m) k (λ p. absurd p) (λ p. absurd p) (λ p. absurd p) (λ p. absurd p) (λ p g. inl refl)
    (λ p g. inr refl)
cap-goes (Gap x) k v m = λ p g. absurd g
cap-goes (Mark x) k v m =
    by_kind (CapGoes (Mark x) v m) k (λ p. absurd p) (λ p. absurd p) (λ p. absurd p) (λ p. absurd p) (λ p g. inr refl)
    (λ p g. inr refl)
cap-goes (MarkGap x) k v m = λ p g. absurd g
cap-goes (PowerSign x s) k v m =
    by_kind (CapGoes (PowerSign x s) v m) k (λ p. absurd p) (λ p. absurd p) (λ p. absurd p) (λ p. absurd p) (λ p g. inr refl)
    (λ p g. inr refl)
cap-goes (Power x s e) k v m =
    by_kind (CapGoes (Power x s e) v m) k (λ p. absurd p) (λ p. absurd p) (λ p. absurd p) (λ p. absurd p) (λ p g. inr refl)
    (λ p g. inr refl)
cap-goes Bad k v m = λ p g. inr refl

cap-at : (t : R.Scan) (b : ℕ) → Capital b → NoGap t
    → (place_number (scan_step t (column_of b)) ≡ 6) ⊎ (place_number (scan_step t (column_of b)) ≡ 10)
cap-at t b h g = cap-goes t (column_of b).kind (column_of b).value (column_of b).minus (capped b h) g

-- only an E leads to its place, and only where a number may end
abbrev IsMark : Kind → Type 0
IsMark R.blank = ⊥
IsMark R.digit = ⊥
IsMark R.point = ⊥
IsMark R.sign = ⊥
IsMark R.mark = Unit {0}
IsMark R.other = ⊥

abbrev Six : R.Scan → ℕ → Bool → Kind → Type 0
Six t v m k = NoGap t → step t k v m ≡ 6 → (number_whole (place_number t) ≡ true) × IsMark k

six : (t : R.Scan) (k : Kind) (v : ℕ) (m : Bool) → Six t v m k
unfolding number_whole
six Lead k v m =
    by_kind (Six Lead v m) k (λ g e. absurd (omega (arith, e))) (λ g e. absurd (omega (arith, e)))
    (λ g e. absurd (omega (arith, e))) (λ g e. absurd (omega (arith, e))) (λ g e. absurd (omega (arith, e)))
    (λ g e. absurd (omega (arith, e)))
six (Signed n) k v m =
    by_kind (Six (Signed n) v m) k (λ g e. absurd (omega (arith, e))) (λ g e. absurd (omega (arith, e)))
    (λ g e. absurd (omega (arith, e))) (λ g e. absurd (omega (arith, e))) (λ g e. absurd (omega (arith, e)))
    (λ g e. absurd (omega (arith, e)))
six (Whole n c) k v m =
    by_kind (Six (Whole n c) v m) k (λ g e. absurd (omega (arith, e))) (λ g e. absurd (omega (arith, e)))
    (λ g e. absurd (omega (arith, e))) (λ g e. absurd (omega (arith, e))) (λ g e. absurd (omega (arith, e)))
    (λ g e. absurd (omega (arith, e)))
six (Point n) k v m =
    by_kind (Six (Point n) v m) k (λ g e. absurd (omega (arith, e))) (λ g e. absurd (omega (arith, e)))
    (λ g e. absurd (omega (arith, e))) (λ g e. absurd (omega (arith, e))) (λ g e. absurd (omega (arith, e)))
    (λ g e. absurd (omega (arith, e)))
six (Fraction x) k v m =
    by_kind (Six (Fraction x) v m) k (λ g e. absurd (omega (arith, e))) (λ g e. absurd (omega (arith, e)))
    (λ g e. absurd (omega (arith, e))) (λ g e. absurd (omega (arith, e))) (λ g e. (refl, tt))
    (λ g e. absurd (omega (arith, e)))
six (Gap x) k v m = λ g e. absurd g
six (Mark x) k v m =
    by_kind (Six (Mark x) v m) k (λ g e. absurd (omega (arith, e))) (λ g e. absurd (omega (arith, e)))
    (λ g e. absurd (omega (arith, e))) (λ g e. absurd (omega (arith, e))) (λ g e. absurd (omega (arith, e)))
    (λ g e. absurd (omega (arith, e)))
six (MarkGap x) k v m = λ g e. absurd g
six (PowerSign x s) k v m =
    by_kind (Six (PowerSign x s) v m) k (λ g e. absurd (omega (arith, e))) (λ g e. absurd (omega (arith, e)))
    (λ g e. absurd (omega (arith, e))) (λ g e. absurd (omega (arith, e))) (λ g e. absurd (omega (arith, e)))
    (λ g e. absurd (omega (arith, e)))
six (Power x s p) k v m =
    by_kind (Six (Power x s p) v m) k (λ g e. absurd (omega (arith, e))) (λ g e. absurd (omega (arith, e)))
    (λ g e. absurd (omega (arith, e))) (λ g e. absurd (omega (arith, e))) (λ g e. absurd (omega (arith, e)))
    (λ g e. absurd (omega (arith, e)))
six Bad k v m = λ g e. absurd (omega (arith, e))

mark-capital : (b : ℕ) → IsMark (column_of b).kind → Capital b
mark-capital b h = by-seen (seen b)
  where
    by-seen : Seen b → Capital b
    by-seen (a_blank e) = absurd (subst (λ (k : ℕ). IsMark (column_of k).kind) e h)
    by-seen (a_digit d n e k) = absurd (subst (λ (c : Column). IsMark c.kind) k h)
    by-seen (a_point e) = absurd (subst (λ (k : ℕ). IsMark (column_of k).kind) e h)
    by-seen (a-sign g e k) = absurd (subst (λ (c : Column). IsMark c.kind) k h)
    by-seen (a-mark e) = rw e refl
    by-seen (no_such k) = absurd (subst (λ (c : Column). IsMark c.kind) k h)

six-at : (t : R.Scan) (b : ℕ) → NoGap t → place_number (scan_step t (column_of b)) ≡ 6
    → (number_whole (place_number t) ≡ true) × Capital b
six-at t b g e =
    let (w, m) = six t (column_of b).kind (column_of b).value (column_of b).minus g e in
    (w, mark-capital b m)

-- ---- one step, by its tests

pub step-half : (inner count b : ℕ) → Inner b → (b ≡ 32 → ⊥) → step_of (half inner count) b ≡ half_step inner count b
unfolding place_step
step-half inner count b i h = step-place (half inner count) b 1 one refl i h

blank-half : (inner count : ℕ) → is_empty (half inner count) ≡ false → step_of (half inner count) 32 ≡ nowhere
unfolding field_step
blank-half inner count k = step_field (half inner count) 32 1 one refl (λ z. omega arith, λ z. omega arith) ∙ rw k refl

mark-yes : (count b : ℕ) → Capital b → half_step 11 count b ≡ half 12 2
unfolding half_step mark_step
mark-yes count b c = rw c refl

mark-no : (count b : ℕ) → is_capital b ≡ false → half_step 11 count b ≡ number_more 1 (number_next 6 count b) count false false
unfolding half_step mark_step
mark-no count b c = rw c refl

unit-yes : (count b : ℕ) → Capital b → count < 10 → half_step 12 count b ≡ half 12 (count + 1)
unfolding half_step unit_step
unit-yes count b c h = rw (c, lt-ltb count 10 h) refl

unit-full : (count b : ℕ) → Capital b → 10 ≤ count → half_step 12 count b ≡ nowhere
unfolding half_step unit_step
unit-full count b c h = rw (c, le-ltb count 10 h) refl

unit-no : (count b : ℕ) → is_capital b ≡ false → half_step 12 count b ≡ nowhere
unfolding half_step unit_step
unit-no count b c = rw c refl

module _ (inner count b : ℕ) (small : inner < 11) where
  in-number : half_step inner count b ≡ half_number_step inner count b
  unfolding half_step
  in-number = rw (ne_eqb inner 12 (λ z. omega arith), ne_eqb inner 11 (λ z. omega arith)) refl

  pub plain-no : number_whole inner ≡ false → half_step inner count b ≡ number_more 1 (number_next inner count b) count false false
  unfolding half_number_step
  plain-no w = in-number ∙ rw w refl

  plain-six : number_whole inner ≡ true → number_next inner count b ≡ 6
      → half_step inner count b ≡ number_more 1 11 count false false
  unfolding half_number_step behind_number
  plain-six w e = in-number ∙ rw (w, e) refl

  pub plain-cap : number_whole inner ≡ true → (number_next inner count b ≡ 6 → ⊥) → Capital b → half_step inner count b ≡ half 12 1
  unfolding half_number_step behind_number
  plain-cap w s c = in-number ∙ rw (w, ne_eqb (number_next inner count b) 6 s, c) refl

  plain_other : number_whole inner ≡ true → (number_next inner count b ≡ 6 → ⊥) → is_capital b ≡ false
      → half_step inner count b ≡ number_more 1 (number_next inner count b) count false false
  unfolding half_number_step behind_number
  plain_other w s c = in-number ∙ rw (w, ne_eqb (number_next inner count b) 6 s, c) refl

pub more-half : (next count : ℕ) → (next ≡ 10 → ⊥) → count ≤ 10 → number_more 1 next count false false ≡ half next (count + 1)
unfolding number_more
more-half next count h r = rw (ne_eqb next 10 h, lt-ltb count 11 (omega arith)) refl

at_other : (next count : ℕ) → (next ≡ 6 → ⊥) → half next count ≡ placed next count
at_other next count h = rw (ne_eqb next 6 h) refl

shown-six : (inner count b : ℕ) → inner ≡ 6 → half_step (shown inner) count b ≡ half_step 11 count b
shown-six inner count b z = ap (λ (k : ℕ). half_step (shown k) count b) z

shown-other : (inner count b : ℕ) → (inner ≡ 6 → ⊥) → half_step (shown inner) count b ≡ half_step inner count b
shown-other inner count b h = ap (λ (t : Bool). half_step (cond t 11 inner) count b) (ne_eqb inner 6 h)

six-unwhole : {X : Type 0} → number_whole 6 ≡ true → X
unfolding number_whole
six-unwhole e = differ (sym e)

-- ---- over a number

-- a character of the number
on-pure : (inner count b next : ℕ) → number_next inner count b ≡ next → inner < 11 → (next ≡ 10 → ⊥) → count ≤ 10
    → (next ≡ 6 → number_whole inner ≡ true) → ((next ≡ 6 → ⊥) → is_capital b ≡ false)
    → half_step (shown inner) count b ≡ placed next (count + 1)
on-pure inner count b next e small h r s c = by-six (eqb inner 6) refl (eqb next 6) refl (number_whole inner) refl
  where
    plain : (next ≡ 6 → ⊥) → number_more 1 (number_next inner count b) count false false ≡ placed next (count + 1)
    plain n =
        ap (λ (k : ℕ). number_more 1 k count false false) e ∙ more-half next count h r ∙ at_other next (count + 1) n

    by-six : (p : Bool) → eqb inner 6 ≡ p → (q : Bool) → eqb next 6 ≡ q → (w : Bool) → number_whole inner ≡ w
        → half_step (shown inner) count b ≡ placed next (count + 1)
    by-six true f q g w k =
        let z : inner ≡ 6 = eqb-true inner 6 f in
        let n : next ≡ 6 → ⊥ = λ y. six-unwhole (ap number_whole (sym z) ∙ s y) in
        shown-six inner count b z ∙ mark-no count b (c n)
        ∙ ap (λ (k : ℕ). number_more 1 (number_next k count b) count false false) (sym z) ∙ plain n
    by-six false f true g w k =
        let y : next ≡ 6 = eqb-true next 6 g in
        shown-other inner count b (eqb-false inner 6 f) ∙ plain-six inner count b small (s y) (e ∙ y)
        ∙ more-half 11 count (λ z. omega arith) r
        ∙ ap (λ (k : ℕ). placed k (count + 1)) (sym y)
    by-six false f false g true k =
        let n = eqb-false next 6 g in
        shown-other inner count b (eqb-false inner 6 f)
        ∙ plain_other inner count b small k (λ y. n (sym e ∙ y)) (c n) ∙ plain n
    by-six false f false g false k =
        shown-other inner count b (eqb-false inner 6 f) ∙ plain-no inner count b small k ∙ plain (eqb-false next 6 g)

no-capital : (t : R.Scan) (count b : ℕ) → NoGap t → (number_next (place_number t) count b ≡ 10 → ⊥)
    → (number_next (place_number t) count b ≡ 6 → ⊥) → is_capital b ≡ false
no-capital t count b g h s = by-capital (is_capital b) refl
  where
    by-capital : (p : Bool) → is_capital b ≡ p → p ≡ false
    by-capital false e = refl
    by-capital true e = by_place (cap-at t b e g)
      where
        by_place : (place_number (scan_step t (column_of b)) ≡ 6) ⊎ (place_number (scan_step t (column_of b)) ≡ 10) → true ≡ false
        by_place (inl z) = absurd (s ((led t count b h).same_place ∙ z))
        by_place (inr z) = absurd (h ((led t count b h).same_place ∙ z))

half-on : (t : R.Scan) (count b : ℕ) → NoGap t → Inner b → (number_next (place_number t) count b ≡ 10 → ⊥)
    → step_of (placed (place_number t) count) b ≡ placed (number_next (place_number t) count b) (count + 1)
half-on t count b g i h =
    let k = led t count b h in
    step-half (shown (place_number t)) count b i k.filled
    ∙ on-pure (place_number t) count b (number_next (place_number t) count b) refl (place-small t) h k.room
    (λ y. (six-at t b g (sym k.same_place ∙ y)).0) (no-capital t count b g h)

half-steps : (l : List ℕ) (t : R.Scan) (count : ℕ) → NoGap t → All Inner l
    → (number_from (place_number t) count l ≡ 10 → ⊥)
    → steps (placed (place_number t) count) l ≡ placed (number_from (place_number t) count l) (count + length l)
unfolding steps number_from
half-steps [] t count g i h = ap (λ (k : ℕ). placed (place_number t) k) (omega arith)
half-steps (b ∷ l) t count g i h =
    let x = number_next (place_number t) count b in
    let u = scan_step t (column_of b) in
    let nx : x ≡ 10 → ⊥ = λ z. h (ap (λ (y : ℕ). number_from y (count + 1) l) z ∙ stuck-from l (count + 1)) in
    let k = led t count b nx in
    let q : x ≡ place_number u = k.same_place in
    let r = half-steps l u (count + 1) (goes_on t b k.filled g).0 i.1
    (λ z. h (ap (λ (y : ℕ). number_from y (count + 1) l) q ∙ z)) in
    ap (λ (s : Scan). steps s l) (half-on t count b g i.0 nx ∙ ap (λ (y : ℕ). placed y (count + 1)) q)
    ∙ r
    ∙ ap (λ (y : ℕ). placed (number_from y (count + 1) l) (count + 1 + length l)) (sym q)
    ∙ ap (λ (m : ℕ). placed (number_from x (count + 1) l) m) (omega arith)

-- ---- over a unit

capital-inner : (b : ℕ) → Capital b → Inner b
capital-inner b h = (capital-inside b h).1

unit-steps : (u : List ℕ) (count : ℕ) → All Capital u → count + length u ≤ 10
    → steps (half 12 count) u ≡ half 12 (count + length u)
unfolding steps
unit-steps [] count h r = ap (λ (k : ℕ). half 12 k) (omega arith)
unit-steps (b ∷ u) count h r =
    ap (λ (s : Scan). steps s u)
    (step-half 12 count b (capital-inner b h.0) (capital-inside b h.0).0 ∙ unit-yes count b h.0 (omega arith))
    ∙ unit-steps u (count + 1) h.1 (omega arith)
    ∙ ap (λ (k : ℕ). half 12 k) (omega arith)

pub in-unit-whole : (count : ℕ) → is_whole (half 12 count) ≡ true
unfolding is_whole
in-unit-whole count = refl

pub at-mark-whole : (count : ℕ) → is_whole (half 11 count) ≡ true
unfolding is_whole
at-mark-whole count = refl

mark-ends : (u : List ℕ) (count : ℕ) → All Capital u → length u ≤ 9 → is_whole (steps (half 11 count) u) ≡ true
unfolding steps
mark-ends [] count h r = at-mark-whole count
mark-ends (b ∷ u) count h r =
    ap (λ (s : Scan). is_whole (steps s u))
    (step-half 11 count b (capital-inner b h.0) (capital-inside b h.0).0 ∙ mark-yes count b h.0)
    ∙ ap is_whole (unit-steps u 2 h.1 (omega arith))
    ∙ in-unit-whole (2 + length u)

unit-first : (inner count b : ℕ) → number_whole inner ≡ true → inner < 11 → Capital b
    → (step_of (half inner count) b ≡ half 12 1) ⊎ (step_of (half inner count) b ≡ half 11 (count + 1))
unit-first inner count b w small c = by-six (eqb (number_next inner count b) 6) refl
  where
    q : step_of (half inner count) b ≡ half_step inner count b
    q = step-half inner count b (capital-inner b c) (capital-inside b c).0

    by-six : (p : Bool) → eqb (number_next inner count b) 6 ≡ p
        → (step_of (half inner count) b ≡ half 12 1) ⊎ (step_of (half inner count) b ≡ half 11 (count + 1))
    by-six true e =
        let z : number_next inner count b ≡ 6 = eqb-true (number_next inner count b) 6 e in
        let r = (roomy inner count b (λ y. omega arith)).1 in
        inr (q ∙ plain-six inner count b small w z ∙ more-half 11 count (λ y. omega arith) r)
    by-six false e = inl (q ∙ plain-cap inner count b small w (eqb-false (number_next inner count b) 6 e) c)

unit_ends : (u : List ℕ) (inner count : ℕ) → GoodUnit u → number_whole inner ≡ true → inner < 11
    → is_whole (steps (half inner count) u) ≡ true
unfolding steps
unit_ends [] inner count g w small = absurd (omega (arith, g.some))
unit_ends (b ∷ u) inner count g w small = by_first (unit-first inner count b w small g.capitals.0)
  where
    by_first : (step_of (half inner count) b ≡ half 12 1) ⊎ (step_of (half inner count) b ≡ half 11 (count + 1))
        → is_whole (steps (step_of (half inner count) b) u) ≡ true
    by_first (inl e) =
        ap (λ (s : Scan). is_whole (steps s u)) e ∙ ap is_whole (unit-steps u 1 g.capitals.1 (omega (arith, g.few)))
        ∙ in-unit-whole (1 + length u)
    by_first (inr e) =
        ap (λ (s : Scan). is_whole (steps s u)) e ∙ mark-ends u (count + 1) g.capitals.1 (omega (arith, g.few))

-- a number may end at two places
whole-places : (inner : ℕ) → number_whole inner ≡ true → (inner ≡ 4) ⊎ (inner ≡ 9)
unfolding number_whole
whole-places inner e = by-four (eqb inner 4) refl e
  where
    by-four : (t : Bool) → eqb inner 4 ≡ t → cond t true (eqb inner 9) ≡ true → (inner ≡ 4) ⊎ (inner ≡ 9)
    by-four true f h = inl (eqb-true inner 4 f)
    by-four false f h = inr (eqb-true inner 9 h)

whole-small : (inner : ℕ) → (inner ≡ 4) ⊎ (inner ≡ 9) → (inner < 11) × ((inner ≡ 6 → ⊥) × (inner ≡ 10 → ⊥))
whole-small inner (inl z) = (omega arith, (λ y. omega arith, λ y. omega arith))
whole-small inner (inr z) = (omega arith, (λ y. omega arith, λ y. omega arith))

both-whole : (n u : List ℕ) → Numeral n → GoodUnit u → is_whole (steps (fresh 1 false) (n ++ u)) ≡ true
both-whole n u h g =
    let w : number_whole (number_from 0 0 n) ≡ true = (numeral-exactly n).1 h in
    let x = number_from 0 0 n in
    let (small, (s, ten)) = whole-small x (whole-places x w) in
    let i : All Inner n = all_map Inside Inner n (λ b k. k.1) (numeral-inside n h) in
    let r : steps (fresh 1 false) n ≡ half x (0 + length n) =
    half-steps n Lead 0 tt i ten ∙ sym (at_other x (0 + length n) s) in
    ap is_whole (steps-append n u (fresh 1 false)) ∙ ap (λ (k : Scan). is_whole (steps k u)) r
    ∙ unit_ends u x (0 + length n) g w small

half-whole : (l : List ℕ) → HalfLife l → is_whole (steps (fresh 1 false) l) ≡ true
half-whole l h =
    ap (λ (m : List ℕ). is_whole (steps (fresh 1 false) m)) (sym h.same) ∙ both-whole h.number h.unit h.numeral h.capitals

-- ---- and back

-- where a step leads nowhere, nothing is whole
lost : {X : Type 0} (s : Scan) (b : ℕ) (l : List ℕ) → step_of s b ≡ nowhere → is_whole (steps s (b ∷ l)) ≡ true → X
unfolding steps
lost s b l q e =
    differ (sym e ∙ ap (λ (t : Scan). is_whole (steps t l)) q ∙ ap is_whole (nowhere-steps l) ∙ nowhere-whole)

none : {X : Type 0} (l : List ℕ) → is_whole (steps nowhere l) ≡ true → X
none l e = differ (sym e ∙ ap is_whole (nowhere-steps l) ∙ nowhere-whole)

unit-sound : (u : List ℕ) (count : ℕ) → All Inner u → 1 ≤ count → count ≤ 10 → is_whole (steps (half 12 count) u) ≡ true
    → All Capital u × (count + length u ≤ 10)
unfolding steps
unit-sound [] count i c r e = (tt, omega arith)
unit-sound (b ∷ u) count i c r e =
    by_blank (λ m f. unit-sound u (count + 1) i.1 (omega arith) m f) (eqb b 32) refl (is_capital b) refl (ltb count 10) refl
  where
    by_blank : (count + 1 ≤ 10 → is_whole (steps (half 12 (count + 1)) u) ≡ true → All Capital u × (count + 1 + length u ≤ 10))
        → (p : Bool) → eqb b 32 ≡ p → (q : Bool) → is_capital b ≡ q → (w : Bool) → ltb count 10 ≡ w
        → All Capital (b ∷ u) × (count + length (b ∷ u) ≤ 10)
    by_blank ih true f q g w k =
        let z : b ≡ 32 = eqb-true b 32 f in
        lost (half 12 count) b u
        (ap (step_of (half 12 count)) z ∙ blank-half 12 count (counted-open 1 12 count false false c)) e
    by_blank ih false f false g w k =
        lost (half 12 count) b u (step-half 12 count b i.0 (eqb-false b 32 f) ∙ unit-no count b g) e
    by_blank ih false f true g false k =
        lost (half 12 count) b u
        (step-half 12 count b i.0 (eqb-false b 32 f) ∙ unit-full count b g (ltb-false count 10 k)) e
    by_blank ih false f true g true k =
        let m = ltb-true count 10 k in
        let x = step-half 12 count b i.0 (eqb-false b 32 f) ∙ unit-yes count b g m in
        let (caps, few) = ih (omega arith) (ap (λ (s : Scan). is_whole (steps s u)) (sym x) ∙ e) in
        ((g, caps), omega arith)

-- what is read from a place of the number's reading on
record Rest (inner count : ℕ) (l : List ℕ) : Type 0 where
  number : List ℕ
  unit : List ℕ
  capitals : GoodUnit unit
  whole : number_whole (number_from inner count number) ≡ true
  same : number ++ unit ≡ l

-- the rest of a unit that begins with the E
abbrev Caps : List ℕ → Type 0
Caps l = All Capital l × (length l ≤ 9)

abbrev Sound : ℕ → ℕ → List ℕ → Type 0
Sound inner count l = Rest inner count l ⊎ ((inner ≡ 6) × Caps l)

extend : (inner count b : ℕ) (l : List ℕ) → Rest (number_next inner count b) (count + 1) l → Rest inner count (b ∷ l)
unfolding number_from
extend inner count b l r =
    record {
      number = b ∷ r.number;
      unit = r.unit;
      capitals = r.capitals;
      whole = r.whole;
      same = ap (λ (m : List ℕ). b ∷ m) r.same;
    }

-- the unit begins here
begins : (inner count b : ℕ) (l : List ℕ) → number_whole inner ≡ true → Capital b → All Capital l → length l ≤ 9
    → Rest inner count (b ∷ l)
unfolding number_from
begins inner count b l w c h r =
    record {
      number = [];
      unit = b ∷ l;
      capitals = record { capitals = (c, h); some = omega arith; few = omega arith };
      whole = w;
      same = refl;
    }

module _ (inner count b : ℕ) (l : List ℕ) (small : inner < 11) (i : All Inner l)
    (s : number_next inner count b ≡ 6 → (number_whole inner ≡ true) × Capital b)
    (ih : (number_next inner count b ≡ 10 → ⊥) → is_whole (steps (placed (number_next inner count b) (count + 1)) l) ≡ true
    → Sound (number_next inner count b) (count + 1) l) where
  more-sound : (number_next inner count b ≡ 6 → ⊥)
      → is_whole (steps (number_more 1 (number_next inner count b) count false false) l) ≡ true → Rest inner count (b ∷ l)
  unfolding number_more
  more-sound n e = by_tests (eqb (number_next inner count b) 10) refl (ltb count 11) e
    where
      found : Sound (number_next inner count b) (count + 1) l → Rest inner count (b ∷ l)
      found (inl r) = extend inner count b l r
      found (inr (z, h)) = absurd (n z)

      by_tests : (p : Bool) → eqb (number_next inner count b) 10 ≡ p → (q : Bool)
          → is_whole (steps (cond p nowhere (cond q (half (number_next inner count b) (count + 1)) nowhere)) l) ≡ true
          → Rest inner count (b ∷ l)
      by_tests true f q h = none l h
      by_tests false f false h = none l h
      by_tests false f true h =
          found (ih (eqb-false (number_next inner count b) 10 f)
          (ap (λ (t : Scan). is_whole (steps t l)) (sym (at_other (number_next inner count b) (count + 1) n)) ∙ h))

  six-sound : number_whole inner ≡ true → number_next inner count b ≡ 6
      → is_whole (steps (number_more 1 11 count false false) l) ≡ true → Rest inner count (b ∷ l)
  unfolding number_more
  six-sound w z e = by-room (ltb count 11) e
    where
      found : Sound (number_next inner count b) (count + 1) l → Rest inner count (b ∷ l)
      found (inl r) = extend inner count b l r
      found (inr (y, h)) = begins inner count b l w (s z).1 h.0 h.1

      by-room : (q : Bool) → is_whole (steps (cond q (half 11 (count + 1)) nowhere) l) ≡ true → Rest inner count (b ∷ l)
      by-room false h = none l h
      by-room true h =
          found (ih (λ y. omega arith) (ap (λ (k : ℕ). is_whole (steps (placed k (count + 1)) l)) z ∙ h))

  sound-pure : is_whole (steps (half_step (shown inner) count b) l) ≡ true → Sound inner count (b ∷ l)
  sound-pure e = by-six (eqb inner 6) refl (is_capital b) refl (number_whole inner) refl (eqb (number_next inner count b) 6) refl
    where
      so : {x : Scan} → half_step (shown inner) count b ≡ x → is_whole (steps x l) ≡ true
      so q = ap (λ (t : Scan). is_whole (steps t l)) (sym q) ∙ e

      by-six : (p : Bool) → eqb inner 6 ≡ p → (c : Bool) → is_capital b ≡ c → (w : Bool) → number_whole inner ≡ w
          → (n : Bool) → eqb (number_next inner count b) 6 ≡ n → Sound inner count (b ∷ l)
      by-six true f true g w k n h =
          let z : inner ≡ 6 = eqb-true inner 6 f in
          let (caps, few) = unit-sound l 2 i (omega arith) (omega arith) (so (shown-six inner count b z ∙ mark-yes count b g)) in
          inr (z, ((g, caps), omega arith))
      by-six true f false g w k n h =
          let z : inner ≡ 6 = eqb-true inner 6 f in
          let m : number_next inner count b ≡ 6 → ⊥ = λ y. six-unwhole (ap number_whole (sym z) ∙ (s y).0) in
          inl (more-sound m (so (shown-six inner count b z ∙ mark-no count b g
          ∙ ap (λ (x : ℕ). number_more 1 (number_next x count b) count false false) (sym z))))
      by-six false f c g false k n h =
          let m : number_next inner count b ≡ 6 → ⊥ = λ y. differ (sym (s y).0 ∙ k) in
          inl (more-sound m (so (shown-other inner count b (eqb-false inner 6 f) ∙ plain-no inner count b small k)))
      by-six false f c g true k true h =
          let y = eqb-true (number_next inner count b) 6 h in
          inl (six-sound k y (so (shown-other inner count b (eqb-false inner 6 f) ∙ plain-six inner count b small k y)))
      by-six false f true g true k false h =
          let m = eqb-false (number_next inner count b) 6 h in
          let (caps, few) = unit-sound l 1 i (omega arith) (omega arith)
          (so (shown-other inner count b (eqb-false inner 6 f) ∙ plain-cap inner count b small k m g)) in
          inl (begins inner count b l k g caps (omega arith))
      by-six false f false g true k false h =
          let m = eqb-false (number_next inner count b) 6 h in
          inl (more-sound m (so (shown-other inner count b (eqb-false inner 6 f) ∙ plain_other inner count b small k m g)))

empty-unwhole : (inner count : ℕ) → inner < 11 → (inner ≡ 6 → ⊥) → is_whole (placed inner count) ≡ false
unfolding is_whole
empty-unwhole inner count small h = rw (ne_eqb inner 6 h) (le-ltb 10 inner (omega arith))

half-sound : (l : List ℕ) (t : R.Scan) (count : ℕ) → NoGap t → All Inner l → (1 ≤ count) ⊎ Stops Blank l
    → is_whole (steps (placed (place_number t) count) l) ≡ true → Sound (place_number t) count l
unfolding steps
half-sound [] t count g i o e = by-six (eqb (place_number t) 6) refl
  where
    by-six : (p : Bool) → eqb (place_number t) 6 ≡ p → Sound (place_number t) count []
    by-six true f = inr (eqb-true (place_number t) 6 f, (tt, omega arith))
    by-six false f =
        differ (sym e ∙ empty-unwhole (place_number t) count (place-small t) (eqb-false (place_number t) 6 f))
half-sound (b ∷ l) t count g i o e =
    by_blank (λ u h f. half-sound l u (count + 1) h i.1 (inl (omega arith)) f) (eqb b 32) refl
  where
    opened : (1 ≤ count) ⊎ Stops Blank (b ∷ l) → b ≡ 32 → is_empty (placed (place_number t) count) ≡ false
    opened (inl c) z = counted-open 1 (shown (place_number t)) count false false c
    opened (inr s) z = absurd (s z)

    by_blank : ((u : R.Scan) → NoGap u → is_whole (steps (placed (place_number u) (count + 1)) l) ≡ true
        → Sound (place_number u) (count + 1) l)
        → (p : Bool) → eqb b 32 ≡ p → Sound (place_number t) count (b ∷ l)
    by_blank ih true f =
        let z : b ≡ 32 = eqb-true b 32 f in
        lost (placed (place_number t) count) b l
        (ap (step_of (placed (place_number t) count)) z ∙ blank-half (shown (place_number t)) count (opened o z)) e
    by_blank ih false f =
        sound-pure (place_number t) count b l (place-small t) i.1
        (λ y. six-at t b g (sym (led t count b (λ z. omega arith)).same_place ∙ y))
        (λ h d.
        let k = led t count b h in
        let q = k.same_place in
        subst (λ (x : ℕ). Sound x (count + 1) l) (sym q)
        (ih (scan_step t (column_of b)) (goes_on t b k.filled g).0
        (ap (λ (x : ℕ). is_whole (steps (placed x (count + 1)) l)) (sym q) ∙ d)))
        (ap (λ (s : Scan). is_whole (steps s l))
        (sym (step-half (shown (place_number t)) count b i.0 (eqb-false b 32 f))) ∙ e)

pub half-exactly : (l : List ℕ) → All Inner l → Stops Blank l → (is_whole (steps (fresh 1 false) l) ≡ true) ↔ HalfLife l
half-exactly l i st = (λ e. found (half-sound l Lead 0 tt i (inr st) e), half-whole l)
  where
    found : Sound 0 0 l → HalfLife l
    found (inl r) =
        record {
          number = r.number;
          unit = r.unit;
          numeral = (numeral-exactly r.number).0 r.whole;
          capitals = r.capitals;
          same = r.same;
        }
    found (inr (z, h)) = absurd (omega arith)
