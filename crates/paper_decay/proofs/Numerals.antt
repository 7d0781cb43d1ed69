-- What the scan takes for a number is a number: no blank, at most eleven characters, and it reads to a value.
-- Assumes nothing.
use mathlib.Core.Path.{◌≡◌, refl, sym, ap, ◌∙◌}
use mathlib.Core.Bool.{Bool, true, false, cond}
use mathlib.Core.List.{List, [], ◌∷◌}
use Prim.Native.Nat.{ℕ, suc, ◌+◌, ◌<◌, ◌≤◌}
use native.Mathlib.Omega.{arith}
use borrow.Author.Tests.{eqb-false, ne_eqb, ltb-false, le-ltb}
use lib.Dec.{eqb, ltb}
use lib.ListN.{length}
use Rattle.laws.specs.Walk.{All}
use Rattle.paper_number.specs.declared.types.Decimal.{Decimal}
use Rattle.paper_number.specs.declared.types.Reading.TheVariants.{Number}
use Rattle.paper_number.specs.Reading as R
use Rattle.paper_number.specs.Reading.{Kind, column_of, scan_step, scan_of, finish, read_field, Lead, Signed, Whole, Point}
use Rattle.paper_number.specs.Reading.{Fraction, Gap, Mark, MarkGap, PowerSign, Power, Bad}
use Rattle.paper_number.specs.Form.{place_number, place_at}
use Rattle.paper_number.proofs.Bytes.{Seen, a_blank, a_digit, a_point, a-sign, a-mark, no_such, seen}
use Rattle.paper_decay.specs.Scan.{need_of, next_of, number_next, number_whole}
use Rattle.paper_decay.specs.Numerals.{Filled, Numeral, number_from}
use Rattle.paper_decay.specs.Claims.{NumeralExactly}

pub no : {A : Type 0} → false ≡ true → A
no e = let z : ◌≡◌ {A = ℕ} 0 1 = cc in absurd (omega arith)

pub place-small : (t : R.Scan) → place_number t < 11
place-small Lead = omega arith
place-small (Signed n) = omega arith
place-small (Whole n c) = omega arith
place-small (Point n) = omega arith
place-small (Fraction x) = omega arith
place-small (Gap x) = omega arith
place-small (Mark x) = omega arith
place-small (MarkGap x) = omega arith
place-small (PowerSign x s) = omega arith
place-small (Power x s e) = omega arith
place-small Bad = omega arith

-- ---- the place alone tells where the reading goes

-- an answer for each kind of a column
pub by_kind : (P : Kind → Type 0) (k : Kind) → P R.blank → P R.digit → P R.point → P R.sign → P R.mark → P R.other → P k
by_kind P R.blank b d p s e o = b
by_kind P R.digit b d p s e o = d
by_kind P R.point b d p s e o = p
by_kind P R.sign b d p s e o = s
by_kind P R.mark b d p s e o = e
by_kind P R.other b d p s e o = o

abbrev pub step : R.Scan → Kind → ℕ → Bool → ℕ
step t k v m = place_number (scan_step t (R.column k v m))

abbrev Same : R.Scan → ℕ → Bool → Kind → Type 0
Same t v m k = step (place_at (place_number t)) k v m ≡ step t k v m

same : (t : R.Scan) (k : Kind) (v : ℕ) (m : Bool) → Same t v m k
same Lead k v m = refl
same (Signed n) k v m = by_kind (Same (Signed n) v m) k refl refl refl refl refl refl
same (Whole n c) k v m = by_kind (Same (Whole n c) v m) k refl refl refl refl refl refl
same (Point n) k v m = by_kind (Same (Point n) v m) k refl refl refl refl refl refl
same (Fraction x) k v m = by_kind (Same (Fraction x) v m) k refl refl refl refl refl refl
same (Gap x) k v m = by_kind (Same (Gap x) v m) k refl refl refl refl refl refl
same (Mark x) k v m = by_kind (Same (Mark x) v m) k refl refl refl refl refl refl
same (MarkGap x) k v m = by_kind (Same (MarkGap x) v m) k refl refl refl refl refl refl
same (PowerSign x s) k v m = by_kind (Same (PowerSign x s) v m) k refl refl refl refl refl refl
same (Power x s e) k v m = by_kind (Same (Power x s e) v m) k refl refl refl refl refl refl
same Bad k v m = refl

next_place : (t : R.Scan) (b : ℕ) → next_of (place_number t) b ≡ place_number (scan_step t (column_of b))
unfolding next_of
next_place t b = same t (column_of b).kind (column_of b).value (column_of b).minus

-- ---- without blanks the reading never stands in a gap

abbrev pub NoGap : R.Scan → Type 0
NoGap Lead = Unit {0}
NoGap (Signed n) = Unit {0}
NoGap (Whole n c) = Unit {0}
NoGap (Point n) = Unit {0}
NoGap (Fraction x) = Unit {0}
NoGap (Gap x) = ⊥
NoGap (Mark x) = Unit {0}
NoGap (MarkGap x) = ⊥
NoGap (PowerSign x s) = Unit {0}
NoGap (Power x s e) = Unit {0}
NoGap Bad = Unit {0}

-- a column that is no blank
abbrev pub Printed : Kind → Type 0
Printed R.blank = ⊥
Printed R.digit = Unit {0}
Printed R.point = Unit {0}
Printed R.sign = Unit {0}
Printed R.mark = Unit {0}
Printed R.other = Unit {0}

printed : (b : ℕ) → Filled b → Printed (column_of b).kind
printed b h = by-seen (seen b)
  where
    by-seen : Seen b → Printed (column_of b).kind
    by-seen (a_blank e) = absurd (h e)
    by-seen (a_digit d n e k) = rw k tt
    by-seen (a_point e) = rw e tt
    by-seen (a-sign g e k) = rw k tt
    by-seen (a-mark e) = rw e tt
    by-seen (no_such k) = rw k tt

-- from such a column on it needs one character less at most
abbrev Goes : R.Scan → ℕ → Bool → Kind → Type 0
Goes t v m k =
    Printed k → NoGap t
    → NoGap (scan_step t (R.column k v m)) × (need_of (place_number t) ≤ suc (need_of (step t k v m)))

goes : (t : R.Scan) (k : Kind) (v : ℕ) (m : Bool) → Goes t v m k
unfolding need_of
goes Lead k v m =
    by_kind (Goes Lead v m) k (λ p. absurd p) (λ p g. (tt, omega arith)) (λ p g. (tt, omega arith))
    (λ p g. (tt, omega arith)) (λ p g. (tt, omega arith)) (λ p g. (tt, omega arith))
goes (Signed n) k v m =
    by_kind (Goes (Signed n) v m) k (λ p. absurd p) (λ p g. (tt, omega arith)) (λ p g. (tt, omega arith))
    (λ p g. (tt, omega arith)) (λ p g. (tt, omega arith)) (λ p g. (tt, omega arith))
goes (Whole n c) k v m =
    by_kind (Goes (Whole n c) v m) k (λ p. absurd p) (λ p g. (tt, omega arith)) (λ p g. (tt, omega arith))
    (λ p g. (tt, omega arith)) (λ p g. (tt, omega arith)) (λ p g. (tt, omega arith))
goes (Point n) k v m =
    by_kind (Goes (Point n) v m) k (λ p. absurd p) (λ p g. (tt, omega arith)) (λ p g. (tt, omega arith))
    (λ p g. (tt, omega arith)) (λ p g. (tt, omega arith)) (λ p g. (tt, omega arith))
goes (Fraction x) k v m =
    by_kind (Goes (Fraction x) v m) k (λ p. absurd p) (λ p g. (tt, omega arith)) (λ p g. (tt, omega arith))
    (λ p g. (tt, omega arith)) (λ p g. (tt, omega arith)) (λ p g. (tt, omega arith))
goes (Gap x) k v m = λ p g. absurd g
goes (Mark x) k v m =
    by_kind (Goes (Mark x) v m) k (λ p. absurd p) (λ p g. (tt, omega arith)) (λ p g. (tt, omega arith))
    (λ p g. (tt, omega arith)) (λ p g. (tt, omega arith)) (λ p g. (tt, omega arith))
goes (MarkGap x) k v m = λ p g. absurd g
goes (PowerSign x s) k v m =
    by_kind (Goes (PowerSign x s) v m) k (λ p. absurd p) (λ p g. (tt, omega arith)) (λ p g. (tt, omega arith))
    (λ p g. (tt, omega arith)) (λ p g. (tt, omega arith)) (λ p g. (tt, omega arith))
goes (Power x s e) k v m =
    by_kind (Goes (Power x s e) v m) k (λ p. absurd p) (λ p g. (tt, omega arith)) (λ p g. (tt, omega arith))
    (λ p g. (tt, omega arith)) (λ p g. (tt, omega arith)) (λ p g. (tt, omega arith))
goes Bad k v m = λ p g. (tt, omega arith)

pub goes_on : (t : R.Scan) (b : ℕ) → Filled b → NoGap t
    → NoGap (scan_step t (column_of b)) × (need_of (place_number t) ≤ suc (need_of (place_number (scan_step t (column_of b)))))
goes_on t b h g = goes t (column_of b).kind (column_of b).value (column_of b).minus (printed b h) g

-- ---- where the reading may end, nothing is needed; and a number is read

abbrev pub Ends : R.Scan → Type 0
Ends t = number_whole (place_number t) ≡ true

ends-need : (t : R.Scan) → Ends t → need_of (place_number t) ≡ 0
unfolding need_of number_whole
ends-need Lead e = no e
ends-need (Signed n) e = no e
ends-need (Whole n c) e = no e
ends-need (Point n) e = no e
ends-need (Fraction x) e = refl
ends-need (Gap x) e = no e
ends-need (Mark x) e = no e
ends-need (MarkGap x) e = no e
ends-need (PowerSign x s) e = no e
ends-need (Power x s k) e = refl
ends-need Bad e = no e

ends-number : (t : R.Scan) → Ends t → (v : Decimal) × (finish t ≡ Number v)
unfolding finish number_whole
ends-number Lead e = no e
ends-number (Signed n) e = no e
ends-number (Whole n c) e = no e
ends-number (Point n) e = no e
ends-number (Fraction x) e = (_, refl)
ends-number (Gap x) e = no e
ends-number (Mark x) e = no e
ends-number (MarkGap x) e = no e
ends-number (PowerSign x s) e = no e
ends-number (Power x s k) e = (_, refl)
ends-number Bad e = no e

number-ends : (t : R.Scan) (v : Decimal) → NoGap t → finish t ≡ Number v → Ends t
unfolding finish number_whole
number-ends Lead v g e = let z : ◌≡◌ {A = ℕ} 0 1 = cc in absurd (omega arith)
number-ends (Signed n) v g e = let z : ◌≡◌ {A = ℕ} 0 1 = cc in absurd (omega arith)
number-ends (Whole n c) v g e = let z : ◌≡◌ {A = ℕ} 0 1 = cc in absurd (omega arith)
number-ends (Point n) v g e = let z : ◌≡◌ {A = ℕ} 0 1 = cc in absurd (omega arith)
number-ends (Fraction x) v g e = refl
number-ends (Gap x) v g e = absurd g
number-ends (Mark x) v g e = let z : ◌≡◌ {A = ℕ} 0 1 = cc in absurd (omega arith)
number-ends (MarkGap x) v g e = absurd g
number-ends (PowerSign x s) v g e = let z : ◌≡◌ {A = ℕ} 0 1 = cc in absurd (omega arith)
number-ends (Power x s k) v g e = refl
number-ends Bad v g e = let z : ◌≡◌ {A = ℕ} 0 1 = cc in absurd (omega arith)

no_gap : (l : List ℕ) (t : R.Scan) → All Filled l → NoGap t → NoGap (scan_of t l)
no_gap [] t h g = g
no_gap (b ∷ l) t h g = no_gap l (scan_step t (column_of b)) h.1 (goes_on t b h.0 g).0

need-le : (l : List ℕ) (t : R.Scan) → All Filled l → NoGap t → Ends (scan_of t l) → need_of (place_number t) ≤ length l
need-le [] t h g e = omega (arith, ends-need t e)
need-le (b ∷ l) t h g e =
    let s = scan_step t (column_of b) in
    let k = goes_on t b h.0 g in
    let r : need_of (place_number s) ≤ length l = need-le l s h.1 k.0 e in
    omega (arith, k.1)

-- ---- one character

pub by_tests : (inner count b next : ℕ) → eqb b 32 ≡ false → ltb 10 inner ≡ false → ltb 10 count ≡ false
    → ltb 10 (count + need_of next) ≡ false → next_of inner b ≡ next → number_next inner count b ≡ next
unfolding number_next
by_tests inner count b next p q r x e = rw (p, q, r, e, x) refl

-- it goes where the number layer goes, where there is room
next-room : (t : R.Scan) (count b : ℕ) → Filled b → count + need_of (place_number (scan_step t (column_of b))) ≤ 10
    → number_next (place_number t) count b ≡ place_number (scan_step t (column_of b))
next-room t count b h r =
    let p = place-small t in
    by_tests (place_number t) count b (place_number (scan_step t (column_of b))) (ne_eqb b 32 h)
    (le-ltb 10 (place_number t) (omega arith)) (le-ltb 10 count (omega arith)) (le-ltb _ _ r) (next_place t b)

pub from-complete : (l : List ℕ) (t : R.Scan) (count : ℕ) → All Filled l → NoGap t → Ends (scan_of t l)
    → count + length l ≤ 11 → number_from (place_number t) count l ≡ place_number (scan_of t l)
unfolding number_from
from-complete [] t count h g e r = refl
from-complete (b ∷ l) t count h g e r =
    let s = scan_step t (column_of b) in
    let k = goes_on t b h.0 g in
    let n = need-le l s h.1 k.0 e in
    let q : number_next (place_number t) count b ≡ place_number s = next-room t count b h.0 (omega arith) in
    ap (λ (x : ℕ). number_from x (count + 1) l) q ∙ from-complete l s (count + 1) h.1 k.0 e (omega arith)

-- ---- and back

-- from nowhere it goes nowhere
pub stuck-by : (t u v w : Bool) (x : ℕ) → ◌≡◌ {A = ℕ} (cond t x (cond u x (cond v x (cond w x x)))) x
stuck-by true u v w x = refl
stuck-by false true v w x = refl
stuck-by false false true w x = refl
stuck-by false false false true x = refl
stuck-by false false false false x = refl

stuck : (count b : ℕ) → number_next 10 count b ≡ 10
unfolding number_next
stuck count b =
    let e : next_of 10 b ≡ 10 = next_place Bad b in
    rw e (stuck-by (eqb b 32) (ltb 10 10) (ltb 10 count) (ltb 10 (count + need_of 10)) 10)

pub stuck-from : (l : List ℕ) (count : ℕ) → number_from 10 count l ≡ 10
unfolding number_from
stuck-from [] count = refl
stuck-from (b ∷ l) count = ap (λ (x : ℕ). number_from x (count + 1) l) (stuck count b) ∙ stuck-from l (count + 1)

-- a character that leads somewhere is no blank, there is room for it, and it goes where the number layer goes
pub record Led (t : R.Scan) (count b x : ℕ) : Type 0 where
  pub filled : Filled b
  pub room : count ≤ 10
  pub same_place : x ≡ place_number (scan_step t (column_of b))

pub led : (t : R.Scan) (count b : ℕ) → (number_next (place_number t) count b ≡ 10 → ⊥)
    → Led t count b (number_next (place_number t) count b)
unfolding number_next
led t count b h =
    by-test (eqb b 32) refl (ltb 10 (place_number t)) (ltb 10 count) refl
    (ltb 10 (count + need_of (next_of (place_number t) b))) h
  where
    by-test : (p : Bool) → eqb b 32 ≡ p → (q r : Bool) → ltb 10 count ≡ r → (w : Bool)
        → (cond p 10 (cond q 10 (cond r 10 (cond w 10 (next_of (place_number t) b)))) ≡ 10 → ⊥)
        → Led t count b (cond p 10 (cond q 10 (cond r 10 (cond w 10 (next_of (place_number t) b)))))
    by-test true e q r f w h = absurd (h refl)
    by-test false e true r f w h = absurd (h refl)
    by-test false e false true f w h = absurd (h refl)
    by-test false e false false f true h = absurd (h refl)
    by-test false e false false f false h =
        record { filled = eqb-false b 32 e; room = ltb-false 10 count f; same_place = next_place t b }

-- what is read from t on
record From (t : R.Scan) (count : ℕ) (l : List ℕ) : Type 0 where
  bare : All Filled l
  few : count ≤ 11 → count + length l ≤ 11
  ends : Ends (scan_of t l)

from-sound : (l : List ℕ) (t : R.Scan) (count : ℕ) → number_whole (number_from (place_number t) count l) ≡ true → From t count l
unfolding number_from number_whole
from-sound [] t count e = record { bare = tt; few = λ h. omega arith; ends = e }
from-sound (b ∷ l) t count e =
    let x = number_next (place_number t) count b in
    let k = led t count b (λ z. lost z) in
    let q = k.same_place in
    let r = from-sound l (scan_step t (column_of b)) (count + 1)
    (ap (λ (y : ℕ). number_whole (number_from y (count + 1) l)) (sym q) ∙ e) in
    record {
      bare = (k.filled, r.bare);
      few = λ h. omega (arith, k.room, r.few (omega (arith, k.room)));
      ends = r.ends;
    }
  where
    lost : number_next (place_number t) count b ≡ 10 → ⊥
    lost z =
        let y : number_from (number_next (place_number t) count b) (count + 1) l ≡ 10 =
        ap (λ (w : ℕ). number_from w (count + 1) l) z ∙ stuck-from l (count + 1) in
        no (ap number_whole (sym y) ∙ e)

-- ---- the law

pub numeral-exactly : NumeralExactly
unfolding read_field
numeral-exactly l = (
  λ e.
      let r = from-sound l Lead 0 e in
      let (v, q) = ends-number (scan_of Lead l) r.ends in
      record { few = omega (arith, r.few (omega arith)); bare = r.bare; value = v; reads = q },
  λ n.
      let g = no_gap l Lead n.bare tt in
      let e = number-ends (scan_of Lead l) n.value g n.reads in
      ap number_whole (from-complete l Lead 0 n.bare tt e (omega (arith, n.few))) ∙ e,
)
