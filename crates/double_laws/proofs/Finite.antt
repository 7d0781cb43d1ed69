-- A double that is given lies between two doubles above zero, or is zero.
-- Assumes nothing.
use Prim.Native.Nat.{ℕ, suc, ◌*◌, ◌^◌, ◌≤◌, ◌<◌}
use mathlib.Core.Path.{◌≡◌, refl, sym, ap, ◌∙◌, subst}
use mathlib.Core.Bool.{Bool, true, false}
use mathlib.Core.Logic.{inl, inr}
use native.Mathlib.Nat.{zero-lt-suc, mul-le-mul, pow-le-pow_right, one-le-pow}
use native.Mathlib.Omega.{arith}
use borrow.Author.Tests.{leb-true}
use lib.Dec.{T, leb, ltb→lt, lit<}
use lib.IntN.{ℤ, pos, negsuc}
use lib.Ieee.{Float, nan, inf, fin, binary64, round, neg}
use lib.Ieee.Exact.{HasValue, round_exact}
use lib.Ieee.Order.{round_mono}
use lib.Ieee.Positive.{positive, positive_of_value, between}
use Rattle.laws.proofs.Booleans.{and_left, and_right}
use Rattle.paper_number.specs.declared.types.Decimal.{Decimal}
use Rattle.paper_number.specs.declared.types.Reading.{Reading}
use Rattle.paper_number.specs.declared.types.Reading.TheVariants.{Blank, Number, Refused}
use Rattle.paper_number.specs.Value.{Normal}
use Rattle.paper_number.specs.Reading.{read_field}
use Rattle.paper_number.proofs.Equation.{not-zero}
use Rattle.paper_number.proofs.Laws.{reads-exactly}
use Rattle.paper_questions.specs.declared.types.ValueAnswer.{ValueAnswer}
use Rattle.paper_double.specs.declared.types.Simple.TheVariants as S
use Rattle.paper_double.specs.Double.{in_range, TEN-DIGITS, is_simple, signed_by, simple_of, doubled, plus_zero}
use Rattle.paper_double.specs.Claims.{over, under}
use Rattle.paper_double_asking.specs.Ask.{double_asked, double_from_row, double_by_index}
use Rattle.paper_double.proofs.Doubles.{rounded-once, signed_round, zero-double, outside-exactly}
use Rattle.double_laws.specs.Finite.{Proper, FiniteField, DoubleFinite, FiniteFromRow, FiniteByIndex}
use Rattle.double_laws.proofs.FieldsRead.{Columns, ReadFrom, read-from, asked-columns, row-columns, index-columns}

-- ---- two to the -74th and to the 107th, which doubles hold

low_value : HasValue (round binary64 false 1 (2 ^ 74)) false 1 (2 ^ 74)
low_value = round_exact binary64 false 1 (2 ^ 74) 1 1000 (lit< tt) (lit< tt) (lit< tt) refl

high_value : HasValue (round binary64 false (2 ^ 107) 1) false (2 ^ 107) 1
high_value = round_exact binary64 false (2 ^ 107) 1 1 1181 (lit< tt) (lit< tt) (lit< tt) refl

-- what lies between them is rounded to a double above zero
within : (a c : ℕ) → 0 < c → 1 * c ≤ a * 2 ^ 74 → a * 1 ≤ 2 ^ 107 * c → T (positive (round binary64 false a c))
within a c p lo hi =
    between (round binary64 false 1 (2 ^ 74)) (round binary64 false a c) (round binary64 false (2 ^ 107) 1)
    (positive_of_value (round binary64 false 1 (2 ^ 74)) 1 (2 ^ 74) low_value (lit< tt))
    (positive_of_value (round binary64 false (2 ^ 107) 1) (2 ^ 107) 1 high_value (lit< tt))
    (round_mono binary64 1 (2 ^ 74) a c (lit< tt) p lo)
    (round_mono binary64 a c (2 ^ 107) 1 p (lit< tt) hi)

-- a decimal of ten digits at most in the simple range, not zero
tens-most : (k : ℕ) → k ≤ 22 → 10 ^ k ≤ 10 ^ 22
tens-most k h = pow-le-pow_right {n = 10} (zero-lt-suc 9) h

tens-least : (k : ℕ) → 1 ≤ 10 ^ k
tens-least k = one-le-pow k 10 (zero-lt-suc 9)

raised-within : (c t : ℕ) → 0 < c → c ≤ 9999999999 → 1 ≤ t → t ≤ 10 ^ 22
    → (1 * 1 ≤ c * t * 2 ^ 74) × (c * t * 1 ≤ 2 ^ 107 * 1)
raised-within c t p h one t-most =
    let m : c * t ≤ 9999999999 * 10 ^ 22 = mul-le-mul h t-most in
    let l : 1 * 1 ≤ c * t = mul-le-mul p one in
    (omega arith, omega arith)

lowered-within : (c t : ℕ) → 0 < c → c ≤ 9999999999 → 1 ≤ t → t ≤ 10 ^ 22
    → (1 * t ≤ c * 2 ^ 74) × (c * 1 ≤ 2 ^ 107 * t)
lowered-within c t p h one t-most = (omega arith, omega arith)

pub sized-positive : (c : ℕ) (p : ℤ) → 0 < c → c ≤ 9999999999 → in_range p ≡ true
    → T (positive (round binary64 false (over c p) (under p)))
sized-positive c (pos k) h d r =
    let b = raised-within c (10 ^ k) h d (tens-least k) (tens-most k (leb-true k 22 r)) in
    within (c * 10 ^ k) 1 (zero-lt-suc 0) b.0 b.1
sized-positive c (negsuc k) h d r =
    let b = lowered-within c (10 ^ suc k) h d (tens-least (suc k)) (tens-most (suc k) (leb-true (suc k) 22 r)) in
    within c (10 ^ suc k) (tens-least (suc k)) b.0 b.1

-- with its sign
signed-proper : (s : Bool) (x : Float) → T (positive x) → Proper (signed_by s x)
unfolding neg
signed-proper s nan p = absurd p
signed-proper s (inf t) p = absurd p
signed-proper s (fin true m e) p = absurd p
signed-proper true (fin false m e) p = λ z. let q : 0 < m = ltb→lt 0 m p in absurd (omega arith)
signed-proper false (fin false m e) p = λ z. let q : 0 < m = ltb→lt 0 m p in absurd (omega arith)

one-double : (x y : Float) → S.Double x ≡ S.Double y → x ≡ y
one-double x y e = cc

pub simple-if : (d : Decimal) (x : Float) → simple_of d ≡ S.Double x → is_simple d ≡ true
simple-if d x e = by (is_simple d) refl
  where
    by : (b : Bool) → is_simple d ≡ b → b ≡ true
    by true q = refl
    by false q =
        let o : simple_of d ≡ S.Outside d = (outside-exactly d d).1 (q, refl) in
        let r : S.Outside d ≡ S.Double x = sym o ∙ e in
        let z : ◌≡◌ {A = ℕ} 0 1 = cc in
        absurd (omega arith)

pub number-proper : (d : Decimal) (x : Float) → Normal d → simple_of d ≡ S.Double x → Proper x
number-proper d x (inl g) e =
    let q = simple-if d x e in
    let a = over d.coefficient d.power in
    let b = under d.power in
    let t = leb d.coefficient TEN-DIGITS in
    let h = leb-true d.coefficient TEN-DIGITS (and_left t (in_range d.power) q) in
    let p = sized-positive d.coefficient d.power (omega (arith, not-zero g)) h (and_right t (in_range d.power) q) in
    let w : signed_by d.negative (round binary64 false a b) ≡ x =
    signed_round d.negative a b ∙ one-double _ _ (sym (rounded-once d q) ∙ e) in
    subst Proper w (signed-proper d.negative (round binary64 false a b) p)
number-proper d x (inr z) e =
    let w : plus_zero ≡ x = one-double _ _ (sym zero-double ∙ ap simple_of (sym z) ∙ e) in
    subst Proper w (λ m. refl)

read-proper : (d : Decimal) (x : Float) → ReadFrom d → simple_of d ≡ S.Double x → Proper x
read-proper d x f e = number-proper d x ((reads-exactly f.columns d).0 f.read).means.normal e

no-double : {X : Type 0} {x : Float} → S.Blank ≡ S.Double x → X
no-double e = let z : ◌≡◌ {A = ℕ} 0 1 = cc in absurd (omega arith)

pub finite-field : FiniteField
finite-field l x w e = by (read_field l) refl e
  where
    by : (r : Reading) → read_field l ≡ r → doubled r ≡ S.Double x → Proper x
    by Blank q h = no-double h
    by (Number d) q h = read-proper d x (record { columns = l; wide = w; read = q }) h
    by (Refused n) q h = no-double h

answer-proper : (v : ValueAnswer) (x : Float) → Columns v → doubled v.value ≡ S.Double x → Proper x
answer-proper v x c e = by v.value refl e
  where
    by : (r : Reading) → v.value ≡ r → doubled r ≡ S.Double x → Proper x
    by Blank q h = no-double h
    by (Number d) q h = read-proper d x (read-from v d c q) h
    by (Refused n) q h = no-double h

pub double-finite : DoubleFinite
unfolding double_asked
double-finite s n section line column x e = answer-proper _ x (asked-columns s line column n section) e

pub finite-from-row : FiniteFromRow
unfolding double_from_row
finite-from-row s row section line column x e = answer-proper _ x (row-columns s line column row section) e

pub finite-by-index : FiniteByIndex
unfolding double_by_index
finite-by-index s index n section line column x e = answer-proper _ x (index-columns s line column index n section) e
