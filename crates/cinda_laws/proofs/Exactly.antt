-- The tests of a line: what is computed is what is said plainly.
-- Assumes nothing.
use Prim.Native.Nat.{ℕ, zero, suc, ◌+◌, ◌-◌, ◌<◌, ◌≤◌}
use mathlib.Core.Path.{◌≡◌, refl, sym, ap, ◌∙◌}
use mathlib.Core.Bool.{Bool, true, false, cond, ◌||◌}
use mathlib.Core.List.{List, [], ◌∷◌}
use native.Mathlib.Omega.{arith}
use lib.Dec.{eqb}
use lib.ListN.{get_or, drop}
use lib.Seq.{get_or-take, get_or-drop}
use borrow.Author.Tests.{eqb-true, eq-eqb, le-leb}
use Rattle.laws.specs.Search.{first}
use Rattle.laws.proofs.Booleans.{differ, and_left, and_right, and_both, or-first, or-second, or-either}
use Rattle.laws.proofs.Search.{either, first-pass, pass-first}
use Rattle.std.proofs.Common.{Option, Some, None}
use Rattle.paper_record.specs.Text.{text, within, is_blank, is_digit, is_capital}
use Rattle.paper_record.specs.Word.{equal_to}
use Rattle.paper_record.specs.Same.{SameColumns}
use Rattle.paper_record.specs.System.{integer_of, is_count, no_digit_at, digits_in, number_in}
use Rattle.paper_record.proofs.PlainColumns.{equal-exactly}
use Rattle.paper_record.proofs.PlainDigits.{digits-exactly, count-exactly, mark-exactly}
use Rattle.paper_record.proofs.PlainValues.{value-exactly}
use Rattle.paper_record.proofs.Within.{within-bounds}
use Rattle.paper_cinda.specs.Layout.{energy_at}
use Rattle.paper_cinda.specs.Rules.{is_operation, is_integer, is_many, good_z, good_mass, good_isomer, good_block, good_date}
use Rattle.cinda_laws.specs.Plain.{in_column, in_columns, Operation, an_A, a_D, an_M, IntegerAt, ManyHeld, NinesHeld}
use Rattle.cinda_laws.specs.Plain.{ZedHeld, where_many}
use Rattle.cinda_laws.specs.Plain.{elsewhere, MassHeld, all_many, an_integer, BlankOrDigit, blank, a_digit}
use Rattle.cinda_laws.specs.Plain.{DateHeld, OperationExactly, IntegerExactly, ManyExactly, ZedExactly}
use Rattle.cinda_laws.specs.Plain.{MassExactly, IsomerExactly, BlockExactly, EnergyExactly, DateExactly}

-- ---- "Operation is A, D or M"

operation-said : (b : ℕ) → is_operation b ≡ true → Operation b
unfolding is_operation
operation-said b e =
    or-either (eqb b 65) (eqb b 68 || eqb b 77) e (λ p. an_A (eqb-true b 65 p))
    (λ q. or-either (eqb b 68) (eqb b 77) q (λ p. a_D (eqb-true b 68 p)) (λ p. an_M (eqb-true b 77 p)))

said-operation : (b : ℕ) → Operation b → is_operation b ≡ true
unfolding is_operation
said-operation b (an_A e) = or-first (eqb b 65) (eqb b 68 || eqb b 77) (eq-eqb b 65 e)
said-operation b (a_D e) =
    or-second (eqb b 65) (eqb b 68 || eqb b 77) (or-first (eqb b 68) (eqb b 77) (eq-eqb b 68 e))
said-operation b (an_M e) =
    or-second (eqb b 65) (eqb b 68 || eqb b 77) (or-second (eqb b 68) (eqb b 77) (eq-eqb b 77 e))

pub operation-exactly : OperationExactly
operation-exactly b = (operation-said b, said-operation b)

-- ---- integers

integer-said : (l : List ℕ) (k w : ℕ) (x : Option ℕ) → integer_of w (in_columns l k w) ≡ x → is_count x ≡ true → IntegerAt l k w
integer-said l k w (Some m) e t = (m, (count-exactly w (in_columns l k w) m).0 e)
integer-said l k w None e t = differ (sym t)

pub integer-exactly : IntegerExactly
integer-exactly l k w = (
  integer-said l k w (integer_of w (in_columns l k w)) refl,
  λ x. ap is_count ((count-exactly w (in_columns l k w) x.0).1 x.1),
)

-- ---- three columns, one by one

column-in : (l : List ℕ) (n i : ℕ) → i < 3 → get_or (in_columns l (n + 1) 3) i 0 ≡ get_or l (n + i) 0
column-in l n i h =
    let z : n + 1 - 1 ≡ n = omega arith in
    rw z (get_or-take 3 (drop n l) i 0 h ∙ get_or-drop n l i 0)

-- behind the first n
record Three (l : List ℕ) (n a b c : ℕ) : Type 0 where
  first_of : get_or l (n + 0) 0 ≡ a
  second-of : get_or l (n + 1) 0 ≡ b
  third_of : get_or l (n + 2) 0 ≡ c

same-three : (l : List ℕ) (n a b c : ℕ) → SameColumns 3 (in_columns l (n + 1) 3) (a ∷ b ∷ c ∷ []) → Three l n a b c
same-three l n a b c h =
    record {
      first_of = sym (column-in l n 0 (omega arith)) ∙ h 0 (omega arith);
      second-of = sym (column-in l n 1 (omega arith)) ∙ h 1 (omega arith);
      third_of = sym (column-in l n 2 (omega arith)) ∙ h 2 (omega arith);
    }

three-same : (l : List ℕ) (n a b c : ℕ) → Three l n a b c → SameColumns 3 (in_columns l (n + 1) 3) (a ∷ b ∷ c ∷ [])
three-same l n a b c t zero h = column-in l n 0 h ∙ t.first_of
three-same l n a b c t (suc zero) h = column-in l n 1 h ∙ t.second-of
three-same l n a b c t (suc (suc zero)) h = column-in l n 2 h ∙ t.third_of
three-same l n a b c t (suc (suc (suc i))) h = absurd (omega arith)

-- ---- "MNY" and "999"

many-said : (l : List ℕ) → is_many l ≡ true → ManyHeld l
unfolding is_many
many-said l e =
    let t = same-three l 4 77 78 89 ((equal-exactly 3 (in_columns l 5 3) (text "MNY")).0 e) in
    record { fifth = t.first_of; sixth = t.second-of; seventh = t.third_of }

said-many : (l : List ℕ) → ManyHeld l → is_many l ≡ true
unfolding is_many
said-many l m =
    (equal-exactly 3 (in_columns l 5 3) (text "MNY")).1
    (three-same l 4 77 78 89 (record { first_of = m.fifth; second-of = m.sixth; third_of = m.seventh }))

pub many-exactly : ManyExactly
many-exactly l = (many-said l, said-many l)

pub nines-same : (l : List ℕ) → NinesHeld l → SameColumns 3 (in_columns l 2 3) (text "999")
nines-same l n =
    three-same l 1 57 57 57 (record { first_of = n.second; second-of = n.third; third_of = n.fourth })

same-nines : (l : List ℕ) → SameColumns 3 (in_columns l 2 3) (text "999") → NinesHeld l
same-nines l h =
    let t = same-three l 1 57 57 57 h in
    record { second = t.first_of; third = t.second-of; fourth = t.third_of }

-- ---- Z, A and the isomer

zed-said : (l : List ℕ) (b : Bool) → is_many l ≡ b
    → cond b (equal_to 3 (in_columns l 2 3) (text "999")) (is_integer l 2 3) ≡ true → ZedHeld l
zed-said l true m e =
    where_many (many-said l m) (same-nines l ((equal-exactly 3 (in_columns l 2 3) (text "999")).0 e))
zed-said l false m e =
    elsewhere (λ h. differ (sym (said-many l h) ∙ m)) ((integer-exactly l 2 3).0 e)

not-many : (l : List ℕ) → (ManyHeld l → ⊥) → is_many l ≡ false
not-many l h = by-test (is_many l) refl
  where
    by-test : (b : Bool) → is_many l ≡ b → is_many l ≡ false
    by-test true e = absurd (h (many-said l e))
    by-test false e = e

said-zed : (l : List ℕ) → ZedHeld l → good_z l ≡ true
unfolding good_z
said-zed l (where_many m n) =
    rw (said-many l m) ((equal-exactly 3 (in_columns l 2 3) (text "999")).1 (nines-same l n))
said-zed l (elsewhere m i) = rw (not-many l m) ((integer-exactly l 2 3).1 i)

pub zed-exactly : ZedExactly
unfolding good_z
zed-exactly l = (zed-said l (is_many l) refl, said-zed l)

mass-said : (l : List ℕ) → good_mass l ≡ true → MassHeld l
unfolding good_mass
mass-said l e =
    or-either (is_many l) (is_integer l 5 3) e (λ m. all_many (many-said l m))
    (λ i. an_integer ((integer-exactly l 5 3).0 i))

said-mass : (l : List ℕ) → MassHeld l → good_mass l ≡ true
unfolding good_mass
said-mass l (all_many m) = or-first (is_many l) (is_integer l 5 3) (said-many l m)
said-mass l (an_integer i) = or-second (is_many l) (is_integer l 5 3) ((integer-exactly l 5 3).1 i)

pub mass-exactly : MassExactly
mass-exactly l = (mass-said l, said-mass l)

isomer-said : (b : ℕ) → (is_blank b || is_digit b) ≡ true → BlankOrDigit b
isomer-said b e =
    or-either (is_blank b) (is_digit b) e (λ p. blank (eqb-true b 32 p))
    (λ p. let (low, high) = within-bounds 48 57 b p in a_digit low high)

said-isomer : (b : ℕ) → BlankOrDigit b → (is_blank b || is_digit b) ≡ true
said-isomer b (blank e) = or-first (is_blank b) (is_digit b) (eq-eqb b 32 e)
said-isomer b (a_digit p q) = or-second (is_blank b) (is_digit b) (and_both (le-leb 48 b p) (le-leb b 57 q))

pub isomer-exactly : IsomerExactly
unfolding good_isomer
isomer-exactly l = (isomer-said (in_column l 8), said-isomer (in_column l 8))

-- ---- the block

pub block-exactly : BlockExactly
unfolding good_block
block-exactly l = (
  λ e.
      let b : Bool = is_capital (in_column l 34) || is_digit (in_column l 34) in
      record {
        area = (mark-exactly (in_column l 34)).0 (and_left b (is_integer l 35 3) e);
        number = (integer-exactly l 35 3).0 (and_right b (is_integer l 35 3) e);
      },
  λ b. and_both ((mark-exactly (in_column l 34)).1 b.area) ((integer-exactly l 35 3).1 b.number),
)

-- ---- energies

pub energy-exactly : EnergyExactly
energy-exactly l k = value-exactly true (energy_at l k)

-- ---- the date

-- six digits are four and two
digits-part : (f : List ℕ) (i n j m : ℕ) → i ≤ j → j + m ≤ i + n → digits_in f i n ≡ true → digits_in f j m ≡ true
unfolding digits_in
digits-part f i n j m a b e =
    let p = eqb-true (first (no_digit_at f) i n) (i + n) e in
    eq-eqb (first (no_digit_at f) j m) (j + m)
    (pass-first (no_digit_at f) j m (λ k l h. first-pass (no_digit_at f) i n p k (omega arith) (omega arith)))

digits-join : (f : List ℕ) (i n m : ℕ) → digits_in f i n ≡ true → digits_in f (i + n) m ≡ true
    → digits_in f i (n + m) ≡ true
unfolding digits_in
digits-join f i n m d e =
    let p = eqb-true (first (no_digit_at f) i n) (i + n) d in
    let q = eqb-true (first (no_digit_at f) (i + n) m) (i + n + m) e in
    eq-eqb (first (no_digit_at f) i (n + m)) (i + (n + m))
    (pass-first (no_digit_at f) i (n + m)
    (λ k l h.
    either k (i + n) (λ x. first-pass (no_digit_at f) i n p k l x)
    (λ x. first-pass (no_digit_at f) (i + n) m q k x (omega arith))))

date-said : (l : List ℕ) → good_date l ≡ true → DateHeld l
unfolding good_date
date-said l e =
    let d = and_left (digits_in l 79 6) (within 1 12 (number_in l 83 2)) e in
    let (low, high) =
    within-bounds 1 12 (number_in l 83 2) (and_right (digits_in l 79 6) (within 1 12 (number_in l 83 2)) e) in
    record {
      year = number_in l 79 4;
      month = number_in l 83 2;
      of_year = (digits-exactly l 79 4 (number_in l 79 4)).0 (digits-part l 79 6 79 4 (omega arith) (omega arith) d, refl);
      of_month = (digits-exactly l 83 2 (number_in l 83 2)).0 (digits-part l 79 6 83 2 (omega arith) (omega arith) d, refl);
      month_from = low;
      month_to = high;
    }

said-date : (l : List ℕ) → DateHeld l → good_date l ≡ true
unfolding good_date
said-date l x =
    let y = (digits-exactly l 79 4 x.year).1 x.of_year in
    let (d, m) = (digits-exactly l 83 2 x.month).1 x.of_month in
    and_both (digits-join l 79 4 2 y.0 d)
    (rw m (and_both (le-leb 1 x.month x.month_from) (le-leb x.month 12 x.month_to)))

pub date-exactly : DateExactly
date-exactly l = (date-said l, said-date l)
