-- One column of a reading that stands somewhere in a list. With `read_from t i s`, what is read from column i on where
-- the reading stands at t, four laws tell all that a function of the walk does: it moves on, it is stuck, the columns
-- are over, or a column is taken alike from two places.
-- Assumes nothing.
use mathlib.Core.Path.{◌≡◌, refl, sym, ap, ◌∙◌, subst}
use mathlib.Core.Bool.{Bool, true, false, cond}
use mathlib.Core.List.{List}
use Prim.Native.Nat.{ℕ, ◌+◌, ◌-◌, ◌*◌, ◌<◌, ◌≤◌, ◌^◌}
use native.Mathlib.Decide.{dec_lt}
use native.Mathlib.Nat.{add-zero, mul-le-mul_right}
use native.Mathlib.Numerals.{add-one}
use native.Mathlib.Omega.{arith}
use borrow.Author.Tests.{le-leb, leb-true, eqb-true, eqb-false}
use lib.Dec.{T, eqb, leb}
use lib.ListN.{length, drop, get_or, drop_of_length-le}
use lib.Seq.{drop-cons}
use Rattle.paper_number.specs.Reading as R
use Rattle.paper_number.specs.Reading.{Column, column, column_of, Mantissa, mantissa, Scan, Lead, Signed, Whole, Point}
use Rattle.paper_number.specs.Reading.{Fraction, Gap, Mark, MarkGap, PowerSign, Power, Bad, scan_step, scan_of}
use Rattle.paper_number.specs.declared.types.Front.{Front}
use Rattle.paper_number.specs.declared.types.Exponent.{Exponent}
use Rattle.paper_number.specs.declared.types.Spelt.TheVariants as S
use Rattle.paper_number.specs.Walk.{exponent, spelt_by, spelt_at, spelt, read_from, digital, past_sign, pointed, tailed_by}
use Rattle.paper_number.specs.Walk.{Skips, DigitAt, Counts, Leads, Points, Passes, Raises, Tails}
use Rattle.std.specs.Prelude.{Option, Some, None}
use Rattle.paper_number.proofs.Bytes.{digit-column, Seen, seen, a_blank, a_digit, a_point, a-sign, a-mark, no_such}
use Rattle.paper_number.proofs.Bytes.{on-byte}
use Rattle.paper_number.proofs.Letters.{scan-bad}
use Rattle.paper_number.proofs.Tens.{ten-le, ten-more}

bad-spells : spelt_at Bad ≡ S.Malformed
unfolding spelt_at
bad-spells = refl

never : {A : Type 0} → true ≡ false → A
never e = absurd (subst (λ (t : Bool). T t) e tt)

-- ---- the laws

module _ (s : List ℕ) (t : Scan) (i : ℕ) where
  scan-go : i < length s → scan_of t (drop i s) ≡ scan_of (scan_step t (column_of (get_or s i 0))) (drop (i + 1) s)
  scan-go h = rw (add-one, drop-cons s i 0) refl

  -- on to the next column
  pub moves : (k : Column) → i < length s → column_of (get_or s i 0) ≡ k
      → read_from t i s ≡ read_from (scan_step t k) (i + 1) s
  moves k h e = ap spelt_at (scan-go h ∙ ap (λ (x : Column). scan_of (scan_step t x) (drop (i + 1) s)) e)

  -- a column that fits nothing
  pub stuck : i < length s → scan_step t (column_of (get_or s i 0)) ≡ Bad → read_from t i s ≡ S.Malformed
  stuck h e =
      ap spelt_at (scan-go h ∙ ap (λ (x : Scan). scan_of x (drop (i + 1) s)) e ∙ scan-bad (drop (i + 1) s)) ∙ bad-spells

  -- no column left
  pub over : length s ≤ i → read_from t i s ≡ spelt_at t
  over h = ap (λ (l : List ℕ). spelt_at (scan_of t l)) (drop_of_length-le s h)

-- a column that two places take alike
pub alike : (s : List ℕ) (t u : Scan) (i : ℕ) → i < length s
    → scan_step t (column_of (get_or s i 0)) ≡ scan_step u (column_of (get_or s i 0)) → read_from t i s ≡ read_from u i s
alike s t u i h e =
    ap spelt_at (scan-go s t i h ∙ ap (λ (x : Scan). scan_of x (drop (i + 1) s)) e ∙ sym (scan-go s u i h))

-- ---- what a byte is

module _ (b : ℕ) where
  low_by : (t u : Bool) → leb 48 b ≡ t → leb b 57 ≡ u → cond t u false ≡ true → (48 ≤ b) × (b ≤ 57)
  low_by true true p q e = (leb-true 48 b p, leb-true b 57 q)
  low_by true false p q e = never (sym e)
  low_by false u p q e = never (sym e)

  pub digit-in : digital b ≡ true → (48 ≤ b) × (b ≤ 57)
  digit-in = low_by (leb 48 b) (leb b 57) refl refl

  pub is_digit : digital b ≡ true → column_of b ≡ column R.digit (b - 48) false
  is_digit e = digit-column b (digit-in e).0 (digit-in e).1

  pub is-blank : b ≡ 32 → column_of b ≡ column R.blank 0 false
  is-blank e = rw e refl

  pub is-plus : b ≡ 43 → column_of b ≡ column R.sign 0 false
  is-plus e = rw e refl

  pub is-minus : b ≡ 45 → column_of b ≡ column R.sign 0 true
  is-minus e = rw e refl

  pub is-point : b ≡ 46 → column_of b ≡ column R.point 0 false
  is-point e = rw e refl

  pub is-mark : b ≡ 69 → column_of b ≡ column R.mark 0 false
  is-mark e = rw e refl

  digit-no : {A : Type 0} → digital b ≡ false → (d : ℕ) → d < 10 → b ≡ 48 + d → A
  digit-no e d l q =
      let y : digital b ≡ true = rw (le-leb 48 b (omega arith), le-leb b 57 (omega arith)) refl in
      never (sym y ∙ e)

-- ---- bytes that fit nothing, or that two places take alike

module _ (b : ℕ) (m : Mantissa) where
  pub bad-power : (g : Bool) (e : ℕ) → digital b ≡ false → scan_step (Power m g e) (column_of b) ≡ Bad
  bad-power g e h =
      on-byte (λ s. s ≡ Bad) b Bad (λ d. Power m g (e * 10 + d)) Bad (λ g. Bad) Bad
      (λ q. refl) (λ d l q. digit-no b h d l q) (λ q. refl) (λ g q. refl) (λ q. refl) refl

  -- behind the blanks the digits of an exponent begin as behind a sign
  pub mark-gap-alike : (b ≡ 32 → ⊥) → scan_step (MarkGap m) (column_of b) ≡ scan_step (PowerSign m false) (column_of b)
  mark-gap-alike w = by-seen (seen b)
    where
      by-seen : Seen b → scan_step (MarkGap m) (column_of b) ≡ scan_step (PowerSign m false) (column_of b)
      by-seen (a_blank e) = absurd (w e)
      by-seen (a_digit d l e k) = rw k refl
      by-seen (a_point e) = rw e refl
      by-seen (a-sign g e k) = rw k refl
      by-seen (a-mark e) = rw e refl
      by-seen (no_such k) = rw k refl

  pub bad-power-sign : (g : Bool) → digital b ≡ false → scan_step (PowerSign m g) (column_of b) ≡ Bad
  bad-power-sign g h =
      on-byte (λ s. s ≡ Bad) b Bad (λ d. Power m g d) Bad (λ g. Bad) Bad
      (λ q. refl) (λ d l q. digit-no b h d l q) (λ q. refl) (λ g q. refl) (λ q. refl) refl

  pub mark-alike : (b ≡ 45 → ⊥) → (b ≡ 43 → ⊥) → scan_step (Mark m) (column_of b) ≡ scan_step (MarkGap m) (column_of b)
  mark-alike x y = by-seen (seen b)
    where
      by-seen : Seen b → scan_step (Mark m) (column_of b) ≡ scan_step (MarkGap m) (column_of b)
      by-seen (a_blank e) = rw e refl
      by-seen (a_digit d l e k) = rw k refl
      by-seen (a_point e) = rw e refl
      by-seen (a-sign true e k) = absurd (x e)
      by-seen (a-sign false e k) = absurd (y e)
      by-seen (a-mark e) = rw e refl
      by-seen (no_such k) = rw k refl

  pub fraction-alike : digital b ≡ false → scan_step (Fraction m) (column_of b) ≡ scan_step (Gap m) (column_of b)
  fraction-alike h = by-seen (seen b)
    where
      by-seen : Seen b → scan_step (Fraction m) (column_of b) ≡ scan_step (Gap m) (column_of b)
      by-seen (a_blank e) = rw e refl
      by-seen (a_digit d l e k) = digit-no b h d l e
      by-seen (a_point e) = rw e refl
      by-seen (a-sign g e k) = rw k refl
      by-seen (a-mark e) = rw e refl
      by-seen (no_such k) = rw k refl

  pub bad-gap : (b ≡ 32 → ⊥) → (b ≡ 69 → ⊥) → (b ≡ 45 → ⊥) → (b ≡ 43 → ⊥) → scan_step (Gap m) (column_of b) ≡ Bad
  bad-gap w z x y = by-seen (seen b)
    where
      by-seen : Seen b → scan_step (Gap m) (column_of b) ≡ Bad
      by-seen (a_blank e) = absurd (w e)
      by-seen (a_digit d l e k) = rw k refl
      by-seen (a_point e) = rw e refl
      by-seen (a-sign true e k) = absurd (x e)
      by-seen (a-sign false e k) = absurd (y e)
      by-seen (a-mark e) = absurd (z e)
      by-seen (no_such k) = rw k refl

module _ (b : ℕ) (g : Bool) where
  pub bad-whole : (c : ℕ) → digital b ≡ false → (b ≡ 46 → ⊥) → scan_step (Whole g c) (column_of b) ≡ Bad
  bad-whole c h n =
      on-byte (λ s. s ≡ Bad) b Bad (λ d. Whole g (c * 10 + d)) (Fraction (mantissa g c 0)) (λ g. Bad) Bad
      (λ q. refl) (λ d l q. digit-no b h d l q) (λ q. absurd (n q)) (λ g q. refl) (λ q. refl) refl

  pub bad-point : digital b ≡ false → scan_step (Point g) (column_of b) ≡ Bad
  bad-point h =
      on-byte (λ s. s ≡ Bad) b Bad (λ d. Fraction (mantissa g d 1)) Bad (λ g. Bad) Bad
      (λ q. refl) (λ d l q. digit-no b h d l q) (λ q. refl) (λ g q. refl) (λ q. refl) refl

  pub bad-signed : digital b ≡ false → (b ≡ 46 → ⊥) → scan_step (Signed g) (column_of b) ≡ Bad
  bad-signed h n =
      on-byte (λ s. s ≡ Bad) b Bad (λ d. Whole g d) (Point g) (λ g. Bad) Bad
      (λ q. refl) (λ d l q. digit-no b h d l q) (λ q. absurd (n q)) (λ g q. refl) (λ q. refl) refl

lead-alike : (b : ℕ) → (b ≡ 32 → ⊥) → (b ≡ 45 → ⊥) → (b ≡ 43 → ⊥)
    → scan_step Lead (column_of b) ≡ scan_step (Signed false) (column_of b)
lead-alike b w x y = by-seen (seen b)
  where
    by-seen : Seen b → scan_step Lead (column_of b) ≡ scan_step (Signed false) (column_of b)
    by-seen (a_blank e) = absurd (w e)
    by-seen (a_digit d l e k) = rw k refl
    by-seen (a_point e) = rw e refl
    by-seen (a-sign true e k) = absurd (x e)
    by-seen (a-sign false e k) = absurd (y e)
    by-seen (a-mark e) = rw e refl
    by-seen (no_such k) = rw k refl

-- ---- the sign

module _ (s : List ℕ) (i : ℕ) (h : i < length s) (w : get_or s i 0 ≡ 32 → ⊥) where
  signed_by : (t u : Bool) → eqb (get_or s i 0) 45 ≡ t → eqb (get_or s i 0) 43 ≡ u
      → read_from Lead i s ≡ read_from (Signed t) (i + cond t 1 (cond u 1 0)) s
  signed_by true u p q = moves s Lead i (column R.sign 0 true) h (is-minus (get_or s i 0) (eqb-true (get_or s i 0) 45 p))
  signed_by false true p q =
      moves s Lead i (column R.sign 0 false) h (is-plus (get_or s i 0) (eqb-true (get_or s i 0) 43 q))
  signed_by false false p q =
      rw (add-zero i)
      (alike s Lead (Signed false) i h
      (lead-alike (get_or s i 0) w (eqb-false (get_or s i 0) 45 p) (eqb-false (get_or s i 0) 43 q)))

  pub signed-from : read_from Lead i s ≡ read_from (Signed (eqb (get_or s i 0) 45)) (i + past_sign (get_or s i 0)) s
  signed-from = signed_by (eqb (get_or s i 0) 45) (eqb (get_or s i 0) 43) refl refl

pub past_one : (b : ℕ) → past_sign b ≤ 1
past_one b = by_tests (eqb b 45) (eqb b 43)
  where
    by_tests : (t u : Bool) → cond t 1 (cond u 1 0) ≤ 1
    by_tests true u = omega arith
    by_tests false true = omega arith
    by_tests false false = omega arith

-- ---- what is said at the end

ends-lead : spelt_at Lead ≡ S.Blank
unfolding spelt_at
ends-lead = refl

ends-fraction : (m : Mantissa) → spelt_at (Fraction m) ≡ spelt_at (Gap m)
unfolding spelt_at
ends-fraction m = refl

ends-gap : (m : Mantissa) → spelt_at (Gap m) ≡ spelt_by m None
unfolding spelt_at
ends-gap m = refl

ends-power : (m : Mantissa) (g : Bool) (e : ℕ) → spelt_at (Power m g e) ≡ spelt_by m (Some (exponent g e))
unfolding spelt_at
ends-power m g e = refl

ends-mark : (m : Mantissa) → (spelt_at (Mark m) ≡ S.Malformed) × (spelt_at (MarkGap m) ≡ S.Malformed)
unfolding spelt_at
ends-mark m = (refl, refl)

ends-sign : (m : Mantissa) (g : Bool) → spelt_at (PowerSign m g) ≡ S.Malformed
unfolding spelt_at
ends-sign m g = refl

ends-front : (g : Bool) (c : ℕ)
    → (spelt_at (Signed g) ≡ S.Malformed) × (spelt_at (Point g) ≡ S.Malformed) × (spelt_at (Whole g c) ≡ S.Malformed)
unfolding spelt_at
ends-front g c = (refl, refl, refl)

-- ---- blanks and digits, one by one

pub skips-more : (s : List ℕ) (t : Scan) (i : ℕ) → i < length s → get_or s i 0 ≡ 32 → scan_step t (column R.blank 0 false) ≡ t
    → read_from t i s ≡ read_from t (i + 1) s
skips-more s t i h b e =
    moves s t i (column R.blank 0 false) h (is-blank (get_or s i 0) b) ∙ ap (λ (x : Scan). read_from x (i + 1) s) e

-- what is read of one digit more, and how large all are with it
pub counts-more : (s : List ℕ) (t : ℕ → ℕ → Scan) (k c i d : ℕ) → DigitAt s i (Some d)
    → scan_step (t k c) (column R.digit d false) ≡ t (k + 1) (c * 10 + d)
    → read_from (t k c) i s ≡ read_from (t (k + 1) (c * 10 + d)) (i + 1) s
counts-more s t k c i d x e =
    moves s (t k c) i (column R.digit d false) x.0 x.2 ∙ ap (λ (y : Scan). read_from y (i + 1) s) e

pub small-more : (i v d c : ℕ) → d ≤ 9 → (v + 1) * c ≤ 10 ^ i → (v * 10 + d + 1) * c ≤ 10 ^ (i + 1)
small-more i v d c h l =
    let p = mul-le-mul_right c h in
    rw (ten-more i) (omega (arith, p, l))

-- ---- what a function of the walk hands on: of an exponent

-- at column i either no digit stands, or one from which the digits go on to the column r
module _ (s : List ℕ) (i : ℕ) (below : Bool) (short : length s ≤ 11) (three : 3 ≤ i) where
  pub power-none : DigitAt s i None → i ≤ length s → Raises s i (λ m. PowerSign m below) None
  power-none x h = record { reads = λ m. reads m (dec_lt i (length s)); small = tt }
    where
      reads : (m : Mantissa) → Dec (i < length s) → read_from (PowerSign m below) i s ≡ S.Malformed
      reads m (yes l) = stuck s (PowerSign m below) i l (bad-power-sign (get_or s i 0) m below (x l))
      reads m (no l) = over s (PowerSign m below) i (omega arith) ∙ ends-sign m below

  module _ (d r v : ℕ) (x : DigitAt s i (Some d)) (y : Counts s (i + 1) d r v) where
    power-reads : (m : Mantissa) → read_from (PowerSign m below) i s ≡ read_from (Power m below v) r s
    power-reads m =
        moves s (PowerSign m below) i (column R.digit d false) x.0 x.2
        ∙ y.reads (λ k c. Power m below c) (λ k c d. refl)

    pub power-stuck : r < length s → Raises s i (λ m. PowerSign m below) None
    power-stuck l =
        record {
          reads =
              λ m. power-reads m
              ∙ stuck s (Power m below v) r l (bad-power (get_or s r 0) m below v (y.stops l));
          small = tt;
        }

    pub power-size : v < 10 ^ 8
    power-size =
        let p : 10000 ≤ 10 ^ (i + 1) = ten-le {i = 4} {j = i + 1} (omega arith) in
        let q = ten-le {i = r} {j = 11} (omega (arith, y.inside, short)) in
        omega (arith, y.small 1000 (omega (arith, x.1, p)), q)

    pub power-done : length s ≤ r → Raises s i (λ m. PowerSign m below) (Some (exponent below v))
    power-done l =
        record {
          reads = λ m. power-reads m ∙ over s (Power m below v) r l ∙ ends-power m below v;
          small = power-size;
        }

-- a reading that goes on from another place
pub raises-on : (s : List ℕ) (i j : ℕ) (t u : Mantissa → Scan) (r : Option Exponent) → Raises s j u r
    → ((m : Mantissa) → read_from (t m) i s ≡ read_from (u m) j s) → Raises s i t r
raises-on s i j t u r h e = record { reads = λ m. e m ∙ h.reads m; small = h.small }

-- behind an E a sign may stand,
module _ (s : List ℕ) (i : ℕ) (h : i < length s) (r : Option Exponent) where
  pub mark-minus : get_or s i 0 ≡ 45 → Raises s (i + 1) (λ m. PowerSign m true) r → Raises s i (λ m. Mark m) r
  mark-minus e x =
      raises-on s i (i + 1) _ _ r x (λ m. moves s (Mark m) i (column R.sign 0 true) h (is-minus (get_or s i 0) e))

  pub mark-plus : get_or s i 0 ≡ 43 → Raises s (i + 1) (λ m. PowerSign m false) r → Raises s i (λ m. Mark m) r
  mark-plus e x =
      raises-on s i (i + 1) _ _ r x (λ m. moves s (Mark m) i (column R.sign 0 false) h (is-plus (get_or s i 0) e))

-- or blanks, and the digits behind them
module _ (s : List ℕ) (i : ℕ) where
  pub mark-over : length s ≤ i → Raises s i (λ m. Mark m) None
  mark-over h = record { reads = λ m. over s (Mark m) i h ∙ (ends-mark m).0; small = tt }

  pub mark-blank : (j : ℕ) (r : Option Exponent) → i < length s → (get_or s i 0 ≡ 45 → ⊥) → (get_or s i 0 ≡ 43 → ⊥)
      → Skips s i j → Raises s j (λ m. PowerSign m false) r → Raises s i (λ m. Mark m) r
  mark-blank j r h minus plus k x =
      raises-on s i j _ _ r x
      (λ m. alike s (Mark m) (MarkGap m) i h (mark-alike (get_or s i 0) m minus plus)
      ∙ k.reads (MarkGap m) refl ∙ at_gap m (dec_lt j (length s)))
    where
      at_gap : (m : Mantissa) → Dec (j < length s) → read_from (MarkGap m) j s ≡ read_from (PowerSign m false) j s
      at_gap m (yes l) = alike s (MarkGap m) (PowerSign m false) j l (mark-gap-alike (get_or s j 0) m (k.stops l))
      at_gap m (no l) =
          over s (MarkGap m) j (omega arith) ∙ (ends-mark m).1
          ∙ sym (over s (PowerSign m false) j (omega arith) ∙ ends-sign m false)

-- behind the digits and their blanks an E or a sign stands
module _ (s : List ℕ) (i : ℕ) (h : i < length s) (r : Option Exponent) where
  pub gap-mark : get_or s i 0 ≡ 69 → Raises s (i + 1) (λ m. Mark m) r → Raises s i (λ m. Gap m) r
  gap-mark e x =
      raises-on s i (i + 1) _ _ r x (λ m. moves s (Gap m) i (column R.mark 0 false) h (is-mark (get_or s i 0) e))

  pub gap-minus : get_or s i 0 ≡ 45 → Raises s (i + 1) (λ m. PowerSign m true) r → Raises s i (λ m. Gap m) r
  gap-minus e x =
      raises-on s i (i + 1) _ _ r x (λ m. moves s (Gap m) i (column R.sign 0 true) h (is-minus (get_or s i 0) e))

  pub gap-plus : get_or s i 0 ≡ 43 → Raises s (i + 1) (λ m. PowerSign m false) r → Raises s i (λ m. Gap m) r
  gap-plus e x =
      raises-on s i (i + 1) _ _ r x (λ m. moves s (Gap m) i (column R.sign 0 false) h (is-plus (get_or s i 0) e))

pub gap-none : (s : List ℕ) (i : ℕ) → i < length s → (get_or s i 0 ≡ 32 → ⊥) → (get_or s i 0 ≡ 69 → ⊥)
    → (get_or s i 0 ≡ 45 → ⊥) → (get_or s i 0 ≡ 43 → ⊥) → Raises s i (λ m. Gap m) None
gap-none s i h w z x y =
    record { reads = λ m. stuck s (Gap m) i h (bad-gap (get_or s i 0) m w z x y); small = tt }

-- or nothing
pub tails-over : (s : List ℕ) (i j : ℕ) → Skips s i j → length s ≤ j → Tails s i (Some None)
tails-over s i j k h =
    record { reads = λ m. k.reads (Gap m) refl ∙ over s (Gap m) j h ∙ ends-gap m; small = tt }

pub tails-none : (s : List ℕ) (i j : ℕ) → Skips s i j → Raises s j (λ m. Gap m) None → Tails s i None
tails-none s i j k x = record { reads = λ m. k.reads (Gap m) refl ∙ x.reads m; small = tt }

pub tails-some : (s : List ℕ) (i j : ℕ) (x : Exponent) → Skips s i j → Raises s j (λ m. Gap m) (Some x)
    → Tails s i (Some (Some x))
tails-some s i j x k y = record { reads = λ m. k.reads (Gap m) refl ∙ y.reads m; small = y.small }

-- ---- of the digits

pub points_on : (s : List ℕ) (i j : ℕ) (t u : Bool → Scan) (r : Option Front) → Points s j u r
    → ((g : Bool) → read_from (t g) i s ≡ read_from (u g) j s) → Points s i t r
points_on s i j t u r h e = record { reads = λ g. e g ∙ h.reads g; placed = h.placed }

one_more : (p k : ℕ) → p + k + 1 ≡ p + (k + 1)
one_more p k = omega arith

-- digits up to a point
module _ (s : List ℕ) (i n r v : ℕ) (x : Counts s i n r v) where
  whole-reads : (g : Bool) → read_from (Whole g n) i s ≡ read_from (Whole g v) r s
  whole-reads g = x.reads (λ k c. Whole g c) (λ k c d. refl)

  pub whole-pointed : 1 ≤ i → n < 10 ^ i → r < length s → get_or s r 0 ≡ 46
      → Points s i (λ g. Whole g n) (Some (record { at = r + 1; number = v; places = 0 }))
  whole-pointed one small h e =
      let p = ten-more r in
      record {
        reads = λ g. whole-reads g ∙ moves s (Whole g v) r (column R.point 0 false) h (is-point (get_or s r 0) e);
        placed =
            record {
              inside = omega arith;
              number = omega (arith, x.small 1 (omega arith));
              places = omega arith;
              wide = omega (arith, x.past);
            };
      }

  pub whole-none : (r < length s → get_or s r 0 ≡ 46 → ⊥) → Points s i (λ g. Whole g n) None
  whole-none w = record { reads = λ g. whole-reads g ∙ reads g (dec_lt r (length s)); placed = tt }
    where
      reads : (g : Bool) → Dec (r < length s) → read_from (Whole g v) r s ≡ S.Malformed
      reads g (yes l) = stuck s (Whole g v) r l (bad-whole (get_or s r 0) g v (x.stops l) (w l))
      reads g (no l) = over s (Whole g v) r (omega arith) ∙ (ends-front g v).2

  -- behind it
  pub passes : (p : ℕ) → n < 10 ^ i → p ≤ i → Passes s i n p (record { at = r; number = v; places = p + (r - i) })
  passes p small h =
      record {
        reads = λ g. fraction-reads g ∙ at_end g (dec_lt r (length s));
        past = x.past;
        inside = x.inside;
        number = omega (arith, x.small 1 (omega arith));
        places = omega (arith, x.past);
      }
    where
      fraction-reads : (g : Bool)
          → read_from (Fraction (mantissa g n p)) i s ≡ read_from (Fraction (mantissa g v (p + (r - i)))) r s
      fraction-reads g =
          ap (λ (q : ℕ). read_from (Fraction (mantissa g n q)) i s) (sym (add-zero p))
          ∙ x.reads (λ k c. Fraction (mantissa g c (p + k)))
          (λ k c d. ap (λ (q : ℕ). Fraction (mantissa g (c * 10 + d) q)) (one_more p k))

      at_end : (g : Bool) → Dec (r < length s)
          → read_from (Fraction (mantissa g v (p + (r - i)))) r s ≡ read_from (Gap (mantissa g v (p + (r - i)))) r s
      at_end g (yes l) =
          alike s _ _ r l (fraction-alike (get_or s r 0) (mantissa g v (p + (r - i))) (x.stops l))
      at_end g (no l) =
          over s (Fraction (mantissa g v (p + (r - i)))) r (omega arith) ∙ ends-fraction _
          ∙ sym (over s (Gap (mantissa g v (p + (r - i)))) r (omega arith))

-- the first digit, or a point
module _ (s : List ℕ) (i : ℕ) where
  pub point-some : (d : ℕ) → DigitAt s i (Some d) → 1 ≤ i
      → Points s i (λ g. Point g) (Some (record { at = i + 1; number = d; places = 1 }))
  point-some d x one =
      let p = ten-le {i = 1} {j = i + 1} (omega arith) in
      record {
        reads = λ g. moves s (Point g) i (column R.digit d false) x.0 x.2;
        placed =
            record {
              inside = omega (arith, x.0);
              number = omega (arith, x.1);
              places = omega arith;
              wide = omega arith;
            };
      }

  pub point-none : DigitAt s i None → Points s i (λ g. Point g) None
  point-none x = record { reads = λ g. reads g (dec_lt i (length s)); placed = tt }
    where
      reads : (g : Bool) → Dec (i < length s) → read_from (Point g) i s ≡ S.Malformed
      reads g (yes l) = stuck s (Point g) i l (bad-point (get_or s i 0) g (x l))
      reads g (no l) = over s (Point g) i (omega arith) ∙ (ends-front g 0).1

  pub signed-digit : (d : ℕ) (r : Option Front) → DigitAt s i (Some d) → Points s (i + 1) (λ g. Whole g d) r
      → Points s i (λ g. Signed g) r
  signed-digit d r x y =
      points_on s i (i + 1) _ _ r y (λ g. moves s (Signed g) i (column R.digit d false) x.0 x.2)

  pub signed-point : (r : Option Front) → i < length s → get_or s i 0 ≡ 46 → Points s (i + 1) (λ g. Point g) r
      → Points s i (λ g. Signed g) r
  signed-point r h e y =
      points_on s i (i + 1) _ _ r y (λ g. moves s (Signed g) i (column R.point 0 false) h (is-point (get_or s i 0) e))

  pub signed-none : DigitAt s i None → (i < length s → get_or s i 0 ≡ 46 → ⊥) → Points s i (λ g. Signed g) None
  signed-none x w = record { reads = λ g. reads g (dec_lt i (length s)); placed = tt }
    where
      reads : (g : Bool) → Dec (i < length s) → read_from (Signed g) i s ≡ S.Malformed
      reads g (yes l) = stuck s (Signed g) i l (bad-signed (get_or s i 0) g (x l) (w l))
      reads g (no l) = over s (Signed g) i (omega arith) ∙ (ends-front g 0).0

-- ---- the field, from its blanks to its end

pub leads : (s : List ℕ) (r : ℕ) → Skips s 0 r → Leads s r
unfolding spelt
leads s r k = record { reads = k.reads Lead refl; inside = k.inside; stops = k.stops }

module _ (s : List ℕ) (i : ℕ) (lead : Leads s i) (h : i < length s) where
  abbrev negative : Bool
  negative = eqb (get_or s i 0) 45

  module _ (f : Option Front) (front : Points s (i + past_sign (get_or s i 0)) (λ g. Signed g) f) where
    field-front : spelt s ≡ pointed s f negative
    field-front = lead.reads ∙ signed-from s i h (lead.stops h) ∙ front.reads negative

  pub field-bad : Points s (i + past_sign (get_or s i 0)) (λ g. Signed g) None → spelt s ≡ S.Malformed
  field-bad x = field-front None x

  pub field-tail : (f d : Front) (x : Option (Option Exponent))
      → Points s (i + past_sign (get_or s i 0)) (λ g. Signed g) (Some f) → Passes s f.at f.number f.places d
      → Tails s d.at x → spelt s ≡ tailed_by x (mantissa negative d.number d.places)
  field-tail f d x front p r =
      field-front (Some f) front ∙ p.reads negative ∙ r.reads (mantissa negative d.number d.places)

pub field-blank : (s : List ℕ) (i : ℕ) → Leads s i → length s ≤ i → spelt s ≡ S.Blank
field-blank s i l h = l.reads ∙ over s Lead i h ∙ ends-lead
