-- From the grammar to the reading: a field reads to its value, part after part.
-- Assumes nothing.
use mathlib.Core.Path.{◌≡◌, refl, sym, ap, ◌∙◌}
use mathlib.Core.Bool.{Bool, true, false}
use mathlib.Core.List.{List, [], ◌∷◌, ◌++◌, append_assoc, append-nil}
use Prim.Native.Nat.{ℕ, zero, suc, ◌+◌, ◌*◌, ◌<◌, ◌≤◌}
use native.Mathlib.Nat.{add-zero, zero-add, add-sub_cancel_left}
use native.Mathlib.Numerals.{one-add}
use native.Mathlib.Omega.{arith}
use lib.IntN.{pos, ◌-ℤ◌}
use lib.ListN.{length}
use Rattle.paper_number.specs.declared.types.Reading.{Reading}
use Rattle.paper_number.specs.declared.types.Reading.TheVariants.{Number}
use Rattle.paper_number.specs.Grammar.{blanks, Digits, digits_text, num_from, num, Sign, unsigned, signed, sign_text}
use Rattle.paper_number.specs.Grammar.{minus, Opening, by_sign, by_mark, by_bare, open_text, below, Tail, plain, power}
use Rattle.paper_number.specs.Grammar.{tail_text, GoodTail, Field, write, GoodField}
use Rattle.paper_number.specs.Value.{exponent_of, value_of, meaning}
use Rattle.paper_number.specs.Reading.{Column, digit, column, column_of, Mantissa, mantissa, longer, Scan, Lead, Signed}
use Rattle.paper_number.specs.Reading.{Whole, Point, Fraction, Gap, Mark, MarkGap, PowerSign, Power, scan_step}
use Rattle.paper_number.specs.Reading.{scan_of, finish, read_field}
use Rattle.paper_number.proofs.Spelling.{digits-left, digits-right}
use Rattle.paper_number.proofs.Bytes.{digit-column}
use Rattle.paper_number.proofs.Reach.{num_from-append}

scan-append : (a b : List ℕ) (s : Scan) → scan_of s (a ++ b) ≡ scan_of (scan_of s a) b
scan-append [] b s = refl
scan-append (x ∷ a) b s = scan-append a b (scan_step s (column_of x))

digit_at : (d : ℕ) → d < 10 → column_of (48 + d) ≡ column digit d false
digit_at d h = digit-column (48 + d) (omega arith) (omega arith) ∙ rw (add-sub_cancel_left 48 d) refl

scan-digit : (s : Scan) (d : ℕ) (l : List ℕ) → d < 10
    → scan_of s ((48 + d) ∷ l) ≡ scan_of (scan_step s (column digit d false)) l
scan-digit s d l h = ap (λ (k : Column). scan_of (scan_step s k) l) (digit_at d h)

-- ---- blanks and the sign

pub scan-lead : (n : ℕ) (l : List ℕ) → scan_of Lead (blanks n ++ l) ≡ scan_of Lead l
scan-lead zero l = refl
scan-lead (suc n) l = scan-lead n l

abbrev begun : Sign → Scan
begun unsigned = Lead
begun (signed g) = Signed g

scan-sign : (g : Sign) (l : List ℕ) → scan_of Lead (sign_text g ++ l) ≡ scan_of (begun g) l
scan-sign unsigned l = refl
scan-sign (signed false) l = refl
scan-sign (signed true) l = refl

begun-digit : (g : Sign) (d : ℕ) → scan_step (begun g) (column digit d false) ≡ Whole (minus g) d
begun-digit unsigned d = refl
begun-digit (signed g) d = refl

begun-point : (g : Sign) (l : List ℕ) → scan_of (begun g) (46 ∷ l) ≡ scan_of (Point (minus g)) l
begun-point unsigned l = refl
begun-point (signed g) l = refl

-- ---- the digits and their point

scan-whole : (g : Bool) (c : ℕ) (ds : List ℕ) → Digits ds → scan_of (Whole g c) (digits_text ds) ≡ Whole g (num_from c ds)
scan-whole g c [] h = refl
scan-whole g c (d ∷ ds) h = scan-digit (Whole g c) d (digits_text ds) h.0 ∙ scan-whole g (c * 10 + d) ds h.1

scan-part : (m : Mantissa) (fs : List ℕ) → Digits fs
    → scan_of (Fraction m) (digits_text fs) ≡ Fraction (mantissa m.negative (num_from m.number fs) (m.places + length fs))
scan-part m [] h = rw add-zero refl
scan-part m (d ∷ fs) h =
    let e : m.places + 1 + length fs ≡ m.places + suc (length fs) = omega arith in
    scan-digit (Fraction m) d (digits_text fs) h.0 ∙ (scan-part (longer m d) fs h.1 ∙ rw e refl)

same-fraction : (g : Bool) {a b p q : ℕ} → a ≡ b → p ≡ q → Fraction (mantissa g a p) ≡ Fraction (mantissa g b q)
same-fraction g e f = rw (e, f) refl

scan-digits : (g : Sign) (ds fs : List ℕ) → Digits (ds ++ fs) → 1 ≤ length (ds ++ fs)
    → scan_of (begun g) (digits_text ds ++ (46 ∷ digits_text fs)) ≡ Fraction (mantissa (minus g) (num (ds ++ fs)) (length fs))
scan-digits g [] [] h l = absurd (omega arith)
scan-digits g [] (d ∷ fs) h l =
    begun-point g (digits_text (d ∷ fs)) ∙ scan-digit (Point (minus g)) d (digits_text fs) h.0
    ∙ scan-part (mantissa (minus g) d 1) fs h.1
    ∙ same-fraction (minus g) (ap (λ (c : ℕ). num_from c fs) (sym (zero-add d))) (one-add (length fs))
scan-digits g (d ∷ ds) fs h l =
    scan-digit (begun g) d (digits_text ds ++ (46 ∷ digits_text fs)) h.0
    ∙ ap (λ (s : Scan). scan_of s (digits_text ds ++ (46 ∷ digits_text fs))) (begun-digit g d)
    ∙ scan-append (digits_text ds) (46 ∷ digits_text fs) (Whole (minus g) d)
    ∙ ap (λ (s : Scan). scan_of s (46 ∷ digits_text fs)) (scan-whole (minus g) d ds (digits-left ds fs h.1))
    ∙ scan-part (mantissa (minus g) (num_from d ds) 0) fs (digits-right ds fs h.1)
    ∙ same-fraction (minus g)
    (ap (λ (c : ℕ). num_from (num_from c ds) fs) (sym (zero-add d)) ∙ sym (num_from-append (0 * 10 + d) ds fs))
    (zero-add (length fs))

-- ---- the tail

module _ (m : Mantissa) where
  scan-gap : (k : ℕ) (l : List ℕ) → scan_of (Gap m) (blanks k ++ l) ≡ scan_of (Gap m) l
  scan-gap zero l = refl
  scan-gap (suc k) l = scan-gap k l

  scan-mark : (j : ℕ) → scan_of (MarkGap m) (blanks j) ≡ MarkGap m
  scan-mark zero = refl
  scan-mark (suc j) = scan-mark j

  scan-power : (s : Bool) (e : ℕ) (ds : List ℕ) → Digits ds
      → scan_of (Power m s e) (digits_text ds) ≡ Power m s (num_from e ds)
  scan-power s e [] h = refl
  scan-power s e (d ∷ ds) h = scan-digit (Power m s e) d (digits_text ds) h.0 ∙ scan-power s (e * 10 + d) ds h.1

  -- where the reading stands behind what opens an exponent
  abbrev after : Opening → Scan
  after (by_sign k g) = PowerSign m g
  after (by_mark k g) = PowerSign m g
  after (by_bare k zero) = Mark m
  after (by_bare k (suc j)) = MarkGap m

  scan-open : (o : Opening) → scan_of (Fraction m) (open_text o) ≡ after o
  scan-open (by_sign zero false) = refl
  scan-open (by_sign zero true) = refl
  scan-open (by_sign (suc k) false) = scan-gap k (43 ∷ [])
  scan-open (by_sign (suc k) true) = scan-gap k (45 ∷ [])
  scan-open (by_mark zero false) = refl
  scan-open (by_mark zero true) = refl
  scan-open (by_mark (suc k) false) = scan-gap k (69 ∷ 43 ∷ [])
  scan-open (by_mark (suc k) true) = scan-gap k (69 ∷ 45 ∷ [])
  scan-open (by_bare zero zero) = refl
  scan-open (by_bare zero (suc j)) = scan-mark j
  scan-open (by_bare (suc k) zero) = scan-gap k (69 ∷ [])
  scan-open (by_bare (suc k) (suc j)) = scan-gap k (69 ∷ blanks (suc j)) ∙ scan-mark j

  after-digit : (o : Opening) (d : ℕ) → scan_step (after o) (column digit d false) ≡ Power m (below o) d
  after-digit (by_sign k g) d = refl
  after-digit (by_mark k g) d = refl
  after-digit (by_bare k zero) d = refl
  after-digit (by_bare k (suc j)) d = refl

  -- the digits with a tail
  abbrev said_by : Tail → Reading
  said_by t = Number (value_of m.negative m.number (exponent_of t -ℤ pos m.places))

  finish-plain : (k : ℕ) → finish (scan_of (Fraction m) (blanks k)) ≡ said_by (plain k)
  unfolding finish
  finish-plain zero = refl
  finish-plain (suc k) =
      ap finish (ap (λ (l : List ℕ). scan_of (Gap m) l) (sym (append-nil (blanks k))) ∙ scan-gap k [])

  finish-tail : (t : Tail) → GoodTail t → finish (scan_of (Fraction m) (tail_text t)) ≡ said_by t
  unfolding finish
  finish-tail (plain k) h = finish-plain k
  finish-tail (power o []) h = absurd (omega arith)
  finish-tail (power o (d ∷ ds)) h =
      ap finish
      (scan-append (open_text o) (digits_text (d ∷ ds)) (Fraction m)
      ∙ ap (λ (s : Scan). scan_of s (digits_text (d ∷ ds))) (scan-open o)
      ∙ scan-digit (after o) d (digits_text ds) h.0.0
      ∙ ap (λ (s : Scan). scan_of s (digits_text ds)) (after-digit o d)
      ∙ scan-power (below o) d ds h.0.1
      ∙ ap (λ (e : ℕ). Power m (below o) (num_from e ds)) (sym (zero-add d)))

-- ---- the field

pub reads-field : (f : Field) → GoodField f → read_field (write f) ≡ Number (meaning f)
unfolding read_field write
reads-field f h =
    let a = digits_text f.whole in
    let b = digits_text f.part in
    let t = tail_text f.tail in
    ap finish
    (scan-lead f.lead _ ∙ scan-sign f.sign _
    ∙ ap (λ (l : List ℕ). scan_of (begun f.sign) l) (sym (append_assoc a (46 ∷ b) t))
    ∙ scan-append (a ++ (46 ∷ b)) t (begun f.sign)
    ∙ ap (λ (s : Scan). scan_of s t) (scan-digits f.sign f.whole f.part h.digits h.some))
    ∙ finish-tail _ f.tail h.tail
