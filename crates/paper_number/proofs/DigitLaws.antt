-- The count of digits that the reading tells is that of the digits written.
-- Assumes nothing.
use mathlib.Core.Path.{◌≡◌, refl, sym, ◌∙◌, ap}
use mathlib.Core.Bool.{Bool, true, false, cond}
use mathlib.Core.List.{List, [], ◌∷◌, ◌++◌}
use mathlib.Core.Logic.{◌↔◌}
use Prim.Native.Nat.{ℕ, zero, suc, ◌+◌, ◌*◌, ◌^◌, ◌<◌, ◌≤◌}
use native.Mathlib.Nat.{mul-le-mul_right, mul_assoc, one-mul, zero-mul, le_trans, le_of_eq}
use native.Mathlib.Omega.{arith}
use borrow.Author.Tests.{eqb-true}
use lib.Dec.{eqb}
use lib.ListN.{length, length-append, replicate}
use Rattle.paper_number.specs.declared.types.Decimal.{Decimal}
use Rattle.paper_number.specs.declared.types.Reading.{Reading}
use Rattle.paper_number.specs.declared.types.Reading.TheVariants.{Blank, Number, Refused}
use Rattle.paper_number.specs.Grammar.{Digits, digits_text, num_from, num, Tail, plain, Field, write, Spells}
use Rattle.paper_number.specs.Value.{meaning, digits_of}
use Rattle.paper_number.specs.Reading.{Mantissa, Scan, Lead, Signed, Whole, Point, Fraction, Gap, Mark, MarkGap, PowerSign}
use Rattle.paper_number.specs.Reading.{Power, Bad, scan_of, finish, read_field}
use Rattle.paper_number.proofs.Tens.{ten-suc, ten-cancel}
use Rattle.paper_number.proofs.Bounds.{num-lt, text-length}
use Rattle.paper_number.proofs.Reach.{Reach, reached}
use Rattle.paper_number.proofs.Ended.{Ended, ended-gap, ended-fraction, ended-power}
use Rattle.paper_number.proofs.Laws.{spelt-once, reads-field, reads-exactly}
use Rattle.paper_number.specs.Count.{count, count_from, significant}
use Rattle.paper_number.specs.Digits.{CountsFrom, DigitsWritten, digit_count_at, digit_count}
use Rattle.paper_number.specs.DigitClaims.{DigitsExactly, DigitsNone, DigitsZero, DigitsMost, DigitsShown}
use Rattle.paper_number.proofs.Count.{significant-is, count-pos}

-- ---- digits behind zeros

at_least : (a : ℕ) (l : List ℕ) → a * 10 ^ length l ≤ num_from a l
at_least a [] = omega arith
at_least a (d ∷ l) =
    let g : a * 10 ≤ a * 10 + d = omega arith in
    le_trans (le_of_eq (rw (ten-suc (length l)) (sym (mul_assoc a 10 (10 ^ length l)))))
    (le_trans (mul-le-mul_right (10 ^ length l) g) (at_least (a * 10 + d) l))

none_first : (d : ℕ) (others : List ℕ) → [] ≡ d ∷ others → 0 < d
none_first d others e = let z : length {A = ℕ} [] ≡ suc (length others) = ap length e in absurd (omega arith)

-- a number has as many digits as its list has behind the zeros
pub counts-from : (l : List ℕ) → Digits l → CountsFrom l (significant (num l))
counts-from [] h = record { zeros = 0; rest = []; split = refl; first = none_first; long = refl }
counts-from (zero ∷ l) h =
    let r = counts-from l h.1 in
    record {
      zeros = suc r.zeros;
      rest = r.rest;
      split = ap (λ (x : List ℕ). 0 ∷ x) r.split;
      first = r.first;
      long = r.long;
    }
counts-from (suc d ∷ l) h =
    let N = num (suc d ∷ l) in
    let g : 1 ≤ 0 + suc d = omega arith in
    let low : 10 ^ length l ≤ N =
    le_trans (le_of_eq (sym (one-mul (10 ^ length l))))
    (le_trans (mul-le-mul_right (10 ^ length l) g) (at_least (0 + suc d) l)) in
    record {
      zeros = 0;
      rest = suc d ∷ l;
      split = refl;
      first = λ e others q. let z : suc d ≡ e = cc in omega arith;
      long = sym (significant-is (length l) low (num-lt (suc d ∷ l) h));
    }

-- one count for the same digits
replicate-first : (k : ℕ) (r : List ℕ) (d : ℕ) (others : List ℕ) → 0 < d → replicate k 0 ++ r ≡ d ∷ others → k ≡ 0
replicate-first zero r d others h e = refl
replicate-first (suc k) r d others h e = let z : 0 ≡ d = cc in absurd (omega arith)

counts-one : (l : List ℕ) (m n : ℕ) → CountsFrom l m → CountsFrom l n → m ≡ n
counts-one l m n x y = by x.zeros y.zeros x.rest y.rest (sym x.split ∙ y.split) x.first y.first
    x.long y.long
  where
    by : (j k : ℕ) (r s : List ℕ) → replicate j 0 ++ r ≡ replicate k 0 ++ s
        → ((d : ℕ) (o : List ℕ) → r ≡ d ∷ o → 0 < d) → ((d : ℕ) (o : List ℕ) → s ≡ d ∷ o → 0 < d)
        → m ≡ length r → n ≡ length s → m ≡ n
    by zero zero r s e f g p q = p ∙ ap length e ∙ sym q
    by (suc j) (suc k) r s e f g p q =
        let t : replicate j 0 ++ r ≡ replicate k 0 ++ s = cc in
        by j k r s t f g p q
    by zero (suc k) r s e f g p q = let z = f 0 (replicate k 0 ++ s) e in absurd (omega arith)
    by (suc j) zero r s e f g p q = let z = g 0 (replicate j 0 ++ r) (sym e) in absurd (omega arith)

-- ---- where the reading of a field ends

no : {X : Type 0} → true ≡ false → X
no e = let z : ◌≡◌ {A = ℕ} 0 1 = cc in absurd (omega arith)

-- it says a number
abbrev says_number : Reading → Bool
says_number Blank = false
says_number (Number v) = true
says_number (Refused n) = false

module _ (l : List ℕ) where
  ended-count : (f : Field) → Spells l f → (m : Mantissa) (t : Tail) → Ended l m t
      → DigitsWritten f (significant m.number)
  ended-count f s m t x =
      let e : x.field ≡ f = spelt-once l x.field f x.spells s in
      rw (← x.number, ← e) (counts-from (x.field.whole ++ x.field.part) x.spells.good.digits)

  -- where it says a number it ends in the digits of a field
  ended_at : (s : Scan) → Reach l s → says_number (finish s) ≡ true
      → (P : ℕ → Type 0) → ((m : Mantissa) (t : Tail) → Ended l m t → P (significant m.number)) → P (digit_count_at s)
  unfolding finish
  ended_at Lead r q P h = no (sym q)
  ended_at (Signed g) r q P h = no (sym q)
  ended_at (Whole g c) r q P h = no (sym q)
  ended_at (Point g) r q P h = no (sym q)
  ended_at (Fraction m) r q P h = h m (plain 0) (ended-fraction l m r)
  ended_at (Gap m) (k, r) q P h = h m (plain k) (ended-gap l m k r)
  ended_at (Mark m) r q P h = no (sym q)
  ended_at (MarkGap m) r q P h = no (sym q)
  ended_at (PowerSign m g) r q P h = no (sym q)
  ended_at (Power m g e) r q P h = h m _ (ended-power l m g e r)
  ended_at Bad r q P h = no (sym q)

  -- where it says none the count is 0
  unsaid-at : (t : Scan) → says_number (finish t) ≡ false → digit_count_at t ≡ 0
  unfolding finish
  unsaid-at Lead q = refl
  unsaid-at (Signed g) q = refl
  unsaid-at (Whole g c) q = refl
  unsaid-at (Point g) q = refl
  unsaid-at (Fraction m) q = no q
  unsaid-at (Gap m) q = no q
  unsaid-at (Mark m) q = refl
  unsaid-at (MarkGap m) q = refl
  unsaid-at (PowerSign m g) q = refl
  unsaid-at (Power m g e) q = no q
  unsaid-at Bad q = refl

spelt-said : (l : List ℕ) (f : Field) → Spells l f → read_field l ≡ Number (meaning f)
spelt-said l f s = ap read_field (sym s.same) ∙ reads-field f s.good

digits-written : (l : List ℕ) (f : Field) → Spells l f → DigitsWritten f (digit_count l)
unfolding digit_count read_field
digits-written l f s =
    ended_at l (scan_of Lead l) (reached l) (ap says_number (spelt-said l f s)) (DigitsWritten f) (ended-count l f s)

-- ---- the laws

pub digits-exactly : DigitsExactly
digits-exactly l f s n = (
  λ e. rw (← e) (digits-written l f s),
  λ x. counts-one (f.whole ++ f.part) (digit_count l) n (digits-written l f s) x,
)

pub digits-none : DigitsNone
unfolding digit_count
digits-none l none = by (says_number (finish (scan_of Lead l))) refl
  where
    by : (b : Bool) → says_number (finish (scan_of Lead l)) ≡ b → digit_count_at (scan_of Lead l) ≡ 0
    by true e = absurd (ended_at l (scan_of Lead l) (reached l) e (λ n. ⊥) (λ m t x. none x.field x.spells))
    by false e = unsaid-at l (scan_of Lead l) e

-- the same by what the columns say
pub digits-unsaid : (l : List ℕ) → ((v : Decimal) → read_field l ≡ Number v → ⊥) → digit_count l ≡ 0
digits-unsaid l h = digits-none l (λ f s. h (meaning f) (spelt-said l f s))

-- ---- zero

zero-too : (a b m n : ℕ) → a * 10 ^ m ≡ b * 10 ^ n → a ≡ 0 → b ≡ 0
zero-too a b m n e z =
    let q : 0 * 10 ^ m ≡ b * 10 ^ n = rw z at e in
    ten-cancel b 0 n (sym q ∙ zero-mul (10 ^ m) ∙ sym (zero-mul (10 ^ n)))

none-zero : (v : ℕ) → significant v ≡ 0 → v ≡ 0
none-zero v e = by (eqb v 0) refl e
  where
    by : (b : Bool) → eqb v 0 ≡ b → cond b 0 (count v) ≡ 0 → v ≡ 0
    by true q z = eqb-true v 0 q
    by false q z = absurd (omega (arith, z, count-pos v))

pub digits-zero : DigitsZero
unfolding digit_count read_field
digits-zero l v e =
    ended_at l (scan_of Lead l) (reached l) (ap says_number e) (λ n. (n ≡ 0) ↔ (v.coefficient ≡ 0)) by_end
  where
    by_end : (m : Mantissa) (t : Tail) → Ended l m t → (significant m.number ≡ 0) ↔ (v.coefficient ≡ 0)
    by_end m t x =
        let r = (reads-exactly l v).0 e in
        let f = spelt-once l x.field r.field x.spells r.spells in
        let same : digits_of r.field ≡ m.number = ap digits_of (sym f) ∙ x.number in
        let a = digits_of r.field in
        let c = v.coefficient in
        let size = r.means.size in (
          λ z. zero-too a c size.m size.n size.numbers (same ∙ none-zero m.number z),
          λ z. ap significant (sym same ∙ zero-too c a size.n size.m (sym size.numbers) z),
        )

-- ---- eleven columns

counts-most : (l : List ℕ) (n : ℕ) → CountsFrom l n → n ≤ length l
counts-most l n x =
    let e = ap length x.split ∙ length-append (replicate x.zeros 0) x.rest in
    omega (arith, e, x.long)

-- a field is longer than its digits
longer : (l : List ℕ) (f : Field) → Spells l f → length (f.whole ++ f.part) < length l
unfolding write
longer l f s =
    let e = ap length s.same in
    let y = rw (length-append, length-append, length-append, length-append, text-length f.whole) at e in
    let z : length (digits_text f.part) ≡ length f.part = text-length f.part in
    rw (length-append f.whole f.part) (omega arith)

pub digits-most : DigitsMost
unfolding digit_count
digits-most l w = by (says_number (finish (scan_of Lead l))) refl
  where
    by_end : (m : Mantissa) (t : Tail) → Ended l m t → significant m.number ≤ 10
    by_end m t x =
        let f = x.field in
        let written = ended-count l f x.spells m t x in
        let n = counts-most (f.whole ++ f.part) (significant m.number) written in
        omega (arith, n, longer l f x.spells, w)

    by : (b : Bool) → says_number (finish (scan_of Lead l)) ≡ b → digit_count_at (scan_of Lead l) ≤ 10
    by true e = ended_at l (scan_of Lead l) (reached l) e (λ n. n ≤ 10) by_end
    by false e = rw (unsaid-at l (scan_of Lead l) e) (omega arith)

-- ---- the paper's own

pub digits-shown : DigitsShown
unfolding digit_count count count_from
digits-shown = (refl, refl, refl)
