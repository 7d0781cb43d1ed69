-- What is told of exponents and whole numbers is so.
-- Assumes nothing.
use mathlib.Core.Path.{◌≡◌, refl, sym, ap, ◌∙◌}
use mathlib.Core.Bool.{Bool, true, false, cond}
use mathlib.Core.List.{List}
use Prim.Native.Nat.{ℕ}
use native.Mathlib.Omega.{arith}
use borrow.Author.Tests.{eqb-true, eq-eqb}
use lib.IntN.{pos, ◌-ℤ◌}
use Rattle.laws.proofs.Booleans.{differ}
use Rattle.std.specs.Prelude.{Option, Some, None, is_some}
use Rattle.paper_number.specs.declared.types.Reading.TheVariants.{Number}
use Rattle.paper_number.specs.Value.{value_of}
use Rattle.paper_number.specs.Form.{form_of}
use Rattle.paper_number.specs.Reading.{read_field}
use Rattle.paper_number.specs.declared.types.Exponent.{Exponent}
use Rattle.paper_number.specs.declared.types.SpeltNumber.{SpeltNumber}
use Rattle.paper_number.specs.declared.types.Spelt.{Spelt}
use Rattle.paper_number.specs.declared.types.Spelt.TheVariants as S
use Rattle.paper_number.specs.Walk.{spelt_at, spelt}
use Rattle.paper_number.proofs.SpeltReading.{spelt-says}
use Rattle.paper_number.specs.declared.types.WholeRead.{WholeRead}
use Rattle.paper_number.specs.declared.types.WholeRead.TheVariants as W
use Rattle.paper_number.specs.Whole.{spells_exponent, has_exponent, below_zero, whole_from, whole_read, says_whole, whole_is}
use Rattle.paper_number.specs.WholeClaims.{ExponentExactly, WholeExactly, WholeShown}
use Rattle.paper_number.proofs.WholeFrom.{from-exact, from-whole}
use Rattle.paper_number.proofs.WholeTold.{formed, number-spelt, formed-told, exponent-told}
use Rattle.paper_number.proofs.WholeTold.{tells_number, tells_exponent}
use Rattle.paper_number.proofs.WholeEnded.{exponent-of, raised-field}
use Rattle.paper_number.proofs.WholeExact.{value-whole, whole-value, not-minus}

-- ---- exponents

pub exponent-exactly : ExponentExactly
exponent-exactly l = (raised-field l, λ x. exponent-of l x.field x.spells ∙ x.raised)

-- ---- whole numbers

-- a number is spelt, with no exponent
record Plain (l : List ℕ) : Type 0 where
  number : SpeltNumber
  spelling : spelt l ≡ S.Number number
  none : number.exponent ≡ None

none-by : (x : Option Exponent) → is_some x ≡ false → x ≡ None
none-by None e = refl
none-by (Some x) e = differ e

plain-by : (l : List ℕ) (x : Spelt) → spelt l ≡ x → formed x ≡ true → spells_exponent x ≡ false → Plain l
plain-by l S.Blank q f e = differ (sym f)
plain-by l S.Malformed q f e = differ (sym f)
plain-by l (S.Number n) q f e = record { number = n; spelling = q; none = none-by n.exponent e }

plain-spelt : (l : List ℕ) → formed (spelt l) ≡ true → has_exponent l ≡ false → Plain l
unfolding has_exponent
plain-spelt l f e = plain-by l (spelt l) refl f e

says-by : (r : WholeRead) (n : ℕ) → says_whole r n ≡ true → r ≡ W.Whole n
says-by W.NoNumber n e = differ (sym e)
says-by W.Raised n e = differ (sym e)
says-by W.Broken n e = differ (sym e)
says-by (W.Whole v) n e = ap W.Whole (eqb-true v n e)

not-broken : (b : Bool) (w : WholeRead) (n : ℕ) → cond b W.Broken w ≡ W.Whole n
    → (b ≡ false) × (w ≡ W.Whole n)
not-broken true w n e = let z : ◌≡◌ {A = ℕ} 0 1 = cc in absurd (omega arith)
not-broken false w n e = (refl, e)

module _ (l : List ℕ) (n : ℕ) where
  -- what a field without exponent says
  said_plain : (x : Plain l)
      → read_field l ≡ Number (value_of x.number.negative x.number.number (pos 0 -ℤ pos x.number.places))
  said_plain x = sym (spelt-says l) ∙ rw (x.spelling, x.none) refl

  whole_by : (x : Plain l)
      → whole_read l ≡ cond (below_zero x.number.negative x.number.number) W.Broken
      (whole_from x.number.places x.number.number)
  unfolding whole_read
  whole_by x = rw (x.spelling, x.none) refl

  whole-reads : whole_is l n ≡ true
      → (has_exponent l ≡ false) × (read_field l ≡ Number (value_of false n (pos 0)))
  unfolding whole_is
  whole-reads h =
      let w : whole_read l ≡ W.Whole n = says-by (whole_read l) n h in
      let e = exponent-told l ∙ ap tells_exponent w in
      let x = plain-spelt l (formed-told l ∙ ap tells_number w) e in
      let y = x.number in
      let (b, d) = not-broken _ _ n (sym (whole_by x) ∙ w) in (
        e,
        said_plain x
            ∙ ap Number (value-whole y.negative y.number n y.places b (from-whole y.places y.number n d)),
      )

  reads_whole : has_exponent l ≡ false → read_field l ≡ Number (value_of false n (pos 0)) → whole_is l n ≡ true
  unfolding whole_is
  reads_whole e q =
      let x = plain-spelt l (number-spelt l (ap form_of q)) e in
      let y = x.number in
      let r = sym (said_plain x) ∙ q in
      let v : value_of y.negative y.number (pos 0 -ℤ pos y.places) ≡ value_of false n (pos 0) = cc in
      let b = not-minus y.negative y.number n y.places v in
      let d = whole-value y.negative y.number n y.places v in
      let w : whole_read l ≡ W.Whole n = whole_by x ∙ rw (b, d) (from-exact y.places n) in
      rw w (eq-eqb n n refl)

pub whole-exactly : WholeExactly
whole-exactly l n = (whole-reads l n, λ x. reads_whole l n x.0 x.1)

-- ---- some fields

pub whole-shown : WholeShown
unfolding whole_read whole_from spelt spelt_at
whole-shown = (refl, refl, refl, refl, refl, refl)
