-- What each answer tells of a field, one law for each.
-- Assumes nothing.
use mathlib.Core.Path.{◌≡◌, refl, sym, ap, ◌∙◌}
use mathlib.Core.Bool.{Bool, true, false, cond}
use mathlib.Core.List.{List}
use Prim.Native.Nat.{ℕ, zero, suc, ◌/◌, ◌%◌}
use native.Mathlib.Omega.{arith}
use lib.Dec.{eqb}
use Rattle.laws.proofs.Booleans.{differ, either-as}
use Rattle.std.specs.Prelude.{is_some}
use Rattle.paper_number.specs.declared.types.Form.{Form}
use Rattle.paper_number.specs.declared.types.Form.TheVariants as F
use Rattle.paper_number.specs.Form.{form_of}
use Rattle.paper_number.specs.Reading.{read_field}
use Rattle.paper_number.specs.declared.types.Spelt.{Spelt}
use Rattle.paper_number.specs.declared.types.Spelt.TheVariants as S
use Rattle.paper_number.specs.Walk.{spelt}
use Rattle.paper_number.specs.Spelt.{reading_of}
use Rattle.paper_number.proofs.SpeltReading.{spelt-says}
use Rattle.paper_number.specs.declared.types.WholeRead.{WholeRead}
use Rattle.paper_number.specs.declared.types.WholeRead.TheVariants.{NoNumber, Raised, Broken, Whole}
use Rattle.paper_number.specs.Whole.{spells_exponent, has_exponent, below_zero, whole_from, whole_of, whole_read, whole_is}

-- ---- the form of what is spelt

abbrev form_spelt : Spelt → Form
form_spelt S.Blank = F.Blank
form_spelt S.Malformed = F.Malformed
form_spelt (S.Number n) = F.Number

form-by : (x : Spelt) → form_of (reading_of x) ≡ form_spelt x
form-by S.Blank = refl
form-by S.Malformed = refl
form-by (S.Number n) = refl

form-spelt : (l : List ℕ) → form_of (read_field l) ≡ form_spelt (spelt l)
form-spelt l = ap form_of (sym (spelt-says l)) ∙ form-by (spelt l)

-- ---- whether a number is spelt

abbrev pub formed : Spelt → Bool
formed S.Blank = false
formed S.Malformed = false
formed (S.Number n) = true

-- what says a number spells one
number_by : (x : Spelt) → form_spelt x ≡ F.Number → formed x ≡ true
number_by S.Blank e = let z : ◌≡◌ {A = ℕ} 0 1 = cc in absurd (omega arith)
number_by S.Malformed e = let z : ◌≡◌ {A = ℕ} 0 1 = cc in absurd (omega arith)
number_by (S.Number n) e = refl

pub number-spelt : (l : List ℕ) → form_of (read_field l) ≡ F.Number → formed (spelt l) ≡ true
number-spelt l e = number_by (spelt l) (sym (form-spelt l) ∙ e)

formed-form : (x : Spelt) → formed x ≡ true → form_spelt x ≡ F.Number
formed-form S.Blank e = differ (sym e)
formed-form S.Malformed e = differ (sym e)
formed-form (S.Number n) e = refl

-- only a number has an exponent
pub raised-formed : (x : Spelt) → spells_exponent x ≡ true → formed x ≡ true
raised-formed S.Blank e = e
raised-formed S.Malformed e = e
raised-formed (S.Number n) e = refl

-- ---- whether an answer is of a number, and of one with an exponent

abbrev pub tells_number : WholeRead → Bool
tells_number NoNumber = false
tells_number Raised = true
tells_number Broken = true
tells_number (Whole v) = true

abbrev pub tells_exponent : WholeRead → Bool
tells_exponent NoNumber = false
tells_exponent Raised = true
tells_exponent Broken = false
tells_exponent (Whole v) = false

-- of a number without
abbrev Plain : WholeRead → Type 0
Plain r = (tells_number r ≡ true) × (tells_exponent r ≡ false)

from-plain : (p v : ℕ) → Plain (whole_from p v)
unfolding whole_from
from-plain zero v = (refl, refl)
from-plain (suc p) v =
    either-as Plain (eqb (v % 10) 0) (whole_from p (v / 10)) Broken (λ e. from-plain p (v / 10)) (λ e. (refl, refl))

module _ (w : WholeRead) (plain : Plain w) where
  tells-by : (r b : Bool)
      → (tells_number (cond r Raised (cond b Broken w)) ≡ true)
      × (tells_exponent (cond r Raised (cond b Broken w)) ≡ r)
  tells-by true b = (refl, refl)
  tells-by false true = (refl, refl)
  tells-by false false = plain

tells : (x : Spelt) → (tells_number (whole_of x) ≡ formed x) × (tells_exponent (whole_of x) ≡ spells_exponent x)
tells S.Blank = (refl, refl)
tells S.Malformed = (refl, refl)
tells (S.Number n) =
    tells-by (whole_from n.places n.number) (from-plain n.places n.number)
    (is_some n.exponent) (below_zero n.negative n.number)

pub formed-told : (l : List ℕ) → formed (spelt l) ≡ tells_number (whole_read l)
unfolding whole_read
formed-told l = sym (tells (spelt l)).0

pub exponent-told : (l : List ℕ) → has_exponent l ≡ tells_exponent (whole_read l)
unfolding whole_read has_exponent
exponent-told l = sym (tells (spelt l)).1

-- a test for numbers among the forms
pub number-told : (l : List ℕ) (test : Form → Bool)
    → test F.Number ≡ true → test F.Blank ≡ false → test F.Malformed ≡ false
    → test (form_of (read_field l)) ≡ tells_number (whole_read l)
number-told l test a b c =
    ap test (form-spelt l) ∙ by (spelt l) ∙ formed-told l
  where
    by : (x : Spelt) → test (form_spelt x) ≡ formed x
    by S.Blank = b
    by S.Malformed = c
    by (S.Number n) = a

-- ---- the answers

module _ (l : List ℕ) where
  form-told : tells_number (whole_read l) ≡ true → form_of (read_field l) ≡ F.Number
  form-told e = form-spelt l ∙ formed-form (spelt l) (formed-told l ∙ e)

  pub told-broken : whole_read l ≡ Broken
      → (form_of (read_field l) ≡ F.Number) × (has_exponent l ≡ false) × ((n : ℕ) → whole_is l n ≡ false)
  unfolding whole_is
  told-broken e = (form-told (ap tells_number e), exponent-told l ∙ ap tells_exponent e, λ n. rw e refl)

  pub told-whole : (v : ℕ) → whole_read l ≡ Whole v
      → (form_of (read_field l) ≡ F.Number) × (has_exponent l ≡ false) × ((n : ℕ) → whole_is l n ≡ eqb v n)
  unfolding whole_is
  told-whole v e = (form-told (ap tells_number e), exponent-told l ∙ ap tells_exponent e, λ n. rw e refl)
