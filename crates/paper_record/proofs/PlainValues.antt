-- Values by the grammar: a field's form is told by what it reads to, and that by its columns.
-- Assumes nothing.
use Prim.Native.Nat.{ℕ}
use mathlib.Core.Path.{◌≡◌, refl, sym, ap, ◌∙◌}
use mathlib.Core.Bool.{Bool, true, false}
use mathlib.Core.List.{List}
use native.Mathlib.Omega.{arith}
use lib.ListN.{length, take}
use lib.Seq.{take_all}
use Rattle.paper_number.specs.declared.types.Reading.{Reading}
use Rattle.paper_number.specs.declared.types.Reading.TheVariants.{Blank, Number}
use Rattle.paper_number.specs.declared.types.Form.TheVariants as Form
use Rattle.paper_number.specs.Grammar.{blanks}
use Rattle.paper_number.specs.Value.{Says, blank, number, malformed}
use Rattle.paper_number.specs.Reading.{read_field}
use Rattle.paper_number.specs.Form.{form_of}
use Rattle.paper_number.proofs.Laws.{says_exactly}
use Rattle.paper_record.specs.Numbers.{form_at, says_number, no_value}
use Rattle.paper_record.specs.Plain.{AllBlank, NumberField, NumberOrBlank, a_number, a_blank, ValueExactly}
use Rattle.paper_record.specs.Plain.{UnusedExactly, NumberExactly, BlankAlike}
use Rattle.paper_record.proofs.PlainColumns.{blank-exactly}

module _ (f : List ℕ) where
  said : Says f (read_field f)
  said = (says_exactly f (read_field f)).0 refl

  blank-form : AllBlank f → form_at f ≡ Form.Blank
  blank-form b = rw ((says_exactly f Blank).1 (blank b))

  number-form : NumberField f → form_at f ≡ Form.Number
  number-form (v, r) = rw ((says_exactly f (Number v)).1 (number r))

  -- ---- values

  value-said : (optional : Bool) {r : Reading} → Says f r → no_value optional (form_of r) ≡ false
      → NumberOrBlank optional f
  value-said true (blank b) e = a_blank refl b
  value-said false (blank b) e = let z : ◌≡◌ {A = ℕ} 0 1 = cc in absurd (omega arith)
  value-said optional (number {v = v} r) e = a_number (v, r)
  value-said optional (malformed b n) e = let z : ◌≡◌ {A = ℕ} 0 1 = cc in absurd (omega arith)

  said-value : (optional : Bool) → NumberOrBlank optional f → no_value optional (form_at f) ≡ false
  said-value optional (a_number n) = rw (number-form n)
  said-value optional (a_blank o b) = rw (blank-form b, o) refl

  -- ---- blanks and numbers

  form-blank : {r : Reading} → Says f r → form_of r ≡ Form.Blank → AllBlank f
  form-blank (blank b) e = b
  form-blank (number r) e = let z : ◌≡◌ {A = ℕ} 0 1 = cc in absurd (omega arith)
  form-blank (malformed b n) e = let z : ◌≡◌ {A = ℕ} 0 1 = cc in absurd (omega arith)

  form-number : {r : Reading} → Says f r → says_number (form_of r) ≡ true → NumberField f
  form-number (blank b) e = let z : ◌≡◌ {A = ℕ} 0 1 = cc in absurd (omega arith)
  form-number (number {v = v} r) e = (v, r)
  form-number (malformed b n) e = let z : ◌≡◌ {A = ℕ} 0 1 = cc in absurd (omega arith)

pub value-exactly : ValueExactly
value-exactly optional f = (value-said f optional (said f), said-value f optional)

pub unused-exactly : UnusedExactly
unused-exactly f = (form-blank f (said f), blank-form f)

pub number-exactly : NumberExactly
number-exactly f = (form-number f (said f), λ n. rw (number-form f n))

-- blank by the columns, and by the reading
pub blank-alike : BlankAlike
blank-alike f wide =
    let all : take 11 f ≡ f = take_all 11 f (omega arith) in (
      λ e. blank-form f (sym all ∙ (blank-exactly 11 f).0 e ∙ ap (λ (n : ℕ). blanks n) (sym wide)),
      λ e. (blank-exactly 11 f).1 (all ∙ form-blank f (said f) e ∙ ap (λ (n : ℕ). blanks n) wide),
    )
