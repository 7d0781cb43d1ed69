-- The eight numbers of a value, handed over.
-- Assumes nothing.
use Prim.Native.Nat.{ℕ}
use mathlib.Core.Path.{◌≡◌, refl, sym, ap, ◌∙◌}
use mathlib.Core.Bool.{Bool, true, false, cond, not}
use mathlib.Core.List.{List}
use native.Mathlib.Omega.{arith}
use borrow.Author.Tests.{eqb-false}
use lib.Dec.{eqb}
use Rattle.paper_number.specs.declared.types.Decimal.{Decimal}
use Rattle.paper_number.specs.declared.types.FieldRead.{FieldRead}
use Rattle.paper_number.specs.declared.types.Reading.TheVariants.{Blank, Number}
use Rattle.paper_number.specs.Digits.{number_read}
use Rattle.paper_number.proofs.Laws.{reads-exactly, read-bounds-eleven}
use Rattle.paper_questions.specs.declared.types.ValueAnswer.{ValueAnswer}
use Rattle.paper_double.specs.Double.{doubled}
use Rattle.paper_double_asking.specs.Ask.{double_asked, double_by_index}
use Rattle.double_laws.proofs.FieldsRead.{Columns, ReadFrom, read-from, asked-columns, index-columns}
use Rattle.exports_words.specs.Words.{lent_after}
use Rattle.exports_values.specs.Values.{bit, value_numbers, reading_stored}
use Rattle.exports_values.proofs.Twos.{twos_back}
use Rattle.exports_parts.specs.Questions.{value_stored}
use Rattle.exports_simple.specs.Doubles.{decimal_simple}
use Rattle.double_in_hand.specs.Stored.{of_numbers, StoredRead, StoredAsked, StoredByIndex, StoredWalked}
use Rattle.double_in_hand.proofs.OfReading.{normal-same, eleven-columns, walked-value}

sign-back : (b : Bool) → not (eqb (bit b) 0) ≡ b
sign-back true = refl
sign-back false = refl

-- the eight numbers of a number
numbers-same : (before : List ℕ) (f : FieldRead) (d : Decimal) → ReadFrom d → f.reading ≡ Number d
    → of_numbers (reading_stored before f) ≡ doubled f.reading
unfolding reading_stored value_numbers
numbers-same before f d r e =
    let b = read-bounds-eleven r.columns d r.wide r.read in
    let s = sign-back d.negative in
    let p = twos_back d.power b.1 b.2 in
    rw e
    ((λ i. decimal_simple (s i) d.coefficient (p i))
    ∙ normal-same d ((reads-exactly r.columns d).0 r.read).means.normal)

pub stored-read : StoredRead
stored-read l before d e = numbers-same before (number_read l) d (eleven-columns l d e) e

-- a value that is a number is not refused
value_same : (before : List ℕ) (v : ValueAnswer) (d : Decimal) → Columns v → v.value ≡ Number d
    → of_numbers (value_stored before v) ≡ doubled v.value
unfolding value_stored lent_after
value_same before v d c e = by_number (eqb v.answer.number 0) refl
  where
    f : FieldRead
    f = record { reading = v.value; digits = v.digits }

    by_number : (t : Bool) → eqb v.answer.number 0 ≡ t
        → of_numbers (cond t (reading_stored before f) before) ≡ doubled v.value
    by_number true q = numbers-same before f d (read-from v d c e) e
    by_number false q =
        let b : Blank ≡ Number d = sym (c.refused (eqb-false v.answer.number 0 q)) ∙ e in
        let z : ◌≡◌ {A = ℕ} 0 1 = cc in
        absurd (omega arith)

pub stored-asked : StoredAsked
unfolding double_asked
stored-asked s before n section line column d e = value_same before _ d (asked-columns s line column n section) e

pub stored-by-index : StoredByIndex
unfolding double_by_index
stored-by-index s index before n section line column d e = value_same before _ d (index-columns s line column index n section) e

pub stored-walked : StoredWalked
unfolding double_asked
stored-walked s before n section made i line column field d g e =
    let q = walked-value s n section made i line column field g in
    rw g
    (numbers-same before field d (read-from _ d (asked-columns s line column n section) (q ∙ e)) e ∙ ap doubled (sym q))
