-- A decimal in hand that a call has read.
-- Assumes nothing.
use Prim.Native.Nat.{ℕ}
use mathlib.Core.Path.{◌≡◌, refl, sym, ap, ◌∙◌}
use mathlib.Core.Bool.{Bool, true, false, cond}
use mathlib.Core.List.{List}
use mathlib.Core.Logic.{inl, inr}
use native.Mathlib.Omega.{arith}
use borrow.Author.Tests.{eqb-true, eqb-false}
use lib.Dec.{eqb}
use lib.ListN.{length}
use Rattle.paper_number.specs.declared.types.Decimal.{Decimal}
use Rattle.paper_number.specs.declared.types.FieldRead.{FieldRead}
use Rattle.paper_number.specs.declared.types.Reading.{Reading}
use Rattle.paper_number.specs.declared.types.Reading.TheVariants.{Number, Refused}
use Rattle.paper_number.specs.Value.{decimal, Normal}
use Rattle.paper_number.specs.Reading.{read_field}
use Rattle.paper_number.specs.Digits.{field_read, number_read}
use Rattle.paper_number.proofs.Equation.{not-zero}
use Rattle.paper_number.proofs.Laws.{reads-exactly, eleven-read, others-refused}
use Rattle.paper_record.specs.declared.types.LineNo.{LineNo}
use Rattle.paper_questions.specs.declared.types.ValueAnswer.{ValueAnswer}
use Rattle.paper_questions.specs.Ask.{value_asked}
use Rattle.std.specs.Prelude.{None}
use Rattle.paper_walk.specs.declared.types.Step.{Step}
use Rattle.paper_walk.specs.Walk.{start_of, stands, onward, field_next, step_of, given_at, at_place}
use Rattle.paper_walk.specs.Claims.{value_there}
use Rattle.paper_walk.proofs.Steps.{same_place}
use Rattle.walk_laws.proofs.Walked.{walk-gives, walk-once}
use Rattle.paper_double.specs.Double.{simple_of, doubled}
use Rattle.paper_double_asking.specs.Ask.{double_asked, double_from_row, double_by_index}
use Rattle.double_laws.proofs.FieldsRead.{Columns, ReadFrom, read-from, asked-columns, row-columns, index-columns}
use Rattle.double_in_hand.specs.OfReading.{of_decimal, HandSame, HandRead, HandAsked, HandFromRow, HandByIndex, HandStep, HandWalked}
use Rattle.double_in_hand.proofs.Hand.{own_sign}

pub normal-same : (d : Decimal) → Normal d → of_decimal d ≡ simple_of d
normal-same d (inl g) =
    ap (λ (s : Bool). simple_of (decimal s d.coefficient d.power))
    (own_sign d.negative d.coefficient (not-zero g))
normal-same d (inr z) = rw z refl

-- columns that say a number, and what is made of it
read_same : (l : List ℕ) (d : Decimal) (r : Reading) → read_field l ≡ Number d → r ≡ Number d → of_decimal d ≡ doubled r
read_same l d r e q = normal-same d ((reads-exactly l d).0 e).means.normal ∙ ap doubled (sym q)

pub hand-same : HandSame
hand-same l d e = read_same l d (read_field l) e e

-- a slice that is read as a number has eleven columns
pub eleven-columns : (l : List ℕ) (d : Decimal) → (number_read l).reading ≡ Number d → ReadFrom d
unfolding number_read
eleven-columns l d e = by_length (eqb (length l) 11) refl
  where
    by_length : (t : Bool) → eqb (length l) 11 ≡ t → ReadFrom d
    by_length true q =
        let w = eqb-true (length l) 11 q in
        record { columns = l; wide = w; read = sym (eleven-read l w) ∙ e }
    by_length false q =
        let r : Refused 40 ≡ Number d = sym (others-refused l (eqb-false (length l) 11 q)) ∙ e in
        let z : ◌≡◌ {A = ℕ} 0 1 = cc in
        absurd (omega arith)

pub hand-read : HandRead
hand-read l d e = let f = eleven-columns l d e in read_same f.columns d (number_read l).reading f.read e

answer-same : (v : ValueAnswer) (d : Decimal) → Columns v → v.value ≡ Number d → of_decimal d ≡ doubled v.value
answer-same v d c e = let f = read-from v d c e in read_same f.columns d v.value f.read e

pub hand-asked : HandAsked
unfolding double_asked
hand-asked s n section line column d e = answer-same _ d (asked-columns s line column n section) e

pub hand-from-row : HandFromRow
unfolding double_from_row
hand-from-row s row section line column d e = answer-same _ d (row-columns s line column row section) e

pub hand-by-index : HandByIndex
unfolding double_by_index
hand-by-index s index n section line column d e = answer-same _ d (index-columns s line column index n section) e

-- ---- of a walk

pub hand-step : HandStep
unfolding step_of field_read
hand-step s w line column field d = by-stands (stands w)
  where
    by-stands : (t : Bool)
        → (cond {A = Step} t (record { walk = onward w; given = at_place w.line w.column (field_read (field_next s w)) })
        (record { walk = w; given = None })).given
        ≡ at_place line column field
        → field.reading ≡ Number d → of_decimal d ≡ doubled field.reading
    by-stands true g e =
        let q : field_read (field_next s w) ≡ field = (same_place w.line line w.column column _ field g).1.1 in
        read_same (field_next s w) d field.reading (ap (λ (f : FieldRead). f.reading) q ∙ e) e
    by-stands false g e = let z : ◌≡◌ {A = ℕ} 0 1 = cc in absurd (omega arith)

-- what a walk gives is what the value question says there
pub walked-value : (s : List ℕ) (n section : ℕ) → (start_of s n section).answer.number ≡ 0
    → (i : ℕ) (line : LineNo) (column : ℕ) (field : FieldRead)
    → given_at s (start_of s n section) i ≡ at_place line column field
    → (value_asked s n section line column).value ≡ field.reading
walked-value s n section made i line column field g =
    let (t, p) = walk-once s n section made i line column field g in
    let v = value_there s n section line column in
    let h : at_place line column v ≡ at_place line column field = sym (rw (← t) at (walk-gives s n section made line column p)) ∙ g in
    let same : v ≡ field = (same_place line line column column v field h).1.1 in
    ap (λ (f : FieldRead). f.reading) same

pub hand-walked : HandWalked
hand-walked s n section made i line column field d g e =
    hand-asked s n section line column d (walked-value s n section made i line column field g ∙ e)
