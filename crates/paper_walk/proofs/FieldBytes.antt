-- The field at a place is eleven bytes of the entry, or blank where there is no such record.
-- Assumes nothing.
use Prim.Native.Nat.{ℕ, zero, suc, ◌+◌, ◌-◌, ◌*◌, ◌<◌, ◌≤◌}
use mathlib.Core.Path.{◌≡◌, refl, sym, ◌∙◌, ap}
use mathlib.Core.Bool.{true, false, not}
use mathlib.Core.List.{List, [], ◌∷◌}
use native.Mathlib.Omega.{arith}
use lib.ListN.{length, take, drop, replicate, get_or-replicate, length-drop}
use lib.Seq.{length-take-le, take-take, drop-drop}
use lib.Dec.{eqb, leb}
use borrow.Author.Tests.{eq-eqb, lt-leb}
use Rattle.laws.proofs.Booleans.{and_none}
use Rattle.laws.specs.Blocks.{block_at}
use Rattle.paper_number.specs.declared.types.Reading.TheVariants.{Blank}
use Rattle.paper_number.specs.Grammar.{blanks}
use Rattle.paper_number.specs.Reading.{read_field}
use Rattle.paper_number.specs.Digits.{field_read, number_read}
use Rattle.paper_number.proofs.Laws.{blank-read, eleven-read}
use Rattle.paper_number.proofs.DigitLaws.{digits-unsaid}
use Rattle.paper_record.specs.Columns.{columns_at}
use Rattle.paper_record.specs.Places.{place_of}
use Rattle.paper_record.specs.declared.types.Place.{Place}
use Rattle.paper_record.specs.declared.types.RecordNo.{RecordNo}
use Rattle.paper_record.proofs.ReadColumns.{field-of}
use Rattle.paper_questions.specs.Place.{has_record, fields_at, field_of, byte_of}
use Rattle.paper_questions.proofs.Records.{record-there}
use Rattle.paper_questions.proofs.ValuePlaces.{value-field}
use Rattle.paper_walk.specs.Claims.{OutsideBlank}
use Rattle.paper_walk.proofs.Order.{given-field}

-- ---- no such record

field-blank : field_read (blanks 11) ≡ record { reading = Blank; digits = 0 }
unfolding field_read
field-blank =
    let e : read_field (blanks 11) ≡ Blank = (blank-read (blanks 11)).1 refl in
    rw (e, digits-unsaid (blanks 11) (λ v n. let z : ◌≡◌ {A = ℕ} 0 1 = cc in absurd (omega arith))) refl

pub no_field : (s : List ℕ) (p : Place) → p.field ≤ 5 → has_record s p.at ≡ false
    → field_read (field_of s p) ≡ record { reading = Blank; digits = 0 }
unfolding fields_at
no_field s p h e =
    rw e (ap field_read (get_or-replicate {A = List ℕ} 6 p.field (replicate 11 32) [] (omega arith)) ∙ field-blank)

-- ---- columns of a record

of-front : (n m k : ℕ) (x : List ℕ) → n + m ≤ k → columns_at n m (take k x) ≡ columns_at n m x
of-front zero m k x h = take-take m k x (omega arith)
of-front (suc n) m zero x h = absurd (omega arith)
of-front (suc n) m (suc k) [] h = refl
of-front (suc n) m (suc k) (y ∷ x) h = of-front n m k x (omega arith)

of-record : (s : List ℕ) (i n m : ℕ) → n + m ≤ 81 → columns_at n m (block_at 81 s i) ≡ columns_at (i * 81 + n) m s
of-record s i n m h = of-front n m 81 (drop (i * 81) s) h ∙ ap (take m) (drop-drop n (i * 81) s)

-- ---- eleven bytes are read as a field

read-eleven : (l : List ℕ) → length l ≡ 11 → number_read l ≡ field_read l
unfolding number_read field_read
read-eleven l long = rw (eleven-read l long, eq-eqb (length l) 11 long) refl

module _ (s : List ℕ) (p : Place) (h : p.field ≤ 5) (e : has_record s p.at ≡ true) where
  field-bytes : field_of s p ≡ columns_at (byte_of p) 11 s
  unfolding fields_at
  field-bytes =
      rw (e, field-of (block_at 81 s (p.at.0 - 1)) p.field (omega arith))
      (of-record s (p.at.0 - 1) (p.field * 11) 11 (omega arith))

  pub field_past : byte_of p + 11 ≤ length s
  field_past = let t = record-there s p.at e in omega arith

  pub field-there : number_read (columns_at (byte_of p) 11 s) ≡ field_read (field_of s p)
  field-there =
      let t = field_past in
      read-eleven (columns_at (byte_of p) 11 s) (length-take-le 11 (drop (byte_of p) s) (simp length-drop (omega arith)))
      ∙ ap field_read (sym field-bytes)

-- ---- a record that ends behind the last byte is none

past_the_end : (s : List ℕ) (at : RecordNo) → length s < at.0 * 81 → has_record s at ≡ false
past_the_end s at h = and_none (not (eqb at.0 0)) (leb (at.0 * 81) (length s)) (lt-leb (at.0 * 81) (length s) h)

pub outside-blank : OutsideBlank
outside-blank s w i line column field g h =
    let p = place_of w.section w.columns line column in
    given-field s w i line column field g
    ∙ no_field s p (value-field w.section w.columns line column) (past_the_end s p.at h)
