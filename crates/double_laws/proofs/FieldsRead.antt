-- What a value question answers is what eleven columns say, or blank.
-- Assumes nothing.
use Prim.Native.Nat.{ℕ, ◌-◌, ◌*◌, ◌≤◌}
use mathlib.Core.Path.{◌≡◌, refl, ◌∙◌}
use mathlib.Core.Bool.{Bool, true, false, cond, not}
use mathlib.Core.List.{List, [], ◌∷◌, ◌++◌}
use native.Mathlib.Omega.{arith}
use borrow.Author.Tests.{ne_eqb}
use lib.Dec.{eqb}
use lib.ListN.{length, get_or, drop, replicate, get_or-replicate, length-drop}
use lib.Seq.{length-take-le}
use Rattle.laws.specs.Blocks.{block_at}
use Rattle.paper_number.specs.declared.types.Decimal.{Decimal}
use Rattle.paper_number.specs.declared.types.Reading.TheVariants.{Blank, Number}
use Rattle.paper_number.specs.Reading.{read_field}
use Rattle.paper_number.specs.Digits.{field_read}
use Rattle.paper_record.specs.declared.types.Place.{Place}
use Rattle.paper_record.specs.declared.types.LineNo.{LineNo}
use Rattle.paper_record.specs.Places.{place_of}
use Rattle.paper_record.specs.Fields.{field_at, fields_of}
use Rattle.paper_record.proofs.ReadColumns.{field-of}
use Rattle.paper_entry.specs.declared.types.Answer.{Answer}
use Rattle.paper_entry.specs.Judging.{judge_of}
use Rattle.paper_entry.specs.Answer.{refusal, first_of, answer_of, answer_for}
use Rattle.paper_entry.proofs.Answers.{answer-number}
use Rattle.paper_questions.specs.declared.types.Row.{Row}
use Rattle.paper_questions.specs.declared.types.ValueAnswer.{ValueAnswer}
use Rattle.paper_questions.specs.Located.{row_of}
use Rattle.paper_questions.specs.Place.{has_record, fields_at, shape_of, field_of}
use Rattle.paper_questions.specs.Refused.{section_in, value_refusal, no_line, no_column}
use Rattle.paper_questions.specs.ValueAnswers.{value_by}
use Rattle.paper_questions.specs.Ask.{value_asked}
use Rattle.paper_questions.proofs.Records.{record-there}
use Rattle.paper_questions.proofs.ValuePlaces.{value-field}
use Rattle.paper_index.specs.Reads.{read_refusals, table_identifier, good_value}
use Rattle.paper_index.specs.TableAnswers.{value_from_row}
use Rattle.paper_index.specs.ByIndex.{row_in, rows_before, row_refusal, refused_value, value_by_index}

-- a field of an entry is that of a record, or blank: eleven columns
pub field-wide : (s : List ℕ) (p : Place) → p.field ≤ 5 → length (field_of s p) ≡ 11
unfolding fields_at
field-wide s p f = by_record (has_record s p.at) refl
  where
    by_record : (b : Bool) → has_record s p.at ≡ b
        → length (get_or (cond b (fields_of (block_at 81 s (p.at.0 - 1))) (replicate 6 (replicate 11 32))) p.field []) ≡ 11
    by_record true e =
        let r = block_at 81 s (p.at.0 - 1) in
        let (a, b) = record-there s p.at e in
        let w : length r ≡ 81 = length-take-le 81 (drop ((p.at.0 - 1) * 81) s) (simp length-drop (omega arith)) in
        rw (field-of r p.field (omega arith)) (length-take-le 11 (drop (p.field * 11) r) (simp length-drop (omega arith)))
    by_record false e = rw (get_or-replicate 6 p.field (replicate {A = ℕ} 11 32) [] (omega arith)) refl

-- an answer whose value is what eleven columns say, or blank; blank beside a refusal
pub record Columns (v : ValueAnswer) : Type 0 where
  pub columns : List ℕ
  pub wide : length columns ≡ 11
  pub test : Bool
  pub said : v.value ≡ cond test (read_field columns) Blank
  pub refused : (v.answer.number ≡ 0 → ⊥) → v.value ≡ Blank

columns_of : (a : Answer) (number digits : ℕ) (l : List ℕ) → a.number ≡ number → length l ≡ 11
    → Columns (record { answer = a; value = cond (eqb number 0) (read_field l) Blank; digits = digits })
columns_of a number digits l same w =
    record {
      columns = l;
      wide = w;
      test = eqb number 0;
      said = refl;
      refused = λ h. rw (ne_eqb number 0 (λ z. h (same ∙ z))) refl;
    }

module _ (s : List ℕ) (line : LineNo) (column : ℕ) where
  pub asked-columns : (n section : ℕ) → Columns (value_asked s n section line column)
  unfolding value_asked value_by field_read
  asked-columns n section =
      let x = row_of s n in
      let at = section_in x section in
      let shape = shape_of s section at in
      let place = place_of at shape.columns line column in
      let number = value_refusal s (judge_of s) x at shape line column in
      columns_of (answer_for (judge_of s) number) number _ (field_of s place) (answer-number (judge_of s) number)
      (field-wide s place (value-field at shape.columns line column))

  pub row-columns : (x : Row) (section : ℕ) → Columns (value_from_row s x section line column)
  unfolding value_from_row field_read
  row-columns x section =
      let at = section_in x section in
      let shape = shape_of s section at in
      let place = place_of at shape.columns line column in
      let number =
      first_of
      (read_refusals s x at (table_identifier section)
      ++ (refusal 34 (no_line shape line) ∷ refusal 35 (no_column shape column)
      ∷ refusal 39 (not (good_value s section place (field_read (field_of s place)).reading)) ∷ [])) in
      columns_of (answer_of number) number _ (field_of s place) refl
      (field-wide s place (value-field at shape.columns line column))

  pub index-columns : (index : List ℕ) (n section : ℕ) → Columns (value_by_index s index n section line column)
  unfolding value_by_index
  index-columns index n section = by_row (eqb (row_refusal index n) 0)
    where
      by_row : (b : Bool)
          → Columns
          (cond b (value_from_row s (row_in index (rows_before index n)) section line column)
          (refused_value (row_refusal index n)))
      by_row true = row-columns (row_in index (rows_before index n)) section
      by_row false =
          record { columns = replicate 11 32; wide = refl; test = false; said = refl; refused = λ h. refl }

-- a number comes from eleven columns
pub record ReadFrom (d : Decimal) : Type 0 where
  pub columns : List ℕ
  pub wide : length columns ≡ 11
  pub read : read_field columns ≡ Number d

pub read-from : (v : ValueAnswer) (d : Decimal) → Columns v → v.value ≡ Number d → ReadFrom d
read-from v d c e = by-test c.test refl
  where
    by-test : (b : Bool) → c.test ≡ b → ReadFrom d
    by-test true t =
        record {
          columns = c.columns;
          wide = c.wide;
          read = let q : v.value ≡ read_field c.columns = rw t at c.said in cc;
        }
    by-test false t =
        let q : v.value ≡ Blank = rw t at c.said in
        let r : Blank ≡ Number d = cc in
        let z : ◌≡◌ {A = ℕ} 0 1 = cc in
        absurd (omega arith)
