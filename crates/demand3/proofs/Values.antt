-- Every question about a value has the same answer in the copy.
-- Assumes nothing.
use Prim.Native.Nat.{ℕ}
use mathlib.Core.Path.{◌≡◌, refl}
use mathlib.Core.List.{List}
use Rattle.paper_record.specs.Places.{place_of}
use Rattle.paper_record.specs.declared.types.LineNo.{LineNo}
use Rattle.paper_record.specs.declared.types.RecordNo.{RecordNo}
use Rattle.paper_number.specs.Reading.{read_field, finish}
use Rattle.paper_number.specs.Value.{trim_from, trim, value_of}
use Rattle.paper_number.specs.Grammar.{write}
use Rattle.paper_number.specs.Count.{count_from, count}
use Rattle.paper_number.specs.Digits.{digit_count, field_read}
use Rattle.paper_canonical.specs.Replacing.{canonical}
use Rattle.paper_canonical.specs.Closed.{digits_n, shift, layout_up, layout_down, laid_out, shortest, canonical_text, canonical_field}
use Rattle.paper_entry.specs.declared.types.Verdict.{Verdict}
use Rattle.paper_entry.specs.Judging.{Accepted}
use Rattle.paper_questions.specs.declared.types.Row.{Row}
use Rattle.paper_questions.specs.declared.types.Shape.{Shape}
use Rattle.paper_questions.specs.Located.{row_of}
use Rattle.paper_questions.specs.Place.{shape_of}
use Rattle.paper_questions.specs.Refused.{section_in, value_refusal}
use Rattle.paper_questions.specs.ValueAnswers.{value_by}
use Rattle.paper_questions.specs.Ask.{value_asked}
use Rattle.paper_copy.specs.Copy.{copy_of}
use Rattle.paper_copy.proofs.Demand.{copy-accepted}
use Rattle.demand3.specs.Same.{AlikeAnswer, SameValues, CountLeftOut}
use Rattle.demand3.proofs.CopiedRecords.{copied-identifiers, copied-places}
use Rattle.demand3.proofs.CopiedRows.{copied-row, shape-kept}

module _ (s : List ℕ) (accepted : Accepted s) where
  refusal-same : (v : Verdict) (x : Row) (at : RecordNo) (shape : Shape) (line : LineNo) (column : ℕ)
      → value_refusal (copy_of s) v x at shape line column ≡ value_refusal s v x at shape line column
  unfolding value_refusal
  refusal-same v x at shape line column = rw (copied-identifiers s accepted x.first)

  value_same : (v : Verdict) (number section : ℕ) (line : LineNo) (column : ℕ)
      → AlikeAnswer (value_by (copy_of s) v (row_of s number) section line column)
      (value_by s v (row_of s number) section line column)
  unfolding value_by field_read
  value_same v number section line column =
      let x = row_of s number in
      let at = section_in x section in
      let shape = shape_of s section at in
      let e = shape-kept s accepted number section in
      let r = refusal-same v x at shape line column in
      record {
        numbers = rw (e, r);
        values = rw (e, r, copied-places s accepted (place_of at shape.columns line column));
      }

-- "with the same values [..] at the same places"
pub same_values : SameValues
unfolding value_asked
same_values s accepted number section line column =
    rw (copy-accepted s accepted, copied-row s accepted number) (value_same s accepted _ number section line column)

pub count_left_out : CountLeftOut
unfolding digit_count read_field finish trim_from trim value_of write count_from count canonical digits_n shift layout_up laid_out layout_down shortest canonical_text canonical_field
count_left_out = (refl, refl)
