-- The fields of a table in an accepted entry: where line and column are there, the asked field's record lies in the
-- entry, a value is a number, or blank in DATA, a heading a word with a pointer or blank, a unit a word.
-- Assumes nothing.
use Prim.Native.Nat.{ℕ, suc, ◌+◌, ◌-◌, ◌*◌, ◌/◌, ◌%◌, ◌<◌, ◌≤◌}
use mathlib.Core.Path.{◌≡◌, refl, sym}
use mathlib.Core.Bool.{Bool, true, false}
use mathlib.Core.List.{List, []}
use native.Mathlib.Omega.{arith}
use lib.Dec.{leb}
use lib.ListN.{length, get_or}
use borrow.Author.Tests.{lt-ltb, not-false}
use Rattle.laws.specs.Blocks.{block_at}
use Rattle.laws.proofs.Booleans.{and_both, either-as}
use Rattle.paper_number.specs.Form.{form_of}
use Rattle.paper_number.specs.Reading.{read_field}
use Rattle.paper_number.specs.Digits.{field_read}
use Rattle.paper_number.specs.declared.types.Reading.{Reading}
use Rattle.paper_number.specs.declared.types.Reading.TheVariants.{Blank, Number, Refused}
use Rattle.paper_record.specs.Places.{records_for, place_of}
use Rattle.paper_record.specs.Fields.{in_field, fields_of}
use Rattle.paper_record.specs.Word.{is_word}
use Rattle.paper_record.specs.Faults.{bad_pointer, is_unit_word, pointer_fault, heading_fault, unit_fault}
use Rattle.paper_record.specs.Numbers.{no_value, form_at, value_fault}
use Rattle.paper_record.specs.declared.types.LineNo.{LineNo}
use Rattle.paper_record.specs.declared.types.Place.{Place}
use Rattle.paper_record.specs.declared.types.RecordNo.{RecordNo}
use Rattle.paper_record.proofs.TablePlaces.{place-field}
use Rattle.paper_rules.specs.declared.types.Track.{Track}
use Rattle.paper_rules.specs.State.{Seen, used}
use Rattle.paper_rules.specs.Roles.{is_heading, is_unit, is_value}
use Rattle.paper_faults.specs.Fault.{when}
use Rattle.paper_rules.specs.Record.{field_column, pointer_column}
use Rattle.paper_rules.specs.Counts.{count_n1}
use Rattle.paper_rules.specs.Headings.{rule11_heading, rule12_heading, rule12_unit}
use Rattle.paper_rules.specs.Values.{optional, line_blank, rule15}
use Rattle.paper_rules.specs.Clean.{Clean}
use Rattle.paper_faults.proofs.NoColumns.{append-none, where-none}
use Rattle.paper_entry.specs.Judging.{Accepted}
use Rattle.paper_entry.specs.Contexts.{context_at}
use Rattle.entry_walk.proofs.Laid.{row_role}
use Rattle.entry_walk.proofs.TableLaid.{lines_of}
use Rattle.paper_questions.specs.Located.{row_of}
use Rattle.paper_questions.specs.Place.{heading_place, unit_place, field_of}
use Rattle.paper_questions.specs.Refused.{section_in}
use Rattle.inside.proofs.RowFound.{Opening}
use Rattle.inside.proofs.Answered.{section_no, section_of, place-record}
use Rattle.inside.proofs.Placed.{row_laid, heading-record, unit-record}
use Rattle.paper_index.specs.Reads.{in_entry, good_reading, good_value, good_heading, good_unit}
use Rattle.row_answers.proofs.ReadRecords.{record-clean, in_entry_lem, fields-there}

-- ---- a used field of a clean record

module _ (t : Track) (seen : Seen) (role : ℕ) (fs : List (List ℕ)) (r : List ℕ) (clean : Clean t seen role fs r)
    (k : ℕ) (below : k < 6) (is_used : k < used t) where
  abbrev f : List ℕ
  f = get_or fs k []

  -- 15
  value-used : is_value role ≡ true → no_value (optional role) (form_at f) ≡ false
  unfolding rule15 value_fault
  value-used e =
      let (line, fields) = append-none (when (line_blank t role fs) 1) _ (clean.fifteen e) in
      let z = where-none (in_field (value_fault (optional role) (used t)) fs) field_column 6 fields k below in
      rw (lt-ltb k (used t) is_used) at z

  -- 11
  pointer-used : is_heading role ≡ true → bad_pointer f ≡ false
  unfolding rule11_heading pointer_fault
  pointer-used e =
      let z = where-none (in_field (pointer_fault (used t)) fs) pointer_column 6 (clean.eleven e) k below in
      rw (lt-ltb k (used t) is_used) at z

  -- 12
  heading-used : is_heading role ≡ true → is_word 10 f ≡ true
  unfolding rule12_heading heading_fault
  heading-used e =
      let z = where-none (in_field (heading_fault (used t)) fs) field_column 6 (clean.twelve e) k below in
      not-false (is_word 10 f) (rw (lt-ltb k (used t) is_used) at z)

  unit-used : is_unit role ≡ true → is_unit_word f ≡ true
  unfolding rule12_unit unit_fault
  unit-used e =
      let z = where-none (in_field (unit_fault (used t)) fs) field_column 6 (clean.twelve_unit e) k below in
      not-false (is_unit_word f) (rw (lt-ltb k (used t) is_used) at z)

-- ---- by the rows of a table

value_role : (b : Bool) (l : ℕ) → is_value (row_role b (suc (suc l))) ≡ true
value_role true l = refl
value_role false l = refl

heading-role : (b : Bool) → is_heading (row_role b 0) ≡ true
heading-role true = refl
heading-role false = refl

unit-role : (b : Bool) → is_unit (row_role b 1) ≡ true
unit-role true = refl
unit-role false = refl

reading-good : (b : Bool) (l : ℕ) (x : Reading) → no_value (optional (row_role b (suc (suc l)))) (form_of x) ≡ false
    → good_reading (section_no b) x ≡ true
reading-good true l Blank e = refl
reading-good false l Blank e = sym e
reading-good b l (Number v) e = refl
reading-good b l (Refused n) e = sym e

module _ (s : List ℕ) (accepted : Accepted s) (n : ℕ) (b : Bool) (a : ℕ) (o : Opening s n (section_of b) a) where
  abbrev fs : List (List ℕ)
  fs = fields_of (block_at 81 s a)

  abbrev at : RecordNo
  at = section_in (row_of s n) (section_no b)

  module _ (column : ℕ) (from : 1 ≤ column) (to : column ≤ count_n1 fs) where
    -- the record of the column in the row q, and its field
    abbrev in_row : ℕ → ℕ
    in_row q = suc a + q * records_for (count_n1 fs) + (column - 1) / 6

    abbrev k : ℕ
    k = (column - 1) % 6

    module _ (q : ℕ) (h : q ≤ lines_of b fs + 1) where
      abbrev i : ℕ
      i = in_row q

      there : i < length s / 81
      there = (row_laid s accepted n b a o q ((column - 1) / 6) h (omega arith)).0

      clean : Clean (context_at s i).track (context_at s i).seen (row_role b q) (fields_of (block_at 81 s i))
          (block_at 81 s i)
      clean =
          let e = (row_laid s accepted n b a o q ((column - 1) / 6) h (omega arith)).1.1 in
          rw e at (record-clean s accepted i there)

      is_used : k < used (context_at s i).track
      unfolding used
      is_used =
          let l = (row_laid s accepted n b a o q ((column - 1) / 6) h (omega arith)).1.0 in
          let rest = count_n1 fs - (column - 1) / 6 * 6 in
          rw l.rest (either-as (λ u. k < u) (leb rest 6) _ _ (λ _. omega arith) (λ _. omega arith))

      module _ (p : Place) (e : p.at.0 ≡ suc i) (j : p.field ≡ k) where
        place-there : in_entry s p.at ≡ true
        place-there = in_entry_lem s accepted i there p.at e

        field_is : field_of s p ≡ get_or (fields_of (block_at 81 s i)) k []
        field_is = rw (fields-there s accepted i there p.at e, j)

        unit-good : is_unit (row_role b q) ≡ true → good_unit s p ≡ true
        unfolding good_unit
        unit-good role =
            let c = context_at s i in
            let r = block_at 81 s i in
            and_both place-there
            (rw field_is (unit-used c.track c.seen (row_role b q) (fields_of r) r clean k (omega arith) is_used role))

        heading-good : is_heading (row_role b q) ≡ true → good_heading s p ≡ true
        unfolding good_heading
        heading-good role =
            let c = context_at s i in
            let r = block_at 81 s i in
            let word =
            heading-used c.track c.seen (row_role b q) (fields_of r) r clean k (omega arith) is_used role in
            let pointer =
            pointer-used c.track c.seen (row_role b q) (fields_of r) r clean k (omega arith) is_used role in
            and_both place-there (rw field_is (and_both word (rw pointer)))

    -- ---- the asked fields

    pub value_read : (line : LineNo) → 1 ≤ line.0 → line.0 ≤ lines_of b fs
        → good_value s (section_no b) (place_of at (count_n1 fs) line column)
        (field_read (field_of s (place_of at (count_n1 fs) line column))).reading
        ≡ true
    unfolding good_value field_read
    value_read line lf lt =
        let l = line.0 - 1 in
        let q = suc (suc l) in
        let h : q ≤ lines_of b fs + 1 = omega arith in
        let p = place_of at (count_n1 fs) line column in
        let e = place-record s accepted n b a o line column from to lf lt in
        let j = place-field at (count_n1 fs) line column in
        let c = context_at s (in_row q) in
        let r = block_at 81 s (in_row q) in
        and_both (place-there q h p e j)
        (reading-good b l (read_field (field_of s p))
        (rw (field_is q h p e j)
        (value-used c.track c.seen (row_role b q) (fields_of r) r (clean q h) k (omega arith) (is_used q h)
        (value_role b l))))

    pub heading-read : good_heading s (heading_place at column) ≡ true
    unfolding heading_place
    heading-read =
        heading-good 0 (omega arith) (heading_place at column) (heading-record s accepted n b a o column from to) refl
        (heading-role b)

    pub unit-read : good_unit s (unit_place at (count_n1 fs) column) ≡ true
    unfolding unit_place
    unit-read =
        unit-good 1 (omega arith) (unit_place at (count_n1 fs) column) (unit-record s accepted n b a o column from to) refl
        (unit-role b)
