-- An answer is what stands in the asked line and column: the place by arithmetic is where the judge's walk has them.
--
-- Row q of a table that opens at the index a has its record m at suc a + q * k + m (`table-laid`); a column stands in
-- the record (column - 1) / 6 of its row, in the field (column - 1) % 6.
-- Assumes nothing.
use Prim.Native.Nat.{ℕ, suc, ◌+◌, ◌-◌, ◌*◌, ◌/◌, ◌%◌, ◌<◌, ◌≤◌}
use mathlib.Core.Path.{◌≡◌, refl, sym, ◌∙◌, ap}
use mathlib.Core.Bool.{Bool, true, false}
use mathlib.Core.List.{List}
use native.Mathlib.Omega.{arith}
use native.Mathlib.Nat.{suc-mul, zero-mul}
use lib.ListN.{length}
use Rattle.laws.specs.Blocks.{block_at}
use Rattle.paper_number.specs.Reading.{read_field}
use Rattle.paper_number.specs.Digits.{digit_count, field_read}
use Rattle.paper_record.specs.Places.{records_for, place_of}
use Rattle.paper_record.specs.Fields.{fields_of}
use Rattle.paper_record.specs.declared.types.LineNo.{LineNo}
use Rattle.paper_record.specs.declared.types.Place.{Place}
use Rattle.paper_record.specs.declared.types.RecordNo.{RecordNo}
use Rattle.paper_record.proofs.ReadColumns.{field-of}
use Rattle.paper_record.proofs.TablePlaces.{place_at, place-field}
use Rattle.paper_record.specs.Word.{pointer_of}
use Rattle.paper_rules.specs.Roles.{COMMON-HEADING, COMMON-UNIT, COMMON-VALUE, DATA-HEADING, DATA-UNIT, DATA-VALUE}
use Rattle.paper_rules.specs.Counts.{count_n1}
use Rattle.paper_entry.specs.Judging.{judge_of, Accepted}
use Rattle.paper_entry.specs.Contexts.{context_at, role_at}
use Rattle.paper_questions.specs.Located.{row_of}
use Rattle.paper_questions.specs.declared.types.Shape.{Shape}
use Rattle.paper_questions.specs.Place.{shape_of, heading_place, unit_place, field_of, byte_of}
use Rattle.paper_questions.specs.Refused.{section_in, value_refusal, column_refusal}
use Rattle.paper_questions.specs.ValueAnswers.{value_by}
use Rattle.paper_questions.specs.PartAnswers.{heading_by, unit_by}
use Rattle.paper_questions.specs.Ask.{value_asked, heading_asked, unit_asked}
use Rattle.inside.specs.Placed.{cell_at, Cell, in_section, ValueAt, ValuePlaced, HeadingAt, HeadingPlaced, UnitAt}
use Rattle.inside.specs.Placed.{UnitPlaced}
use Rattle.entry_walk.proofs.AcceptedWalk.{walked}
use Rattle.entry_walk.proofs.Laid.{Laid, row_role}
use Rattle.entry_walk.proofs.TableLaid.{table-laid, lines_of}
use Rattle.inside.proofs.RowFound.{Opening}
use Rattle.inside.proofs.RowWalked.{fields-at}
use Rattle.inside.proofs.Answered.{section_no, section_of, which, begun, at-record, shape-columns, value-answered}
use Rattle.inside.proofs.Answered.{heading-answered, unit-answered}
use Rattle.inside.proofs.NotRefused.{part-there}
use Rattle.inside.proofs.Asked.{lines_same, value-not-refused}

-- ---- roles

value_role : (b : Bool) (l : ℕ) → row_role b (suc (suc l)) ≡ in_section (section_no b) COMMON-VALUE DATA-VALUE
value_role true l = refl
value_role false l = refl

heading-role : (b : Bool) → row_role b 0 ≡ in_section (section_no b) COMMON-HEADING DATA-HEADING
heading-role true = refl
heading-role false = refl

unit-role : (b : Bool) → row_role b 1 ≡ in_section (section_no b) COMMON-UNIT DATA-UNIT
unit-role true = refl
unit-role false = refl

module _ (s : List ℕ) (accepted : Accepted s) (n : ℕ) (b : Bool) (a : ℕ) (o : Opening s n (section_of b) a) where
  abbrev fs : List (List ℕ)
  fs = fields_of (block_at 81 s a)

  abbrev k : ℕ
  k = records_for (count_n1 fs)

  abbrev at : RecordNo
  at = section_in (row_of s n) (section_no b)

  abbrev shape : Shape
  shape = shape_of s (section_no b) at

  -- the record m of the row q, by its index
  abbrev index : ℕ → ℕ → ℕ
  index q m = suc a + q * k + m

  pub row_laid : (q m : ℕ) → q ≤ lines_of b fs + 1 → m < k
      → (index q m < length s / 81)
      × (Laid b (context_at s a).track.subentry.number (count_n1 fs) (lines_of b fs) q m (context_at s (index q m))
      × (role_at s (index q m) ≡ row_role b q))
  row_laid q m h l =
      let x = begun s accepted n b a o in
      table-laid s (length s / 81) (walked s accepted) b (context_at s a).track.subentry.number (count_n1 fs)
      (lines_of b fs) (suc a) x.columns-from x.lines_from (omega (arith, o.there)) x.laid q m h l

  module _ (column : ℕ) (from : 1 ≤ column) (to : column ≤ count_n1 fs) where
    -- the record and the field of the column, in the row q
    abbrev in_row : ℕ → ℕ
    in_row q = index q ((column - 1) / 6)

    abbrev f : ℕ
    f = (column - 1) % 6

    cell : (q role : ℕ) → q ≤ lines_of b fs + 1 → row_role b q ≡ role → Cell s n role column (in_row q) f
    cell q role h e =
        let m = (column - 1) / 6 in
        let (there, (l, is)) = row_laid q m h (omega arith) in
        let c : column ≡ count_n1 fs - (count_n1 fs - m * 6) + (f + 1) = omega arith in
        record {
          there = there;
          field = omega arith;
          role_is = is ∙ e;
          subentry = l.subentry ∙ o.subentry;
          column_is = rw (l.kept, l.rest) c;
        }

    -- the field of a place is that of its record
    field-there : (q : ℕ) → q ≤ lines_of b fs + 1 → (p : Place) → p.at.0 ≡ suc (in_row q) → p.field ≡ f
        → field_of s p ≡ cell_at s (in_row q) f
    field-there q h p e i =
        let there = (row_laid q ((column - 1) / 6) h (omega arith)).0 in
        rw (fields-at s (in_row q) (omega arith) p.at e, i) (field-of (block_at 81 s (in_row q)) f (omega arith))

    -- ---- values

    -- the line l is row l + 1, behind those of headings and units
    pub value-at : (line : LineNo) → 1 ≤ line.0 → line.0 ≤ lines_of b fs
        → field_of s (place_of at (count_n1 fs) line column) ≡ cell_at s (in_row (suc (suc (line.0 - 1)))) f
    value-at line lf lt =
        let above = line.0 - 1 in
        let e = place_at at (count_n1 fs) line column in
        let r = at-record s accepted n b a o in
        let x = suc-mul (suc above) k in
        let y = suc-mul above k in
        field-there (suc (suc above)) (omega arith) (place_of at (count_n1 fs) line column) (omega arith)
        (place-field at (count_n1 fs) line column)

    value-is : (line : LineNo) → value_refusal s (judge_of s) (row_of s n) at shape line column ≡ 0
        → (value_asked s n (section_no b) line column).value ≡ read_field (field_of s (place_of at (count_n1 fs) line column))
    unfolding value_asked value_by field_read
    value-is line none = rw (none, shape-columns s accepted n b a o)

    count-is : (line : LineNo) → value_refusal s (judge_of s) (row_of s n) at shape line column ≡ 0
        → (value_asked s n (section_no b) line column).digits ≡ digit_count (field_of s (place_of at (count_n1 fs) line column))
    unfolding value_asked value_by field_read
    count-is line none = rw (none, shape-columns s accepted n b a o)

    value_cell : (line : LineNo) → 1 ≤ line.0 → line.0 ≤ lines_of b fs
        → value_refusal s (judge_of s) (row_of s n) at shape line column ≡ 0
        → ValueAt s n (in_section (section_no b) COMMON-VALUE DATA-VALUE) line column
        (value_asked s n (section_no b) line column)
    value_cell line lf lt none =
        let q = suc (suc (line.0 - 1)) in
        let h : q ≤ lines_of b fs + 1 = omega arith in
        let l = (row_laid q ((column - 1) / 6) h (omega arith)).1.0 in
        record {
          i = in_row q;
          k = f;
          cell = cell q _ h (value_role b (line.0 - 1));
          in_line = l.line ∙ omega arith;
          says = value-is line none ∙ ap read_field (value-at line lf lt);
          counts = count-is line none ∙ ap digit_count (value-at line lf lt);
        }

    -- ---- headings and units

    pub heading-record : (heading_place at column).at.0 ≡ suc (in_row 0)
    unfolding heading_place
    heading-record =
        let r = at-record s accepted n b a o in
        let z = zero-mul k in
        omega arith

    pub unit-record : (unit_place at (count_n1 fs) column).at.0 ≡ suc (in_row 1)
    unfolding unit_place
    unit-record =
        let r = at-record s accepted n b a o in
        let y = zero-mul k in
        let z = suc-mul 0 k in
        omega arith

    heading-cell : field_of s (heading_place at column) ≡ cell_at s (in_row 0) f
    unfolding heading_place
    heading-cell = field-there 0 (omega arith) (heading_place at column) heading-record refl

    byte-of : (q : ℕ) (p : Place) → p.at.0 ≡ suc (in_row q) → p.field ≡ f → byte_of p ≡ in_row q * 81 + f * 11
    byte-of q p e i = let z : p.at.0 - 1 ≡ in_row q = omega arith in rw (z, i)

    pub heading-at : (heading_asked s n (section_no b) column).length ≡ 10
        → ((heading_asked s n (section_no b) column).first ≡ in_row 0 * 81 + f * 11)
        × ((heading_asked s n (section_no b) column).pointer ≡ pointer_of (cell_at s (in_row 0) f))
    unfolding heading_asked heading_by heading_place
    heading-at long =
        let (first, pointer) =
        part-there s (judge_of s) (column_refusal s (judge_of s) (row_of s n) at shape column)
        (byte_of (heading_place at column)) 10 (pointer_of (field_of s (heading_place at column))) long (omega arith) in
        (first ∙ byte-of 0 (heading_place at column) heading-record refl, pointer ∙ ap pointer_of heading-cell)

    pub unit-at : (unit_asked s n (section_no b) column).length ≡ 10
        → ((unit_asked s n (section_no b) column).first ≡ in_row 1 * 81 + f * 11)
        × ((unit_asked s n (section_no b) column).pointer ≡ pointer_of (cell_at s (in_row 0) f))
    unfolding unit_asked unit_by unit_place
    unit-at long =
        let (first, pointer) =
        part-there s (judge_of s) (column_refusal s (judge_of s) (row_of s n) at shape column)
        (byte_of (unit_place at shape.columns column)) 10 (pointer_of (field_of s (heading_place at column))) long
        (omega arith) in
        let c = shape-columns s accepted n b a o in (
          first ∙ rw c (byte-of 1 (unit_place at (count_n1 fs) column) unit-record refl),
          pointer ∙ ap pointer_of heading-cell,
        )

    heading-placed-at : (heading_asked s n (section_no b) column).length ≡ 10
        → HeadingAt s n (in_section (section_no b) COMMON-HEADING DATA-HEADING) column
        (heading_asked s n (section_no b) column)
    heading-placed-at long =
        let (first, pointer) = heading-at long in
        record {
          i = in_row 0;
          k = f;
          cell = cell 0 _ (omega arith) (heading-role b);
          first = first;
          long = long;
          pointer = pointer;
        }

    unit-placed-at : (heading_asked s n (section_no b) column).length ≡ 10
        → (unit_asked s n (section_no b) column).length ≡ 10
        → UnitAt s n (in_section (section_no b) COMMON-UNIT DATA-UNIT) column (unit_asked s n (section_no b) column)
        (heading_asked s n (section_no b) column)
    unit-placed-at above long =
        let (first, pointer) = unit-at long in
        record {
          i = in_row 1;
          k = f;
          cell = cell 1 _ (omega arith) (unit-role b);
          first = first;
          long = long;
          pointer = pointer ∙ sym (heading-at above).1;
        }

-- ---- THE THEOREMS

pub value_placed : ValuePlaced
value_placed s n section line column accepted x =
    let (b, (e, o)) = which s accepted n section x.index x.opens in
    let lines : line.0 ≤ lines_of b (fields_of (block_at 81 s x.index)) =
    rw (e, lines_same b (block_at 81 s x.index)) at x.line_to in
    let none =
    value-not-refused s n section line column (value-answered s n section line column accepted x).0 in
    rw e
    (value_cell s accepted n b x.index o column x.column_from x.column_to line x.line_from lines
    (rw e at none))

pub heading_placed : HeadingPlaced
heading_placed s n section column accepted x =
    let (b, (e, o)) = which s accepted n section x.index x.opens in
    let long = (heading-answered s n section column accepted x).1 in
    rw e (heading-placed-at s accepted n b x.index o column x.from x.to (rw e at long))

pub unit_placed : UnitPlaced
unit_placed s n section column accepted x =
    let (b, (e, o)) = which s accepted n section x.index x.opens in
    let above = (heading-answered s n section column accepted x).1 in
    let long = (unit-answered s n section column accepted x).1 in
    rw e (unit-placed-at s accepted n b x.index o column x.from x.to (rw e at above) (rw e at long))
