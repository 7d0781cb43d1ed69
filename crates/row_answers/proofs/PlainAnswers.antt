-- THE THEOREMS: a question to any bytes by any row is answered exactly when what is read is what is said plainly.
-- Assumes nothing.
use Prim.Native.Nat.{ℕ, ◌+◌, ◌<◌, ◌≤◌}
use mathlib.Core.Path.{◌≡◌, refl, sym, ap, ◌∙◌}
use mathlib.Core.Bool.{Bool, true, false, cond, not, ◌&&◌}
use mathlib.Core.List.{List, [], ◌∷◌, ◌++◌}
use native.Mathlib.Omega.{arith}
use lib.Dec.{eqb, leb}
use lib.ListN.{length}
use borrow.Author.Tests.{eqb-true, ne_eqb, le-leb, not-true}
use Rattle.laws.proofs.Booleans.{and_left, and_right, and_both}
use Rattle.paper_number.specs.Form.{form_of}
use Rattle.paper_number.specs.Reading.{read_field}
use Rattle.paper_number.specs.Digits.{field_read}
use Rattle.paper_number.specs.declared.types.Reading.{Reading}
use Rattle.paper_number.specs.declared.types.Reading.TheVariants.{Blank, Number, Refused}
use Rattle.paper_record.specs.Places.{place_of}
use Rattle.paper_record.specs.Identifier.{SUBENT, COMMON, DATA}
use Rattle.paper_record.specs.Numbers.{no_value, form_at}
use Rattle.paper_record.specs.Text.{within}
use Rattle.paper_record.specs.Word.{pointer_of}
use Rattle.paper_record.specs.declared.types.LineNo.{LineNo}
use Rattle.paper_record.specs.declared.types.Place.{Place}
use Rattle.paper_record.specs.declared.types.RecordNo.{RecordNo}
use Rattle.paper_record.proofs.Within.{within-bounds}
use Rattle.paper_record.proofs.TablePlaces.{place-field}
use Rattle.paper_record.proofs.PlainValues.{value-exactly}
use Rattle.paper_rules.specs.Limits.{MOST-COLUMNS, MOST-LINES}
use Rattle.paper_rules.specs.Counts.{count_n1, count_n2}
use Rattle.paper_entry.specs.Answer.{Refusal, refusal, first_of, answer_of}
use Rattle.paper_questions.specs.declared.types.Row.{Row}
use Rattle.paper_questions.specs.declared.types.Shape.{Shape}
use Rattle.paper_questions.specs.Row.{NONE}
use Rattle.paper_questions.specs.Place.{COMMON-SECTION, DATA-SECTION, shape_of, fields_at, heading_place, unit_place, field_of}
use Rattle.paper_questions.specs.Place.{identifier_at, byte_of}
use Rattle.paper_questions.specs.PartAnswers.{no_part}
use Rattle.paper_questions.specs.Refused.{section_in, no_section, no_line, no_column}
use Rattle.paper_questions.proofs.RowChanges.{common, table}
use Rattle.paper_index.specs.Reads.{in_entry, is_nosubent, is_there, good_first, good_section, good_reading, good_value}
use Rattle.paper_index.specs.Reads.{good_heading, good_unit, table_identifier, read_refusals}
use Rattle.paper_index.specs.TableAnswers.{part_beside, value_from_row, heading_from_row, unit_from_row}
use Rattle.row_answers.specs.Plain.{LiesIn, field_in, SubentRead, InRange, of_bib, of_common, of_data}
use Rattle.row_answers.specs.Plain.{TableRead, table_common, table_data, ColumnRead, ValueRead}
use Rattle.row_answers.specs.Plain.{HeadingRead, UnitRead, said_at, ten_at, pointer_at}
use Rattle.row_answers.specs.Plain.{ValueReadExactly, HeadingReadExactly, UnitReadExactly}
use Rattle.row_answers.specs.Plain.{ValueReadSays, HeadingReadSays, UnitReadSays}
use Rattle.row_answers.proofs.PlainReads.{lies-of, of-lies, subent-of, of-subent, section-of, counts_of, of-section}
use Rattle.row_answers.proofs.PlainReads.{place_in, heading-of, of-heading, unit-of, of-unit}

-- ---- refusals in their order

-- none is given: 39 is given where a read is not good

first_reads : (a b c d : Bool) (ys : List Refusal)
    → first_of (refusal 32 a ∷ refusal 39 (not b) ∷ refusal 33 c ∷ refusal 39 (not d) ∷ ys) ≡ 0
    → (b ≡ true) × ((d ≡ true) × (first_of ys ≡ 0))
first_reads true b c d ys e = absurd (omega arith)
first_reads false false c d ys e = absurd (omega arith)
first_reads false true true d ys e = absurd (omega arith)
first_reads false true false false ys e = absurd (omega arith)
first_reads false true false true ys e = (refl, (refl, e))

column-then : (a b : Bool) → first_of (refusal 35 (not a) ∷ refusal 39 (not b) ∷ []) ≡ 0 → (a ≡ true) × (b ≡ true)
column-then false b e = absurd (omega arith)
column-then true false e = absurd (omega arith)
column-then true true e = (refl, refl)

line-then : (a b c : Bool) → first_of (refusal 34 (not a) ∷ refusal 35 (not b) ∷ refusal 39 (not c) ∷ []) ≡ 0
    → (a ≡ true) × ((b ≡ true) × (c ≡ true))
line-then false b c e = absurd (omega arith)
line-then true b c e = (refl, column-then b c e)

-- the number beside a part
pub part-number : (s : List ℕ) (number from bytes pointer : ℕ) → (part_beside s number from bytes pointer).answer.number ≡ number
part-number s number from bytes pointer = by_tests (eqb number 0) refl (leb (from + bytes) (length s))
  where
    by_tests : (p : Bool) → eqb number 0 ≡ p → (q : Bool)
        → (cond p
        (cond q (record { answer = answer_of 0; first = from; length = bytes; pointer = pointer }) (no_part (answer_of 0)))
        (no_part (answer_of number))).answer.number
        ≡ number
    by_tests true e true = sym (eqb-true number 0 e)
    by_tests true e false = sym (eqb-true number 0 e)
    by_tests false e q = refl

-- ---- the first two reads

-- what is answered has a subentry, a section and what the section's record counts
record Read (s : List ℕ) (x : Row) (at : RecordNo) (identifier : ℕ) : Type 0 where
  subent : SubentRead s x
  section : good_section s at identifier ≡ true

module _ (s : List ℕ) (x : Row) (at : RecordNo) (identifier : ℕ) (ys : List Refusal) where
  read_of : first_of (read_refusals s x at identifier ++ ys) ≡ 0 → Read s x at identifier × (first_of ys ≡ 0)
  read_of e =
      let (b, (d, rest)) =
      first_reads (is_nosubent s x) (good_first s x) (no_section at) (good_section s at identifier) ys e in
      (record { subent = subent-of s x b; section = d }, rest)

  pub subent-named : good_first s x ≡ true → is_nosubent s x ≡ false
  unfolding good_first
  subent-named e =
      let h = and_left (is_there s x.first SUBENT) _ e in
      let i : identifier_at s x.first ≡ SUBENT = eqb-true _ _ (and_right (in_entry s x.first) _ h) in
      rw (and_left (in_entry s x.first) _ h, i)

  of-read : SubentRead s x → LiesIn s at → good_section s at identifier ≡ true
      → first_of ys ≡ 0 → first_of (read_refusals s x at identifier ++ ys) ≡ 0
  of-read r l d e =
      let b = of-subent s x r in
      let z : no_section at ≡ false = ne_eqb at.0 0 (λ q. omega (arith, l.from)) in
      rw (subent-named b, b, z, d) e

-- ---- the table that is asked

pub within-true : (low high n : ℕ) → low ≤ n → n ≤ high → within low high n ≡ true
within-true low high n a b = and_both (le-leb low n a) (le-leb n high b)

common-few : (a b : ℕ) → InRange COMMON a b → a ≤ MOST-COLUMNS
common-few a b (of_bib e p q) = absurd (omega (arith, e))
common-few a b (of_common e p q z) = q
common-few a b (of_data e p q u v) = q

data-few : (a b : ℕ) → InRange DATA a b → (a ≤ MOST-COLUMNS) × (b ≤ MOST-LINES)
data-few a b (of_bib e p q) = absurd (omega (arith, e))
data-few a b (of_common e p q z) = absurd (omega (arith, e))
data-few a b (of_data e p q u v) = (q, v)

module _ (s : List ℕ) (x : Row) where
  -- the table of a section, by the shape that its record announces
  abbrev pub TableAt : ℕ → Type 0
  TableAt section =
      good_section s (section_in x section) (table_identifier section) ≡ true
      → TableRead s x section (section_in x section) (shape_of s section (section_in x section)).columns
      (shape_of s section (section_in x section)).lines

  at-common : TableAt COMMON-SECTION
  unfolding shape_of
  at-common e =
      let fs = fields_at s x.common in
      let r = section-of s x.common common e in
      rw (le-leb (count_n1 fs) MOST-COLUMNS (common-few _ _ r.range))
      (table_common refl refl refl (count_n2 fs) r)

  at-data : TableAt DATA-SECTION
  unfolding shape_of
  at-data e =
      let fs = fields_at s x.«data» in
      let r = section-of s x.«data» table e in
      let (few, lines) = data-few _ _ r.range in
      rw (le-leb (count_n1 fs) MOST-COLUMNS few, le-leb (count_n2 fs) MOST-LINES lines) (table_data refl refl r)

  none-good : good_section s NONE DATA ≡ true → ⊥
  none-good e = let z = (section-of s NONE table e).lies.from in omega arith

  pub table_of : (section : ℕ) → TableAt section
  table_of section = by_tests (eqb section COMMON-SECTION) refl (eqb section DATA-SECTION) refl
    where
      by_tests : (p : Bool) → eqb section COMMON-SECTION ≡ p → (q : Bool) → eqb section DATA-SECTION ≡ q → TableAt section
      by_tests true p q u = let z = eqb-true section COMMON-SECTION p in rw z at-common
      by_tests false p true u = let z = eqb-true section DATA-SECTION u in rw z at-data
      by_tests false p false u = λ e. absurd (none-good (rw (p, u) at e))

  -- the other way round
  pub record OfTable (section : ℕ) (at : RecordNo) (columns lines : ℕ) : Type 0 where
    pub own : at ≡ section_in x section
    pub good : good_section s at (table_identifier section) ≡ true
    pub lies : LiesIn s at
    pub columns-are : (shape_of s section at).columns ≡ columns
    pub lines_are : (shape_of s section at).lines ≡ lines
    pub either : eqb section COMMON-SECTION ≡ not (eqb section DATA-SECTION)

  pub of-table : (section : ℕ) (at : RecordNo) (columns lines : ℕ) → TableRead s x section at columns lines
      → OfTable section at columns lines
  unfolding shape_of
  of-table section at columns lines (table_common e o l records r) =
      let (c, d) = counts_of s at common columns records r in
      record {
        own = rw e o;
        good = rw e (of-section s at common columns records r);
        lies = r.lies;
        columns-are = rw (c, le-leb columns MOST-COLUMNS (common-few _ _ r.range));
        lines_are = rw e (sym l);
        either = rw e;
      }
  of-table section at columns lines (table_data e o r) =
      let (c, d) = counts_of s at table columns lines r in
      let (few, most) = data-few _ _ r.range in
      record {
        own = rw e o;
        good = rw e (of-section s at table columns lines r);
        lies = r.lies;
        columns-are = rw (c, le-leb columns MOST-COLUMNS few);
        lines_are = rw (e, d, le-leb lines MOST-LINES most);
        either = rw e;
      }

-- ---- a reading

reading-of : (section : ℕ) (r : Reading) → eqb section COMMON-SECTION ≡ not (eqb section DATA-SECTION)
    → good_reading section r ≡ true → no_value (eqb section DATA-SECTION) (form_of r) ≡ false
reading-of section Blank a e = sym a ∙ not-true (eqb section COMMON-SECTION) e
reading-of section (Number v) a e = refl
reading-of section (Refused n) a e = sym e

of-reading : (section : ℕ) (r : Reading) → eqb section COMMON-SECTION ≡ not (eqb section DATA-SECTION)
    → no_value (eqb section DATA-SECTION) (form_of r) ≡ false → good_reading section r ≡ true
of-reading section Blank a e = rw (a, e)
of-reading section (Number v) a e = refl
of-reading section (Refused n) a e = sym e

value-below : (at : RecordNo) (columns : ℕ) (line : LineNo) (column : ℕ) → (place_of at columns line column).field < 6
value-below at columns line column = rw (place-field at columns line column) (omega arith)

heading-below : (at : RecordNo) (column : ℕ) → (heading_place at column).field < 6
unfolding heading_place
heading-below at column = omega arith

unit-below : (at : RecordNo) (columns column : ℕ) → (unit_place at columns column).field < 6
unfolding unit_place
unit-below at columns column = omega arith

-- ten columns of a field lie in the entry
ten-inside : (s : List ℕ) (p : Place) → p.field < 6 → LiesIn s p.at → byte_of p + 10 ≤ length s
ten-inside s p h l = omega (arith, h, l.from, l.held)

-- ---- answered, and what was read

module _ (s : List ℕ) (x : Row) (section : ℕ) where
  abbrev at : RecordNo
  at = section_in x section

  abbrev shape : Shape
  shape = shape_of s section at

  column-of : (column : ℕ) → Read s x at (table_identifier section) → within 1 shape.columns column ≡ true
      → ColumnRead s x section column
  column-of column r e =
      let (from, to) = within-bounds 1 shape.columns column e in
      record {
        subent = r.subent;
        at = at;
        columns = shape.columns;
        lines = shape.lines;
        table = table_of s x section r.section;
        from = from;
        to = to;
      }

  module _ (line : LineNo) (column : ℕ) where
    abbrev place : Place
    place = place_of at shape.columns line column

    value_of : (value_from_row s x section line column).answer.number ≡ 0 → ValueRead s x section line column
    unfolding value_from_row good_value field_read column-of
    value_of e =
        let good = in_entry s place.at && good_reading section (read_field (field_of s place)) in
        let (r, rest) =
        read_of s x at (table_identifier section)
        (refusal 34 (no_line shape line) ∷ refusal 35 (no_column shape column) ∷ refusal 39 (not good) ∷ []) e in
        let (l, (c, g)) =
        line-then (within 1 shape.lines line.0) (within 1 shape.columns column) good rest in
        let (from, to) = within-bounds 1 shape.lines line.0 l in
        let either = (of-table s x section at shape.columns shape.lines (table_of s x section r.section)).either in
        let lies = lies-of s place.at (and_left (in_entry s place.at) _ g) in
        let v =
        reading-of section (read_field (field_of s place)) either
        (and_right (in_entry s place.at) (good_reading section (read_field (field_of s place))) g) in
        record {
          inside = column-of column r c;
          line_from = from;
          line_to = to;
          lies = lies;
          value = rw (place_in s place (value-below at shape.columns line column) lies) at
              ((value-exactly (eqb section DATA-SECTION) (field_of s place)).0 v);
        }

    of-value : ValueRead s x section line column → (value_from_row s x section line column).answer.number ≡ 0
    unfolding value_from_row good_value field_read
    of-value v =
        let i = v.inside in
        let t = of-table s x section i.at i.columns i.lines i.table in
        let p = place_of i.at i.columns line column in
        let f : no_value (eqb section DATA-SECTION) (form_at (field_of s p)) ≡ false =
        rw (place_in s p (value-below i.at i.columns line column) v.lies)
        ((value-exactly (eqb section DATA-SECTION) (field_in s p.at p.field)).1 v.value) in
        let good = in_entry s p.at && good_reading section (read_field (field_of s p)) in
        let g : good ≡ true =
        and_both (of-lies s p.at v.lies) (of-reading section (read_field (field_of s p)) t.either f) in
        let l = within-true 1 i.lines line.0 v.line_from v.line_to in
        let c = within-true 1 i.columns column i.from i.to in
        rw (← t.own, t.columns-are, t.lines_are)
        (of-read s x i.at (table_identifier section)
        (refusal 34 (not (within 1 i.lines line.0)) ∷ refusal 35 (not (within 1 i.columns column))
        ∷ refusal 39 (not good) ∷ [])
        i.subent t.lies t.good (rw (l, c, g)))

    value-says : (v : ValueRead s x section line column)
        → value_from_row s x section line column ≡ said_at s (place_of v.inside.at v.inside.columns line column)
    unfolding value_from_row good_value field_read
    value-says v =
        let i = v.inside in
        let t = of-table s x section i.at i.columns i.lines i.table in
        let p = place_of i.at i.columns line column in
        let f : field_of s place ≡ field_in s p.at p.field =
        rw (← t.own, t.columns-are) (place_in s p (value-below i.at i.columns line column) v.lies) in
        rw (of-value v, f)

  module _ (column : ℕ) where
    heading-asked : (heading_from_row s x section column).answer.number ≡ 0 → HeadingRead s x section column
    unfolding heading_from_row column-of
    heading-asked e =
        let good = good_heading s (heading_place at column) in
        let (r, rest) =
        read_of s x at (table_identifier section) (refusal 35 (no_column shape column) ∷ refusal 39 (not good) ∷ [])
        (sym (part-number s _ _ 10 _) ∙ e) in
        let (c, g) = column-then (within 1 shape.columns column) good rest in
        record {
          inside = column-of column r c;
          heading = heading-of s (heading_place at column) (heading-below at column) g;
        }

    heading-none : HeadingRead s x section column
        → first_of (read_refusals s x at (table_identifier section)
        ++ (refusal 35 (no_column shape column) ∷ refusal 39 (not (good_heading s (heading_place at column))) ∷ []))
        ≡ 0
    heading-none h =
        let i = h.inside in
        let t = of-table s x section i.at i.columns i.lines i.table in
        let g = of-heading s (heading_place i.at column) (heading-below i.at column) h.heading in
        let c = within-true 1 i.columns column i.from i.to in
        rw (← t.own, t.columns-are)
        (of-read s x i.at (table_identifier section)
        (refusal 35 (not (within 1 i.columns column))
        ∷ refusal 39 (not (good_heading s (heading_place i.at column))) ∷ [])
        i.subent t.lies t.good (rw (c, g)))

    of-heading-asked : HeadingRead s x section column → (heading_from_row s x section column).answer.number ≡ 0
    unfolding heading_from_row
    of-heading-asked h = part-number s _ _ 10 _ ∙ heading-none h

    -- a pointer by its place
    pointer-there : (i : ColumnRead s x section column) → LiesIn s (heading_place i.at column).at
        → pointer_of (field_of s (heading_place at column)) ≡ pointer_at s (heading_place i.at column)
    pointer-there i l =
        let t = of-table s x section i.at i.columns i.lines i.table in
        rw (← t.own)
        (ap pointer_of (place_in s (heading_place i.at column) (heading-below i.at column) l))

    heading-says : (h : HeadingRead s x section column)
        → heading_from_row s x section column
        ≡ ten_at (heading_place h.inside.at column) (pointer_at s (heading_place h.inside.at column))
    unfolding heading_from_row
    heading-says h =
        let i = h.inside in
        let t = of-table s x section i.at i.columns i.lines i.table in
        let p = heading_place i.at column in
        let inside = le-leb (byte_of p + 10) (length s) (ten-inside s p (heading-below i.at column) h.heading.lies) in
        let own : heading_place at column ≡ p = rw (← t.own) in
        rw (heading-none h, pointer-there i h.heading.lies, own, inside)

    unit-asked : (unit_from_row s x section column).answer.number ≡ 0 → UnitRead s x section column
    unfolding unit_from_row column-of
    unit-asked e =
        let h = heading_place at column in
        let u = unit_place at shape.columns column in
        let good = good_heading s h && good_unit s u in
        let (r, rest) =
        read_of s x at (table_identifier section) (refusal 35 (no_column shape column) ∷ refusal 39 (not good) ∷ [])
        (sym (part-number s _ _ 10 _) ∙ e) in
        let (c, g) = column-then (within 1 shape.columns column) good rest in
        let (l, w) =
        unit-of s u (unit-below at shape.columns column) (and_right (good_heading s h) (good_unit s u) g) in
        record {
          inside = column-of column r c;
          heading = heading-of s h (heading-below at column) (and_left (good_heading s h) (good_unit s u) g);
          lies = l;
          word = w;
        }

    unit-none : UnitRead s x section column
        → first_of (read_refusals s x at (table_identifier section)
        ++ (refusal 35 (no_column shape column)
        ∷ refusal 39
        (not (good_heading s (heading_place at column) && good_unit s (unit_place at shape.columns column))) ∷ []))
        ≡ 0
    unit-none h =
        let i = h.inside in
        let t = of-table s x section i.at i.columns i.lines i.table in
        let g = of-heading s (heading_place i.at column) (heading-below i.at column) h.heading in
        let w =
        of-unit s (unit_place i.at i.columns column) (unit-below i.at i.columns column) h.lies h.word in
        let c = within-true 1 i.columns column i.from i.to in
        rw (← t.own, t.columns-are)
        (of-read s x i.at (table_identifier section)
        (refusal 35 (not (within 1 i.columns column))
        ∷ refusal 39
        (not (good_heading s (heading_place i.at column) && good_unit s (unit_place i.at i.columns column))) ∷ [])
        i.subent t.lies t.good (rw (c, g, w)))

    of-unit-asked : UnitRead s x section column → (unit_from_row s x section column).answer.number ≡ 0
    unfolding unit_from_row
    of-unit-asked h = part-number s _ _ 10 _ ∙ unit-none h

    unit-says : (u : UnitRead s x section column)
        → unit_from_row s x section column
        ≡ ten_at (unit_place u.inside.at u.inside.columns column)
        (pointer_at s (heading_place u.inside.at column))
    unfolding unit_from_row
    unit-says u =
        let i = u.inside in
        let t = of-table s x section i.at i.columns i.lines i.table in
        let p = unit_place i.at i.columns column in
        let inside =
        le-leb (byte_of p + 10) (length s) (ten-inside s p (unit-below i.at i.columns column) u.lies) in
        let own : unit_place at shape.columns column ≡ p = rw (← t.own, t.columns-are) in
        rw (unit-none u, pointer-there i u.heading.lies, own, inside)

pub value-read-exactly : ValueReadExactly
value-read-exactly s x section line column =
    (value_of s x section line column, of-value s x section line column)

pub value-read-says : ValueReadSays
value-read-says = value-says

pub heading-read-exactly : HeadingReadExactly
heading-read-exactly s x section column = (heading-asked s x section column, of-heading-asked s x section column)

pub heading-read-says : HeadingReadSays
heading-read-says = heading-says

pub unit-read-exactly : UnitReadExactly
unit-read-exactly s x section column = (unit-asked s x section column, of-unit-asked s x section column)

pub unit-read-says : UnitReadSays
unit-read-says = unit-says
