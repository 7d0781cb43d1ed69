-- Questions about the tables of a good entry are answered from the cell of that line and column.
--
-- The record that opens a table stands in the entry where the judge's walk meets it (`Reached`), so that the question
-- is inside the entry's shape (`inside`); the record that it is answered from has an index there (inside, `Placed`),
-- and at that index stands the record of that row (`Rows`).
-- Assumes nothing.
use Prim.Native.Nat.{ℕ, suc, ◌+◌, ◌-◌, ◌*◌, ◌/◌, ◌%◌, ◌<◌, ◌≤◌}
use mathlib.Core.Path.{◌≡◌, refl, sym, ◌∙◌, ap}
use mathlib.Core.Bool.{Bool, true, false}
use mathlib.Core.List.{List, [], ◌∷◌, ◌++◌}
use native.Mathlib.Omega.{arith}
use lib.ListN.{length, get_or, take}
use Rattle.laws.specs.Walk.{All}
use Rattle.laws.specs.Blocks.{block_at}
use Rattle.paper_number.specs.Digits.{field_read}
use Rattle.paper_record.specs.Places.{records_for, place_of}
use Rattle.paper_record.specs.Fields.{fields_of, field_at, n2}
use Rattle.paper_record.specs.declared.types.LineNo.{LineNo}
use Rattle.paper_record.specs.declared.types.RecordNo.{RecordNo}
use Rattle.paper_record.specs.Word.{pointer_of}
use Rattle.paper_record.specs.System.{count_of}
use Rattle.std.proofs.Common.{Some}
use Rattle.paper_record.proofs.PlainDigits.{count-exactly}
use Rattle.paper_rules.specs.Counts.{count_n1}
use Rattle.paper_entry.specs.Judging.{judge_of}
use Rattle.paper_entry.specs.Answer.{answer_of}
use Rattle.paper_entry.specs.Contexts.{context_at}
use Rattle.paper_questions.specs.declared.types.PartAnswer.{PartAnswer}
use Rattle.paper_questions.specs.Located.{row_of}
use Rattle.paper_questions.specs.declared.types.Shape.{Shape}
use Rattle.paper_questions.specs.Place.{shape_of, heading_place, unit_place, field_of, byte_of}
use Rattle.paper_questions.specs.Refused.{section_in, value_refusal, column_refusal}
use Rattle.paper_questions.specs.ValueAnswers.{value_by}
use Rattle.paper_questions.specs.PartAnswers.{heading_by, unit_by}
use Rattle.paper_questions.specs.Ask.{value_asked, heading_asked, unit_asked}
use Rattle.paper_questions.proofs.RowChanges.{opener}
use Rattle.inside.specs.Inside.{OpensSection, InsideValue, InsideColumn, lines_announced}
use Rattle.entry_walk.proofs.TableLaid.{section_role, lines_of}
use Rattle.inside.proofs.RowFound.{Opening}
use Rattle.inside.proofs.Answered.{section_no, section_of, shape-columns, value-answered, heading-answered, unit-answered}
use Rattle.inside.proofs.NotRefused.{part-zeros}
use Rattle.inside.proofs.Asked.{opens_of, value-not-refused}
use Rattle.inside.proofs.Placed as Placed
use Rattle.rules_plain.specs.Places.{cell}
use Rattle.good.specs.Parts.{Record, Table, rows_of, records_of}
use Rattle.good.specs.Tables.{columns_of, GoodValues, GoodTable, GoodCommon, GoodData}
use Rattle.good.specs.Subentries.{own_number}
use Rattle.good.specs.Good.{GoodBytes}
use Rattle.answered_tables.specs.Tables.{answered_by, first_common, later_common, later_data, LineIn, ColumnIn, PartOf}
use Rattle.answered_tables.specs.Tables.{ValueOfTable, HeadingOfTable, UnitOfTable}
use Rattle.answered_tables.proofs.Indexed.{size, records, block_is, accepted, block-behind, context-behind}
use Rattle.answered_tables.proofs.Indexed.{there-behind}
use Rattle.answered_tables.proofs.Reached.{Reached}
use Rattle.answered_tables.proofs.LaterReached.{data-reached, data-good, common-reached, common-good}
use Rattle.answered_tables.proofs.FirstReached.{first-reached, first-common-good}
use Rattle.answered_tables.proofs.Rows.{line_at, head_at, unit-at, ten-of}

-- ---- beside 0 stand zeros

module _ (s : List ℕ) (n section column : ℕ) where
  abbrev own : RecordNo
  own = section_in (row_of s n) section

  abbrev shape : Shape
  shape = shape_of s section own

  abbrev number : ℕ
  number = column_refusal s (judge_of s) (row_of s n) own shape column

  abbrev pointer : ℕ
  pointer = pointer_of (field_of s (heading_place own column))

  heading-zeros : (heading_asked s n section column).answer.number ≡ 0
      → (heading_asked s n section column).answer ≡ answer_of 0
  unfolding heading_asked heading_by
  heading-zeros e = part-zeros s (judge_of s) number (byte_of (heading_place own column)) 10 pointer e

  unit-zeros : (unit_asked s n section column).answer.number ≡ 0 → (unit_asked s n section column).answer ≡ answer_of 0
  unfolding unit_asked unit_by
  unit-zeros e = part-zeros s (judge_of s) number (byte_of (unit_place own shape.columns column)) 10 pointer e

-- ---- a table that is reached

-- what both sections have in common: DATA where b is true, else COMMON
record Laid (b : Bool) (t : Table) : Type 0 where
  table : GoodTable t
  lines : lines_of b (fields_of t.opening) ≡ length t.lines
  least : 1 ≤ length t.lines
  rows : All (λ row. length row ≡ records_for (columns_of t)) t.lines

module _ (s : List ℕ) (g : GoodBytes s) (b : Bool) (n : ℕ) (t : Table) (r : Reached g.entry n (section_role b) t)
    (laid : Laid b t) where
  abbrev a : ℕ
  a = length r.before

  at_opening : block_at 81 s a ≡ t.opening
  at_opening = block-behind s g r.before t.opening (rows_of t ++ r.behind) r.split

  context-is : context_at s a ≡ r.here
  context-is =
      context-behind s g r.before t.opening (rows_of t ++ r.behind) r.split r.here r.passes

  opening : Opening s n (section_of b) a
  opening =
      record {
        there = there-behind s g r.before t.opening (rows_of t ++ r.behind) r.split;
        role = rw (context-is, at_opening) (r.due ∙ role-of b);
        subentry = rw context-is r.number;
      }
    where
      role-of : (b : Bool) → section_role b ≡ opener (section_of b)
      role-of true = refl
      role-of false = refl

  abbrev fs : List (List ℕ)
  fs = fields_of (block_at 81 s a)

  columns-are : count_n1 fs ≡ columns_of t
  unfolding columns_of
  columns-are = rw at_opening

  lines_are : lines_of b fs ≡ length t.lines
  lines_are = rw at_opening laid.lines

  abbrev k : ℕ
  k = records_for (columns_of t)

  opens-it : OpensSection s n (section_no b) a
  opens-it = opens_of s n b a opening

  -- a record of the row q is in the entry
  in_entry : (q column : ℕ) → q ≤ length t.lines + 1 → ColumnIn t column
      → suc a + q * k + (column - 1) / 6 < length (records_of g.entry)
  in_entry q column h x =
      let c = columns-are in
      let d = lines_are in
      let from = x.from in
      let to : column ≤ count_n1 fs = rw c x.to in
      let there =
      (Placed.row_laid s (accepted s g) n b a opening q ((column - 1) / 6) (omega arith) (omega arith)).0 in
      let e = records s g in
      rw (← e) (rw c at there)

  -- ---- values

  module _ (line : LineNo) (column : ℕ) (y : LineIn t line) (x : ColumnIn t column) where
    inside : InsideValue s n (section_no b) line column
    inside =
        let c = columns-are in
        record {
          index = a;
          opens = opens-it;
          column_from = x.from;
          column_to = (let h = x.to in omega arith);
          line_from = y.from;
          line_to = lines-to b lines_are;
        }
      where
        lines-to : (b : Bool) → lines_of b fs ≡ length t.lines
            → line.0 ≤ lines_announced (section_no b) (block_at 81 s a)
        lines-to true e = let h = y.to in omega arith
        lines-to false e = let h = y.to in omega arith

    refused-not : value_refusal s (judge_of s) (row_of s n) (section_in (row_of s n) (section_no b))
        (shape_of s (section_no b) (section_in (row_of s n) (section_no b))) line column ≡ 0
    refused-not =
        value-not-refused s n (section_no b) line column
        (value-answered s n (section_no b) line column (accepted s g) inside).0

    value-whole : value_asked s n (section_no b) line column
        ≡ answered_by (field_of s (place_of (section_in (row_of s n) (section_no b)) (count_n1 fs) line column))
    unfolding value_asked value_by field_read
    value-whole = rw (refused-not, shape-columns s (accepted s g) n b a opening)

    abbrev above : ℕ
    above = line.0 - 1

    abbrev m : ℕ
    m = (column - 1) / 6

    block_of : block_at 81 s (suc a + suc (suc above) * k + m) ≡ get_or (get_or t.lines above []) m []
    block_of =
        let h = laid.table.headings.records in
        let u = laid.table.units.records in
        let few : m < k = (let c = x.to in let d = x.from in omega arith) in
        let l : above < length t.lines = (let c = y.to in let d = y.from in omega arith) in
        block_is s g (suc a + suc (suc above) * k + m) (in_entry (suc (suc above)) column (omega arith) x)
        ∙ ap (λ (xs : List Record). get_or xs (suc a + suc (suc above) * k + m) []) r.split
        ∙ line_at r.before t.opening t r.behind k above m h u laid.rows l few

    table-value : value_asked s n (section_no b) line column
        ≡ answered_by (cell (get_or t.lines above []) (column - 1))
    unfolding cell
    table-value =
        let c = columns-are in
        let d = lines_are in
        let field =
        Placed.value-at s (accepted s g) n b a opening column x.from (rw c x.to) line y.from (rw d y.to) in
        value-whole
        ∙ ap answered_by
        (field ∙ ap (λ (z : List ℕ). field_at z ((column - 1) % 6)) (rw (← c) at block_of))

  -- ---- headings and units

  module _ (column : ℕ) (x : ColumnIn t column) where
    column-inside : InsideColumn s n (section_no b) column
    column-inside =
        let c = columns-are in
        record { index = a; opens = opens-it; from = x.from; to = (let h = x.to in omega arith) }

    abbrev row : ℕ
    row = (column - 1) / 6

    abbrev f : ℕ
    f = (column - 1) % 6

    few : row < k
    few = let c = x.to in let d = x.from in omega arith

    heading-block : block_at 81 s (suc a + 0 * k + row) ≡ get_or t.headings row []
    heading-block =
        block_is s g (suc a + 0 * k + row) (in_entry 0 column (omega arith) x)
        ∙ ap (λ (xs : List Record). get_or xs (suc a + 0 * k + row) []) r.split
        ∙ head_at r.before t.opening t r.behind k row laid.table.headings.records few

    unit-block : block_at 81 s (suc a + 1 * k + row) ≡ get_or t.units row []
    unit-block =
        block_is s g (suc a + 1 * k + row) (in_entry 1 column (let l = laid.least in omega arith) x)
        ∙ ap (λ (xs : List Record). get_or xs (suc a + 1 * k + row) []) r.split
        ∙ unit-at r.before t.opening t r.behind k row laid.table.headings.records
        laid.table.units.records few

    abbrev heading : PartAnswer
    heading = heading_asked s n (section_no b) column

    abbrev unit : PartAnswer
    unit = unit_asked s n (section_no b) column

    ten-in : (q : ℕ) → q ≤ length t.lines + 1 → (suc a + q * k + row) * 81 + 81 ≤ length s
    ten-in q h = let i = in_entry q column h x in let e = size s g in omega arith

    heading_part : PartOf s (cell t.headings (column - 1)) (cell t.headings (column - 1)) heading
    unfolding cell
    heading_part =
        let (none, ten) = heading-answered s n (section_no b) column (accepted s g) column-inside in
        let c = columns-are in
        let p = Placed.heading-at s (accepted s g) n b a opening column x.from (rw c x.to) ten in
        let first : heading.first ≡ (suc a + 0 * k + row) * 81 + f * 11 = rw c at p.0 in
        record {
          answered = heading-zeros s n (section_no b) column none;
          part = rw (ten, first)
              (ten-of s (suc a + 0 * k + row) f (omega arith) (ten-in 0 (omega arith))
              ∙ ap (λ (z : List ℕ). take 10 (field_at z f)) heading-block);
          pointer = p.1 ∙ ap (λ (z : List ℕ). pointer_of (field_at z f)) (rw (← c) at heading-block);
        }

    unit_part : PartOf s (cell t.units (column - 1)) (cell t.headings (column - 1)) unit
    unfolding cell
    unit_part =
        let (none, ten) = unit-answered s n (section_no b) column (accepted s g) column-inside in
        let c = columns-are in
        let l = laid.least in
        let p = Placed.unit-at s (accepted s g) n b a opening column x.from (rw c x.to) ten in
        let first : unit.first ≡ (suc a + 1 * k + row) * 81 + f * 11 = rw c at p.0 in
        record {
          answered = unit-zeros s n (section_no b) column none;
          part = rw (ten, first)
              (ten-of s (suc a + 1 * k + row) f (omega arith) (ten-in 1 (omega arith))
              ∙ ap (λ (z : List ℕ). take 10 (field_at z f)) unit-block);
          pointer = p.1 ∙ ap (λ (z : List ℕ). pointer_of (field_at z f)) (rw (← c) at heading-block);
        }

-- ---- the tables of an entry

values-long : (o : Bool) (n : ℕ) (rows : List (List Record)) → All (GoodValues o n) rows
    → All (λ row. length row ≡ records_for n) rows
values-long o n [] h = tt
values-long o n (row ∷ rows) h = (h.0.records, values-long o n rows h.1)

laid-data : (t : Table) → GoodData t → Laid true t
laid-data t g =
    let e : count_of (n2 (fields_of t.opening)) ≡ Some (length t.lines) =
    (count-exactly 11 (n2 (fields_of t.opening)) (length t.lines)).1 g.lines in
    record {
      table = g.table;
      lines = rw e;
      least = g.least;
      rows = values-long true (columns_of t) t.lines g.values;
    }

laid-common : (t : Table) → GoodCommon t → Laid false t
laid-common t g =
    record {
      table = g.table;
      lines = sym g.one;
      least = (let e = g.one in omega arith);
      rows = values-long false (columns_of t) t.lines g.values;
    }

-- THE THEOREMS
pub value_of_table : ValueOfTable
value_of_table s g n section t (first_common u there) line column y x =
    table-value s g false 1 t (first-reached g.entry g.good t there)
    (laid-common t (first-common-good g.entry g.good t there)) line column y x
value_of_table s g n section t (later_common before after l u among there) line column y x =
    table-value s g false (own_number l.opening) t (common-reached g.entry g.good before after l among t there)
    (laid-common t (common-good g.entry g.good before after l among t there)) line column y x
value_of_table s g n section t (later_data before after l u among there) line column y x =
    table-value s g true (own_number l.opening) t (data-reached g.entry g.good before after l among t there)
    (laid-data t (data-good g.entry g.good before after l among t there)) line column y x

pub heading_of_table : HeadingOfTable
heading_of_table s g n section t (first_common u there) column x =
    heading_part s g false 1 t (first-reached g.entry g.good t there)
    (laid-common t (first-common-good g.entry g.good t there)) column x
heading_of_table s g n section t (later_common before after l u among there) column x =
    heading_part s g false (own_number l.opening) t (common-reached g.entry g.good before after l among t there)
    (laid-common t (common-good g.entry g.good before after l among t there)) column x
heading_of_table s g n section t (later_data before after l u among there) column x =
    heading_part s g true (own_number l.opening) t (data-reached g.entry g.good before after l among t there)
    (laid-data t (data-good g.entry g.good before after l among t there)) column x

pub unit_of_table : UnitOfTable
unit_of_table s g n section t (first_common u there) column x =
    unit_part s g false 1 t (first-reached g.entry g.good t there)
    (laid-common t (first-common-good g.entry g.good t there)) column x
unit_of_table s g n section t (later_common before after l u among there) column x =
    unit_part s g false (own_number l.opening) t (common-reached g.entry g.good before after l among t there)
    (laid-common t (common-good g.entry g.good before after l among t there)) column x
unit_of_table s g n section t (later_data before after l u among there) column x =
    unit_part s g true (own_number l.opening) t (data-reached g.entry g.good before after l among t there)
    (laid-data t (data-good g.entry g.good before after l among t there)) column x
