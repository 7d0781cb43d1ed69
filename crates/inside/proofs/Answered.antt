-- Demand 3, its first half: for an accepted entry every question inside its own shape is answered.
-- Assumes nothing.
use Prim.Native.Nat.{ℕ, suc, ◌+◌, ◌*◌, ◌-◌, ◌/◌, ◌%◌, ◌<◌, ◌≤◌}
use mathlib.Core.Path.{◌≡◌, refl, sym, ◌∙◌}
use mathlib.Core.Bool.{Bool, true, false, cond}
use mathlib.Core.List.{List, [], ◌∷◌}
use native.Mathlib.Omega.{arith}
use native.Mathlib.Nat.{suc-mul, zero-mul}
use lib.Dec.{eqb}
use lib.ListN.{length, get_or}
use borrow.Author.Tests.{eqb-true, ne_eqb, le-leb}
use Rattle.laws.specs.Blocks.{block_at}
use Rattle.paper_record.specs.Places.{records_for, place_of}
use Rattle.paper_record.specs.Fields.{fields_of}
use Rattle.paper_record.specs.Text.{within}
use Rattle.paper_record.specs.Numbers.{no_value}
use Rattle.paper_number.specs.Form.{form_of}
use Rattle.paper_record.specs.Identifier.{COMMON, DATA}
use Rattle.paper_record.specs.System.{up_to}
use Rattle.paper_record.specs.declared.types.RecordNo.{RecordNo}
use Rattle.paper_record.specs.declared.types.LineNo.{LineNo}
use Rattle.paper_record.specs.declared.types.Place.{Place}
use Rattle.paper_record.proofs.TablePlaces.{place_at, place-field}
use Rattle.paper_number.specs.Reading.{read_field}
use Rattle.paper_number.specs.Digits.{field_read}
use Rattle.paper_number.specs.declared.types.Reading.{Reading}
use Rattle.paper_number.specs.declared.types.Reading.TheVariants.{Blank, Number, Refused}
use Rattle.paper_rules.specs.Counts.{count_n1, count_n2}
use Rattle.paper_rules.specs.Roles.{NOT-DUE, is_value}
use Rattle.paper_rules.specs.Limits.{MOST-COLUMNS, MOST-LINES}
use Rattle.paper_entry.specs.Judging.{role_of, judge_of, Accepted}
use Rattle.paper_rules.proofs.DueRecords.{fine-due}
use Rattle.paper_rules.proofs.WithoutFault.{fine-reads}
use Rattle.entry_walk.proofs.GoingOn.{go-fine}
use Rattle.paper_entry.specs.Contexts.{context_at, role_at}
use Rattle.paper_entry.specs.Answer.{first_of, refusal}
use Rattle.paper_questions.specs.declared.types.Row.{Row}
use Rattle.paper_questions.specs.declared.types.Shape.{Shape}
use Rattle.paper_questions.specs.Located.{row_of}
use Rattle.paper_questions.specs.Place.{COMMON-SECTION, DATA-SECTION, fields_at, shape_of, heading_place, unit_place}
use Rattle.paper_questions.specs.Place.{field_of, byte_of}
use Rattle.paper_questions.specs.Refused.{section_in, no_section, no_line, no_column, section_refusals, value_refusal}
use Rattle.paper_questions.specs.Refused.{column_refusal}
use Rattle.paper_questions.specs.ValueAnswers.{value_by}
use Rattle.paper_questions.specs.PartAnswers.{heading_by, unit_by}
use Rattle.paper_questions.specs.Ask.{value_asked, heading_asked, unit_asked}
use Rattle.inside.specs.Inside.{OpensSection, is_said, ValueAnswered, HeadingAnswered, UnitAnswered}
use Rattle.paper_questions.proofs.InOrder.{section-none}
use Rattle.entry_walk.proofs.AcceptedWalk.{walked}
use Rattle.entry_walk.proofs.Laid.{row_role}
use Rattle.entry_walk.proofs.TableLaid.{table-laid, section_role, lines_of, Opened, opened}
use Rattle.paper_questions.proofs.RowChanges.{Section, common, table, opener, named}
use Rattle.inside.proofs.RowWalked.{fields-at}
use Rattle.inside.proofs.RowFound.{Opening, row-names, row-subent, row-fields}

-- ---- the section that is asked for

-- DATA where b is true, else COMMON, by the section's number in a question
abbrev pub section_no : Bool → ℕ
section_no true = DATA-SECTION
section_no false = COMMON-SECTION

abbrev pub section_of : Bool → Section
section_of true = table
section_of false = common

-- a section that opens is one of the two
pub which : (s : List ℕ) (accepted : Accepted s) (n section a : ℕ) → OpensSection s n section a
    → (b : Bool) × ((section ≡ section_no b) × Opening s n (section_of b) a)
which s accepted n section a o = by_tests (eqb section 1) refl (eqb section 2) refl o.role
  where
    by_tests : (p : Bool) → eqb section 1 ≡ p → (q : Bool) → eqb section 2 ≡ q
        → role_at s a ≡ cond p COMMON (cond q DATA NOT-DUE)
        → (b : Bool) × ((section ≡ section_no b) × Opening s n (section_of b) a)
    by_tests true p q u e =
        (false, (eqb-true section 1 p, record { there = o.there; role = e; subentry = o.subentry }))
    by_tests false p true u e =
        (true, (eqb-true section 2 u, record { there = o.there; role = e; subentry = o.subentry }))
    by_tests false p false u e =
        let c = context_at s a in
        let r = block_at 81 s a in
        absurd
        (fine-due c.track c.seen (role_of c r) (fields_of r) r
        (go-fine c a r (context_at s (suc a)) ((walked s accepted).turns a o.there)).0 e)

-- ---- no refusal

within-true : (low high n : ℕ) → low ≤ n → n ≤ high → within low high n ≡ true
within-true low high n a b = rw (le-leb low n a, le-leb n high b)

said : (r : Reading) → no_value true (form_of r) ≡ false → is_said r ≡ true
said Blank e = refl
said (Number v) e = refl
said (Refused n) e = sym e

value_role : (b : Bool) (l : ℕ) → is_value (row_role b (suc (suc l))) ≡ true
value_role true l = refl
value_role false l = refl

module _ (s : List ℕ) (accepted : Accepted s) (n : ℕ) (b : Bool) (a : ℕ) (o : Opening s n (section_of b) a) where
  abbrev x : Row
  x = row_of s n

  abbrev at : RecordNo
  at = section_in x (section_no b)

  abbrev fs : List (List ℕ)
  fs = fields_of (block_at 81 s a)

  at_named : at ≡ named (section_of b) x
  at_named = by-section b
    where
      by-section : (b : Bool) → section_in (row_of s n) (section_no b) ≡ named (section_of b) (row_of s n)
      by-section true = refl
      by-section false = refl

  pub at-record : at.0 ≡ suc a
  at-record = rw at_named (row-names s accepted n (section_of b) a o)

  pub begun : Opened b s a
  begun = opened b s (length s / 81) (walked s accepted) a o.there (by-section b o.role)
    where
      by-section : (b : Bool) → role_at s a ≡ opener (section_of b) → role_at s a ≡ section_role b
      by-section true e = e
      by-section false e = e

  -- the shape is what the section's own record announces
  pub shape-columns : (shape_of s (section_no b) at).columns ≡ count_n1 fs
  unfolding shape_of
  shape-columns =
      let f : fields_at s at ≡ fs = rw at_named (row-fields s accepted n (section_of b) a o) in
      rw (f, le-leb (count_n1 fs) MOST-COLUMNS begun.columns-to)

  pub shape-lines : (shape_of s (section_no b) at).lines ≡ lines_of b fs
  unfolding shape_of
  shape-lines =
      let f : fields_at s at ≡ fs = rw at_named (row-fields s accepted n (section_of b) a o) in
      rw f (by-section b begun.lines-to)
    where
      by-section : (b : Bool) → lines_of b fs ≤ MOST-LINES
          → cond (eqb (section_no b) COMMON-SECTION) 1 (up_to MOST-LINES (count_n2 fs)) ≡ lines_of b fs
      by-section true h = rw (le-leb (count_n2 fs) MOST-LINES h)
      by-section false h = refl

  section-there : first_of (section_refusals s (judge_of s) x at) ≡ 0
  section-there =
      let z : no_section at ≡ false = ne_eqb at.0 0 (λ e. let r = at-record in omega arith) in
      rw (accepted, row-subent s accepted n (section_of b) a o, z)

  -- ---- the records of the table

  abbrev k : ℕ
  k = records_for (count_n1 fs)

  -- the record m of the row q, by its index
  abbrev index : ℕ → ℕ → ℕ
  index q m = suc a + q * k + m

  pub laid-at : (q m : ℕ) → q ≤ lines_of b fs + 1 → m < k → (index q m < length s / 81)
      × (role_at s (index q m) ≡ row_role b q)
  laid-at q m h l =
      let (x, y) =
      table-laid s (length s / 81) (walked s accepted) b (context_at s a).track.subentry.number (count_n1 fs)
      (lines_of b fs) (suc a) begun.columns-from begun.lines_from (omega (arith, o.there))
      begun.laid q m h l in
      (x, y.1)

  fields_laid : (q m : ℕ) → q ≤ lines_of b fs + 1 → m < k → (r : RecordNo) → r.0 ≡ suc (index q m)
      → fields_at s r ≡ fields_of (block_at 81 s (index q m))
  fields_laid q m h l r e =
      let z = (laid-at q m h l).0 in
      fields-at s (index q m) (omega arith) r e

  -- ---- values

  module _ (line : LineNo) (column : ℕ) (cf : 1 ≤ column) (ct : column ≤ count_n1 fs) (lf : 1 ≤ line.0)
      (lt : line.0 ≤ lines_of b fs) where
    abbrev shape : Shape
    shape = shape_of s (section_no b) at

    value_none : value_refusal s (judge_of s) x at shape line column ≡ 0
    unfolding value_refusal
    value_none =
        section-none s (judge_of s) x at (refusal 34 (no_line shape line) ∷ refusal 35 (no_column shape column) ∷ [])
        section-there
        ∙ rw (
          shape-lines,
          shape-columns,
          le-leb 1 line.0 lf,
          le-leb line.0 (lines_of b fs) lt,
          le-leb 1 column cf,
          le-leb column (count_n1 fs) ct,
        )

    abbrev above : ℕ
    above = line.0 - 1

    pub place-record : (place_of at (count_n1 fs) line column).at.0 ≡ suc (index (suc (suc above)) ((column - 1) / 6))
    place-record =
        let e = place_at at (count_n1 fs) line column in
        let p = suc-mul (suc above) k in
        let q = suc-mul above k in
        let r = at-record in
        omega arith

    value-said : is_said (read_field (field_of s (place_of at (count_n1 fs) line column))) ≡ true
    value-said =
        let q = suc (suc above) in
        let m = (column - 1) / 6 in
        let h : q ≤ lines_of b fs + 1 = omega arith in
        let l : m < k = omega arith in
        let i = index q m in
        let c = context_at s i in
        let r = block_at 81 s i in
        let (z, e) = laid-at q m h l in
        let f = fields_laid q m h l (place_of at (count_n1 fs) line column).at place-record in
        let fine = (go-fine c i r (context_at s (suc i)) ((walked s accepted).turns i z)).0 in
        let v : is_value (role_of c r) ≡ true = rw e (value_role b above) in
        rw (f, place-field at (count_n1 fs) line column)
        (said (read_field (get_or (fields_of r) ((column - 1) % 6) []))
        (fine-reads c.track c.seen (role_of c r) (fields_of r) r fine v ((column - 1) % 6) (omega arith)))

    value_there : ((value_by s (judge_of s) x (section_no b) line column).answer.number ≡ 0)
        × (is_said (value_by s (judge_of s) x (section_no b) line column).value ≡ true)
    unfolding value_by field_read
    value_there = (rw value_none, rw (value_none, shape-columns) value-said)

  -- ---- headings and units

  module _ (column : ℕ) (cf : 1 ≤ column) (ct : column ≤ count_n1 fs) where
    column_none : column_refusal s (judge_of s) x at (shape_of s (section_no b) at) column ≡ 0
    unfolding column_refusal
    column_none =
        section-none s (judge_of s) x at (refusal 35 (no_column (shape_of s (section_no b) at) column) ∷ []) section-there
        ∙ rw (shape-columns, le-leb 1 column cf, le-leb column (count_n1 fs) ct)

    -- a field of the row q lies in the entry
    field-lies : (q : ℕ) → q ≤ 1 → (p : Place) → p.at.0 ≡ suc (index q ((column - 1) / 6)) → p.field ≤ 5
        → byte_of p + 10 ≤ length s
    field-lies q h p e f =
        let z = (laid-at q ((column - 1) / 6) (omega arith) (omega arith)).0 in
        omega arith

    heading-lies : byte_of (heading_place at column) + 10 ≤ length s
    unfolding heading_place
    heading-lies =
        let z = zero-mul k in
        let r = at-record in
        field-lies 0 (omega arith) (heading_place at column) (omega arith) (omega arith)

    unit-lies : byte_of (unit_place at (count_n1 fs) column) + 10 ≤ length s
    unfolding unit_place
    unit-lies =
        let z = suc-mul 0 k in
        let y = zero-mul k in
        let r = at-record in
        field-lies 1 (omega arith) (unit_place at (count_n1 fs) column) (omega arith) (omega arith)

    heading-there : ((heading_by s (judge_of s) x (section_no b) column).answer.number ≡ 0)
        × ((heading_by s (judge_of s) x (section_no b) column).length ≡ 10)
    unfolding heading_by
    heading-there =
        let l = le-leb (byte_of (heading_place at column) + 10) (length s) heading-lies in
        (rw (column_none, l), rw (column_none, l))

    unit-there : ((unit_by s (judge_of s) x (section_no b) column).answer.number ≡ 0)
        × ((unit_by s (judge_of s) x (section_no b) column).length ≡ 10)
    unfolding unit_by
    unit-there =
        let l = le-leb (byte_of (unit_place at (count_n1 fs) column) + 10) (length s) unit-lies in
        (rw (column_none, shape-columns, l), rw (column_none, shape-columns, l))

-- THE THEOREM, for values
pub value-answered : ValueAnswered
unfolding value_asked
value-answered s n section line column accepted i =
    let (b, (e, o)) = which s accepted n section i.index i.opens in
    rw e
    (value_there s accepted n b i.index o line column i.column_from i.column_to i.line_from
    (lines_same b (fields_of (block_at 81 s i.index)) (rw e at i.line_to)))
  where
    lines_same : (b : Bool) (fs : List (List ℕ)) → line.0 ≤ cond (eqb (section_no b) COMMON-SECTION) 1 (count_n2 fs)
        → line.0 ≤ lines_of b fs
    lines_same true fs h = h
    lines_same false fs h = h

-- for headings and for units
pub heading-answered : HeadingAnswered
unfolding heading_asked
heading-answered s n section column accepted i =
    let (b, (e, o)) = which s accepted n section i.index i.opens in
    rw e (heading-there s accepted n b i.index o column i.from i.to)

pub unit-answered : UnitAnswered
unfolding unit_asked
unit-answered s n section column accepted i =
    let (b, (e, o)) = which s accepted n section i.index i.opens in
    rw e (unit-there s accepted n b i.index o column i.from i.to)
