-- A line of values, of COMMON or of DATA, record by record: the rules 15 and 17, and the context behind the line.
-- Assumes nothing.
use Prim.Native.Nat.{ℕ, ◌+◌, ◌-◌, ◌*◌, ◌<◌, ◌≤◌}
use mathlib.Core.Path.{◌≡◌, refl, sym, ◌∙◌, ap}
use mathlib.Core.Bool.{Bool, true, false, not, ◌&&◌}
use mathlib.Core.Logic.{◌↔◌}
use mathlib.Core.List.{List, [], ◌∷◌, ◌++◌}
use native.Mathlib.Omega.{arith}
use lib.Dec.{eqb, ltb, leb}
use lib.ListN.{length, length-append}
use borrow.Author.Tests.{lt-ltb, le-ltb, le-leb, leb-true, lt-leb, eqb-true, eqb-false, ne_eqb}
use Rattle.laws.proofs.Booleans.{differ}
use Rattle.laws.proofs.Counting.{first-many, many-above, many-same}
use Rattle.laws.specs.Search.{how_many}
use Rattle.laws.specs.Walk.{All}
use Rattle.laws.proofs.Search.{either, pass-first}
use Rattle.paper_number.specs.declared.types.Form.{Form}
use Rattle.paper_number.specs.declared.types.Form.TheVariants as Form
use Rattle.paper_record.specs.Places.{records_for}
use Rattle.paper_record.specs.Fields.{field_at, fields_of, in_field, first_field}
use Rattle.paper_record.specs.Numbers.{form_at, says_blank, says_number, no_value, value_fault, is_number_at, values_of}
use Rattle.paper_record.proofs.PlainColumns.{not_none}
use Rattle.paper_record.proofs.PlainValues.{value-exactly, unused-exactly}
use Rattle.paper_rules.specs.declared.types.Table.{Table}
use Rattle.paper_rules.specs.State.{Context, used}
use Rattle.paper_rules.specs.Roles.{NOT-DUE, is_value}
use Rattle.paper_faults.specs.Fault.{when, columns_where}
use Rattle.paper_rules.specs.Record.{field_column}
use Rattle.paper_rules.proofs.BlankFields.{blank-form}
use Rattle.paper_rules.specs.Flags.{rule17}
use Rattle.paper_rules.specs.Values.{optional, blank_fields, line_blank, rule15, values_for}
use Rattle.paper_faults.proofs.NoColumns.{when-none, append-none, where-none, none-where}
use Rattle.paper_rules.proofs.ByKind.{clean-value}
use Rattle.good.specs.Parts.{Record}
use Rattle.good.specs.Marks.{Following}
use Rattle.good.specs.Tables.{GoodValue, BlankValue}
use Rattle.good.proofs.Steps.{Takes, next, MarkedFor, marked-every}
use Rattle.good.proofs.Runs.{Run, after_run}
use Rattle.good.proofs.Systems.{identification_in}
use Rattle.good.proofs.RowPlaces.{RowAt, NoEnd}
use Rattle.good.proofs.Rows.{values, role_for, numbers_of, last_of, row_step}
use Rattle.good.proofs.Rowwise.{RowFine, run_row, BehindRow, behind-row, count_row}
use Rattle.good.proofs.Cells.{field-at, few, few-used, few-least, few-below, few_past, below-few, Cells}
use Rattle.good.proofs.FlagsByColumn.{Kept, Keeps, FlagsOn, rule-flags, flags-rule}

-- ---- the rules 15 and 17

-- Rule 15 has two clauses. Field by field: a used value is a number, in DATA also blank, and an unused one is blank.
-- This says something of the cells of one record (`FieldsFine`, `Cells`). Line by line: a line of DATA has a number.
-- The judge looks at this on the last record of the line only, with a flag from the records before: none of them has a
-- number. Here the line is one count m of the numbers so far, and the judge's flag is m = 0 (`LineKnown.blank`).
--
-- Rule 17 holds each value against the heading of its column and against both BIBs. The bytes of these do not change
-- along the lines (`Keeps`), and the column is known by the records of the line before (`LineKnown.place`).
value_role : (d : Bool) → (is_value (role_for values d) ≡ true) × (eqb (role_for values d) NOT-DUE ≡ false)
value_role false = (refl, refl)
value_role true = (refl, refl)

value-rule : (d : Bool) (c : Context) (r : Record) → Takes c (role_for values d) r
    → rule15 c.track (role_for values d) (fields_of r) ≡ []
value-rule d c r t = t.1.fifteen (value_role d).0

rule_value : (d : Bool) (c : Context) (r : Record) → MarkedFor c (role_for values d) r
    → rule15 c.track (role_for values d) (fields_of r) ≡ [] → rule17 c.seen c.track (fields_of r) ≡ []
    → Takes c (role_for values d) r
rule_value d c r m e f =
    let role = role_for values d in
    let (kind, due) = value_role d in
    (m.whole, clean-value c.track c.seen role (fields_of r) r (marked-every c role r m due) kind e f)

optional-is : (d : Bool) → optional (role_for values d) ≡ d
optional-is false = refl
optional-is true = refl

filled-number : (d : Bool) (x : Form) → no_value d x ≡ false → not (says_blank x) ≡ says_number x
filled-number d Form.Blank e = refl
filled-number d Form.Number e = refl
filled-number d Form.Malformed e = e

-- ---- the numbers of a record

abbrev pub number_at : Record → ℕ → Bool
number_at r j = says_number (form_at (field_at r j))

abbrev pub count : ℕ → Record → ℕ
count rest r = how_many (number_at r) 0 (few rest)

-- no field is at fault
record FieldsFine (d : Bool) (c : Context) (r : Record) : Type 0 where
  none : (j : ℕ) → j < 6 → in_field (value_fault d (used c.track)) (fields_of r) j ≡ false

fields-fine : (d : Bool) (c : Context) (r : Record) → Takes c (role_for values d) r
    → (line_blank c.track (role_for values d) (fields_of r) ≡ false) × FieldsFine d c r
unfolding rule15
fields-fine d c r t =
    let role = role_for values d in
    let (a, b) =
    append-none (when (line_blank c.track role (fields_of r)) 1)
    (columns_where (in_field (value_fault (optional role) (used c.track)) (fields_of r)) field_column 6)
    (value-rule d c r t) in (
      when-none (line_blank c.track role (fields_of r)) 1 a,
      record {
        none = λ j l.
            rw (optional-is d) at
            (where-none (in_field (value_fault (optional role) (used c.track)) (fields_of r)) field_column 6
            b j l);
      },
    )

fine-cells : (d : Bool) (c : Context) (rest : ℕ) (r : Record) → c.track.table.rest ≡ rest → FieldsFine d c r
    → Cells (GoodValue d) BlankValue rest r
unfolding value_fault
fine-cells d c rest r e f =
    record {
      used = λ j l a.
          (value-exactly d (field_at r j)).0
          (rw (few-used c.track rest e, lt-ltb j (few rest) (few-below rest j l a), field-at r j l) at
          (f.none j l));
      unused = λ j l a.
          (unused-exactly (field_at r j)).0
          (blank-form (form_at (field_at r j))
          (rw (few-used c.track rest e, le-ltb j (few rest) (few_past rest j l a), field-at r j l) at
          (f.none j l)));
    }

cells-fine : (d : Bool) (c : Context) (rest : ℕ) (r : Record) → c.track.table.rest ≡ rest
    → Cells (GoodValue d) BlankValue rest r → FieldsFine d c r
unfolding value_fault
cells-fine d c rest r e g =
    record {
      none = λ j l.
          rw (few-used c.track rest e, field-at r j l)
          (either j rest
          (λ a. rw (lt-ltb j (few rest) (few-below rest j l a)) ((value-exactly d (field_at r j)).1 (g.used j l a)))
          (λ a. rw (le-ltb j (few rest) (few_past rest j l a), (unused-exactly (field_at r j)).1 (g.unused j l a))));
    }

counted : (d : Bool) (c : Context) (rest : ℕ) (r : Record) → c.track.table.rest ≡ rest → FieldsFine d c r
    → (values_of d (used c.track) (fields_of r)).numbers ≡ count rest r
unfolding values_of is_number_at
counted d c rest r e f =
    let w : first_field (value_fault d (used c.track)) (fields_of r) ≡ 6 =
    pass-first (in_field (value_fault d (used c.track)) (fields_of r)) 0 6 (λ k a l. f.none k (omega arith)) in
    rw w
    (many-same (in_field (is_number_at (used c.track)) (fields_of r)) (λ k. ltb k (few rest) && number_at r k) 6
    (λ k l. rw (few-used c.track rest e, field-at r k l))
    ∙ many-above (number_at r) (few rest) 6 (few-least rest))

values-count : (d : Bool) (c : Context) (rest : ℕ) (r : Record) → c.track.table.rest ≡ rest → FieldsFine d c r
    → numbers_of values d c r ≡ count rest r
unfolding values_for
values-count false c rest r e f = counted false c rest r e f
values-count true c rest r e f = counted true c rest r e f

blank-count : (d : Bool) (c : Context) (rest : ℕ) (r : Record) → c.track.table.rest ≡ rest
    → Cells (GoodValue d) BlankValue rest r → blank_fields (used c.track) (fields_of r) ≡ eqb (count rest r) 0
unfolding value_fault
blank-count d c rest r e g =
    rw (few-used c.track rest e)
    (first-many (in_field (value_fault true 0) (fields_of r)) (number_at r) (few rest) 6 (few-least rest)
    (λ k l.
    let s = few-least rest in
    let m : k < 6 = omega arith in
    rw (field-at r k m, le-ltb k 0 (omega arith))
    (filled-number d (form_at (field_at r k)) ((value-exactly d (field_at r k)).1 (g.used k m (below-few rest k l))))))

-- ---- a record of a line

-- `kept` are the bytes that its values are held against, `before` the records of the line before it, with m numbers
pub record ValuesFine (d : Bool) (kept : Kept) (rest : ℕ) (before : List Record) (m : ℕ) (r : Record) : Type 0 where
  pub cells : Cells (GoodValue d) BlankValue rest r
  pub some : d ≡ true → rest ≤ 6 → 1 ≤ m + count rest r
  pub flags : FlagsOn kept rest before r

abbrev pub LineFine : Bool → Kept → ℕ → List Record → ℕ → Record → Type 0
LineFine d kept rest before m r = ValuesFine d kept rest before m r

pub record LineKnown (kept : Kept) (c : Context) (before : List Record) (m : ℕ) : Type 0 where
  pub blank : c.track.table.blank ≡ eqb m 0
  pub place : length before * 6 + c.track.table.rest ≡ c.track.table.columns
  pub keeps : Keeps c kept

both_zero : (m n : ℕ) → (eqb m 0 && eqb n 0) ≡ eqb (m + n) 0
both_zero m n = by-test (eqb m 0) refl
  where
    by-test : (b : Bool) → eqb m 0 ≡ b → (b && eqb n 0) ≡ eqb (m + n) 0
    by-test true e = let z : m + n ≡ n = (let x = eqb-true m 0 e in omega arith) in rw z
    by-test false e = sym (ne_eqb (m + n) 0 (λ z. eqb-false m 0 e (omega arith)))

and_same : (a b c d : Bool) → a ≡ b → c ≡ d → (a && c) ≡ (b && d)
and_same a b c d p q = rw (p, q)

line-blank : (c : Context) (rest m : ℕ) (r : Record) → c.track.table.rest ≡ rest → c.track.table.blank ≡ eqb m 0
    → Cells (GoodValue true) BlankValue rest r
    → line_blank c.track (role_for values true) (fields_of r) ≡ (leb rest 6 && (eqb m 0 && eqb (count rest r) 0))
line-blank c rest m r e b g =
    and_same (leb c.track.table.rest 6) (leb rest 6)
    (c.track.table.blank && blank_fields (used c.track) (fields_of r)) (eqb m 0 && eqb (count rest r) 0)
    (ap (λ (x : ℕ). leb x 6) e)
    (and_same c.track.table.blank (eqb m 0) (blank_fields (used c.track) (fields_of r)) (eqb (count rest r) 0)
    b (blank-count true c rest r e g))

some_of : (c : Context) (rest m : ℕ) (r : Record) → c.track.table.rest ≡ rest → c.track.table.blank ≡ eqb m 0
    → Cells (GoodValue true) BlankValue rest r → line_blank c.track (role_for values true) (fields_of r) ≡ false
    → rest ≤ 6 → 1 ≤ m + count rest r
some_of c rest m r e b g h l =
    let k : eqb (m + count rest r) 0 ≡ false =
    sym (both_zero m (count rest r))
    ∙ sym (and_same (leb rest 6) true (eqb m 0 && eqb (count rest r) 0) (eqb m 0 && eqb (count rest r) 0)
    (le-leb rest 6 l) refl)
    ∙ sym (line-blank c rest m r e b g) ∙ h in
    not_none (m + count rest r) (eqb-false (m + count rest r) 0 k)

no-blank : (d : Bool) (kept : Kept) (c : Context) (rest : ℕ) (before : List Record) (m : ℕ) (r : Record)
    → c.track.table.rest ≡ rest → c.track.table.blank ≡ eqb m 0 → ValuesFine d kept rest before m r
    → line_blank c.track (role_for values d) (fields_of r) ≡ false
no-blank false kept c rest before m r e b f = refl
no-blank true kept c rest before m r e b f =
    line-blank c rest m r e b f.cells ∙ by-test (leb rest 6) refl
  where
    by-test : (t : Bool) → leb rest 6 ≡ t → (t && (eqb m 0 && eqb (count rest r) 0)) ≡ false
    by-test true q =
        let k = f.some refl (leb-true rest 6 q) in
        both_zero m (count rest r) ∙ ne_eqb (m + count rest r) 0 (λ z. omega arith)
    by-test false q = refl

next_place : (b b' rest left n m : ℕ) → b' ≡ b + 1 → b * 6 + rest ≡ n → 6 < rest → left ≡ rest - 6 → m ≡ n
    → b' * 6 + left ≡ m
next_place b b' rest left n m p q l x y = omega arith

module _ (d : Bool) (kept : Kept) where
  abbrev Known : Context → List Record → ℕ → Type 0
  Known c before m = LineKnown kept c before m

  takes-values : (c : Context) (rest : ℕ) (before : List Record) (m : ℕ) (r : Record) → c.track.table.rest ≡ rest
      → Known c before m → Takes c (role_for values d) r → LineFine d kept rest before m r
  takes-values c rest before m r e k t =
      let (h, f) = fields-fine d c r t in
      let g = fine-cells d c rest r e f in
      record {
        cells = g;
        some = by_kind d g h;
        flags = rule-flags kept c rest before r e k.place k.keeps (t.1.seventeen (value_role d).0);
      }
    where
      by_kind : (d : Bool) → Cells (GoodValue d) BlankValue rest r
          → line_blank c.track (role_for values d) (fields_of r) ≡ false
          → d ≡ true → rest ≤ 6 → 1 ≤ m + count rest r
      by_kind true g h q l = some_of c rest m r e k.blank g h l
      by_kind false g h q l = differ (sym q)

  values-takes : (c : Context) (rest : ℕ) (before : List Record) (m : ℕ) (r : Record) → c.track.table.rest ≡ rest
      → Known c before m → MarkedFor c (role_for values d) r → LineFine d kept rest before m r
      → Takes c (role_for values d) r
  unfolding rule15
  values-takes c rest before m r e k mk f =
      rule_value d c r mk
      (rw (no-blank d kept c rest before m r e k.blank f, optional-is d)
      (none-where (in_field (value_fault d (used c.track)) (fields_of r)) field_column 6
      (cells-fine d c rest r e f.cells).none))
      (flags-rule kept c rest before r e k.place k.keeps f.flags)

  line-known-next : (c : Context) (rest : ℕ) (before : List Record) (m : ℕ) (r : Record) → c.track.table.rest ≡ rest
      → Known c before m → 6 < rest → Takes c (role_for values d) r
      → Known (next c (role_for values d) r) (before ++ (r ∷ [])) (m + count rest r)
  line-known-next c rest before m r e k l t =
      let s = row_step values d c r in
      let q : last_of c ≡ false = rw e (lt-leb rest 6 l) in
      let w = rw q at s.table in
      let (h, f) = fields-fine d c r t in
      record {
        blank =
            ap (λ (x : Table). x.blank) w
            ∙ and_same c.track.table.blank (eqb m 0) (eqb (numbers_of values d c r) 0) (eqb (count rest r) 0)
            k.blank (ap (λ (x : ℕ). eqb x 0) (values-count d c rest r e f))
            ∙ both_zero m (count rest r);
        place =
            next_place (length before) (length (before ++ (r ∷ []))) c.track.table.rest
            (next c (role_for values d) r).track.table.rest c.track.table.columns
            (next c (role_for values d) r).track.table.columns (length-append before (r ∷ [])) k.place
            (rw e l) (ap (λ (x : Table). x.rest) w) (ap (λ (x : Table). x.columns) w);
        keeps = record {
          bib = s.bib ∙ k.keeps.bib;
          bib001 = s.moved.bib001 ∙ k.keeps.bib001;
          table = s.part ∙ k.keeps.table;
        };
      }

  pub run-values : (n last line rest : ℕ) (c : Context) (identification : List ℕ) (s : ℕ)
      (before : List Record) (m : ℕ) (rs : List Record) → RowAt c d values n last line rest → 1 ≤ rest
      → identification_in c ≡ identification → c.track.subentry.records + 2 ≡ s → LineKnown kept c before m
      → length rs ≡ records_for rest
      → Run NoEnd (role_for values d) c rs
      ↔ (All NoEnd rs × Following identification s rs × RowFine (LineFine d kept) count rest before m rs)
  run-values = run_row d values count (LineFine d kept) Known takes-values values-takes line-known-next

pub behind-values : (d : Bool) (n last line rest : ℕ) (c : Context) (rs : List Record)
    → RowAt c d values n last line rest
    → 1 ≤ rest → length rs ≡ records_for rest → Run NoEnd (role_for values d) c rs
    → BehindRow c (after_run (role_for values d) c rs) d values rs (count_row count rest rs)
behind-values d =
    behind-row d values count
    (λ c r t. values-count d c c.track.table.rest r refl (fields-fine d c r t).1)
