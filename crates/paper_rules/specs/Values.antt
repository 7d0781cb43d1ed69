-- The rule for value records: refusal 15. A field is read by the number layer, and nothing else of it counts.
use Rattle.std.specs.Prelude.{ℕ, ◌<◌, ◌≤◌, ◌≡◌, Bool, true, cond, ◌&&◌, ◌↔◌, [], ◌++◌, eqb, leb, get_or}
use Rattle.paper_record.specs.Fields.{in_field, first_field}
use Rattle.paper_record.specs.Numbers.{value_fault, values_of}
use Rattle.paper_record.specs.Plain.{AllBlank}
use Rattle.paper_record.specs.declared.types.Values.{Values}
use Rattle.paper_rules.specs.declared.types.Track.{Track}
use Rattle.paper_rules.specs.State.{used, row_ends}
use Rattle.paper_rules.specs.Roles.{Role, DATA-VALUE, is_value}
use Rattle.paper_rules.specs.Record.{Fields, field_column}
use Rattle.paper_faults.specs.Fault.{Columns, when, columns_where}

-- "COMMON values are never blank. DATA values may be": a value that may be blank
abbrev pub optional : Role → Bool
optional role = eqb role DATA-VALUE

-- the first filled field, or 6: where no field is used, each that is filled is at fault
abbrev pub first_filled : Fields → ℕ
first_filled fs = first_field (value_fault true 0) fs

-- every used field is blank
abbrev pub blank_fields : ℕ → Fields → Bool
blank_fields used fs = leb used (first_filled fs)

-- said plainly: each of the used fields is blank
abbrev pub AllFieldsBlank : ℕ → Fields → Type 0
AllFieldsBlank used fs = (k : ℕ) → k < used → AllBlank (get_or fs k [])

abbrev pub BlankFieldsExactly : Type 0
BlankFieldsExactly = (used : ℕ) (fs : Fields) → used ≤ 6 → (blank_fields used fs ≡ true) ↔ AllFieldsBlank used fs

-- "line with every used field blank (at its last record, column 1)"
abbrev pub line_blank : Track → Role → Fields → Bool
line_blank t role fs = optional role && (row_ends t && (t.table.blank && blank_fields (used t) fs))

-- 15, "value malformed, COMMON value blank, unused filled; line with every used field blank (at its last record, column
-- 1)", column "field's first"
unfoldable pub rule15 : Track → Role → Fields → Columns
rule15 t role fs =
    when (line_blank t role fs) 1
    ++ columns_where (in_field (value_fault (optional role) (used t)) fs) field_column 6

-- what the fields of a value record read to: the first at fault, and the numbers; of another record nothing is read
unfoldable pub values_for : Track → Role → Fields → Values
values_for t role fs =
    cond (is_value role) (values_of (optional role) (used t) fs) (record { fault = 6; numbers = 0 })
