-- The six fields of a value record, by what each reads to (document 01, "BIB, headings, pointers"):
--
--   "unused fields are blank. [..] COMMON values are never blank. DATA values may be, but each line has at least one
--   number."
--
-- A field is looked at through the number layer's reading only, so two fields that read alike are alike here.
use Rattle.std.specs.Prelude.{ℕ, Bool, true, false, cond, not, ◌&&◌, List, ltb}
use Rattle.laws.specs.Search.{how_many}
use Rattle.paper_number.specs.Form.{form_of}
use Rattle.paper_number.specs.Reading.{read_field}
use Rattle.paper_number.specs.declared.types.Form.{Form}
use Rattle.paper_number.specs.declared.types.Form.TheVariants.{Blank, Number, Malformed}
use Rattle.paper_record.specs.Fields.{in_field, first_field}
use Rattle.paper_record.specs.declared.types.Values.{Values}

-- blank, a number, or malformed
abbrev pub form_at : List ℕ → Form
form_at f = form_of (read_field f)

abbrev pub says_blank : Form → Bool
says_blank Blank = true
says_blank Number = false
says_blank Malformed = false

abbrev pub says_number : Form → Bool
says_number Blank = false
says_number Number = true
says_number Malformed = false

-- no value; an optional value may be blank
abbrev pub no_value : Bool → Form → Bool
no_value optional Blank = not optional
no_value optional Number = false
no_value optional Malformed = true

-- refusal 15: "value malformed, COMMON value blank, unused filled"; the field k, where `used` fields are used
unfoldable pub value_fault : Bool → ℕ → ℕ → List ℕ → Bool
value_fault optional used k f = cond (ltb k used) (no_value optional (form_at f)) (not (says_blank (form_at f)))

-- the field k is used and a number
unfoldable pub is_number_at : ℕ → ℕ → List ℕ → Bool
is_number_at used k f = ltb k used && says_number (form_at f)

-- how many of the used fields are numbers
abbrev pub numbers_in : ℕ → List (List ℕ) → ℕ
numbers_in used fields = how_many (in_field (is_number_at used) fields) 0 6

-- the first field at fault, or 6, and how many numbers stand before it: found in one pass
unfoldable pub values_of : Bool → ℕ → List (List ℕ) → Values
values_of optional used fields =
    let k : ℕ = first_field (value_fault optional used) fields in
    record { fault = k; numbers = how_many (in_field (is_number_at used) fields) 0 k }
