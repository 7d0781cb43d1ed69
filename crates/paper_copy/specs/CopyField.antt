-- One field of the canonical copy: which fields of a record are number fields, and what stands in the copy for each.
-- Document 01: it "replaces each non-blank value field of COMMON and DATA by its canonical field and keeps every other
-- byte". Document 02, M-105, of FLAG and DECAY-FLAG: "The copy leaves both kinds of column unaltered, and demand 3 treats
-- them as bytes outside number fields."
use Rattle.std.specs.Prelude.{ℕ, Bool, true, false, not, ◌&&◌, List, ltb}
use Rattle.paper_canonical.specs.Replacing.{canonical}
use Rattle.paper_rules.specs.declared.types.Track.{Track}
use Rattle.paper_rules.specs.State.{used}
use Rattle.paper_rules.specs.Roles.{is_value}
use Rattle.paper_rules.specs.Flags.{flag_column}

-- the field k (counted from 0) of a record with this role is a value field of COMMON or DATA, filled or blank
abbrev pub value_field : Track → ℕ → ℕ → Bool
value_field t role k = is_value role && ltb k (used t)

-- a number field: a value field that is not under FLAG or DECAY-FLAG; `table` are the heading records of its table
abbrev pub number_in : List ℕ → Track → ℕ → ℕ → Bool
number_in table t role k = value_field t role k && not (flag_column table t k)

-- a field as the copy has it, where it is a number field and where it is not; a blank one is its own canonical field
abbrev pub copy_field : Bool → List ℕ → List ℕ
copy_field true f = canonical f
copy_field false f = f
