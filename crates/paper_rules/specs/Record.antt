-- What a rule is made on: a record and its six fields, and the columns of these.
use Rattle.std.specs.Prelude.{ℕ, ◌+◌, ◌*◌, List}

-- the bytes of a record
abbrev pub Record : Type 0
Record = List ℕ

-- its six fields
abbrev pub Fields : Type 0
Fields = List (List ℕ)

-- the first column of the field k, and its eleventh, which is a pointer's
abbrev pub field_column : ℕ → ℕ
field_column k = k * 11 + 1

abbrev pub pointer_column : ℕ → ℕ
pointer_column k = k * 11 + 11
