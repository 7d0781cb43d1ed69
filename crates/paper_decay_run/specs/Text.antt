-- The characters of a code in its records (document 02, M-106): "a code breaks (rest of the record blank) only after a
-- comma and goes on in column 12".
use Rattle.std.specs.Prelude.{List, [], ◌++◌, ℕ, zero, suc, ◌+◌, ◌-◌, take}
use Rattle.paper_decay.specs.declared.types.Coded.{Coded}
use Rattle.paper_decay.specs.Records.{text_at, filled_to}

-- the columns 12 to 66 of a record without the blanks behind the last that is filled
abbrev pub filled_text : List ℕ → ℕ → List ℕ
filled_text s i = take (filled_to (text_at s i)) (text_at s i)

-- those of so many records from an index on
abbrev pub filled_texts : List ℕ → ℕ → ℕ → List ℕ
filled_texts s i zero = []
filled_texts s i (suc k) = filled_text s i ++ filled_texts s (i + 1) k

-- columns 12 up to a column
abbrev pub text_to : List ℕ → ℕ → ℕ → List ℕ
text_to s i column = take (column - 11) (text_at s i)

-- what stands in the records from an index up to the record `at`, and in that one up to a column
abbrev pub read_to : List ℕ → ℕ → ℕ → ℕ → List ℕ
read_to s from at column = filled_texts s from (at - from) ++ text_to s at column

-- the code that begins in a record and closes in a record and a column
unfoldable pub code_text : List ℕ → ℕ → Coded → List ℕ
code_text s from c = read_to s from c.at c.column
