-- A field of a code as a call gives it (document 02, M-106): its place in two numbers, the first character and how many, and
-- of a number its value in eight, as any call gives a value; digits are not counted here. It is always stored: where there is
-- none all are zeros.
use Rattle.std.specs.Prelude.{ℕ, cond, List, [], ◌∷◌, eqb}
use Rattle.paper_number.specs.declared.types.Reading.{Reading}
use Rattle.paper_decay_fields.specs.declared.types.Part.{Part}
use Rattle.exports_values.specs.Values.{blank_numbers, reading_stored}

unfoldable pub part_stored : Part → List ℕ
part_stored p = p.first ∷ p.length ∷ []

-- whether there is one: no field of a code is empty
unfoldable pub part_word : Part → ℕ
part_word p = cond (eqb p.length 0) 0 1

-- what is no number is blank; no code has such a field (the laws in decay_back)
unfoldable pub value_stored : Reading → List ℕ
value_stored r = reading_stored blank_numbers (record { reading = r; digits = 0 })
