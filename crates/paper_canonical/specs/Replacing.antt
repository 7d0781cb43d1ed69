-- What a field becomes in the canonical copy (document 01):
--
--   "The canonical copy replaces each non-blank value field of COMMON and DATA by its canonical field and keeps every
--   other byte."
use Rattle.std.specs.Prelude.{List, ℕ, length}
use Rattle.paper_number.specs.declared.types.Reading.{Reading}
use Rattle.paper_number.specs.declared.types.Reading.TheVariants.{Blank, Number, Refused}
use Rattle.paper_number.specs.Reading.{read_field}
use Rattle.paper_canonical.specs.Closed.{canonical_field}

-- a number becomes its canonical field of as many columns; what is no number stays
abbrev pub replaced_by : List ℕ → Reading → List ℕ
replaced_by l Blank = l
replaced_by l (Number v) = canonical_field (length l) v
replaced_by l (Refused n) = l

unfoldable pub canonical : List ℕ → List ℕ
canonical l = replaced_by l (read_field l)

-- a field that an accepted entry may have: blank or a number
abbrev pub Formed : Reading → Type 0
Formed Blank = Unit {0}
Formed (Number v) = Unit {0}
Formed (Refused n) = ⊥
