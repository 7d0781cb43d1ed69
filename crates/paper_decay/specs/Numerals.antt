-- The characters of a number within a code (document 02, M-106): "numbers contain no blanks and have at most eleven
-- characters".
use Rattle.std.specs.Prelude.{◌≡◌, List, [], ◌∷◌, ℕ, ◌+◌, ◌≤◌, length}
use Rattle.laws.specs.Walk.{All}
use Rattle.paper_number.specs.declared.types.Decimal.{Decimal}
use Rattle.paper_number.specs.declared.types.Reading.TheVariants.{Number}
use Rattle.paper_number.specs.Reading.{read_field}
use Rattle.paper_decay.specs.Scan.{number_next}

abbrev pub Filled : ℕ → Type 0
Filled b = b ≡ 32 → ⊥

pub record Numeral (l : List ℕ) : Type 0 where
  pub few : length l ≤ 11
  pub bare : All Filled l
  pub value : Decimal
  pub reads : read_field l ≡ Number value

-- the places of the number's reading, character by character
unfoldable pub number_from : ℕ → ℕ → List ℕ → ℕ
number_from inner count [] = inner
number_from inner count (b ∷ l) = number_from (number_next inner count b) (count + 1) l
