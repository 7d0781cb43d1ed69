-- Which record opens code j (document 02, M-106): "the passage's j-th record with ( in column 12 opens code j".
use Rattle.std.specs.Prelude.{◌≡◌, Bool, true, cond, List, ◌↔◌, ℕ, zero, suc, ◌+◌, ◌-◌, ◌*◌, ◌/◌, ◌<◌, eqb, length, get_or}
use Rattle.laws.specs.Search.{how_many}

-- the passage's whole records
abbrev pub records_of : List ℕ → ℕ
records_of p = length p / 81

abbrev pub opens : List ℕ → ℕ → Bool
opens p i = eqb (get_or p (i * 81 + 11) 0) 40

-- j openings further on, of so many records from i; the record behind them where there are fewer
unfoldable pub opening_from : List ℕ → ℕ → ℕ → ℕ → ℕ
opening_from p j i zero = i
opening_from p j i (suc k) =
    cond (opens p i) (cond (eqb j 1) i (opening_from p (j - 1) (i + 1) k)) (opening_from p j (i + 1) k)

-- counted from 1: there is no code 0
unfoldable pub opening_of : List ℕ → ℕ → ℕ
opening_of p j = cond (eqb j 0) (records_of p) (opening_from p j 0 (records_of p))

-- the same in plain words: it opens, and so many open before it
pub record Opening (p : List ℕ) (j i : ℕ) : Type 0 where
  pub there : i < records_of p
  pub opened : opens p i ≡ true
  pub counted : how_many (opens p) 0 i + 1 ≡ j

abbrev pub OpeningExactly : Type 0
OpeningExactly = (p : List ℕ) (j i : ℕ) → i < records_of p → (opening_of p j ≡ i) ↔ Opening p j i

-- "no code j": its opening is behind the last record exactly where no record is the j-th that opens
abbrev pub NoOpening : Type 0
NoOpening = (p : List ℕ) (j : ℕ) → (opening_of p j ≡ records_of p) ↔ ((i : ℕ) → Opening p j i → ⊥)
