-- Bytes as blocks of one width: records of 81 bytes, fields of 11 columns.
use Rattle.std.specs.Prelude.{ℕ, zero, suc, ◌*◌, List, [], ◌∷◌, ◌++◌, take, drop}

-- the first n blocks of w bytes
unfoldable pub blocks : ℕ → ℕ → List ℕ → List (List ℕ)
blocks w zero s = []
blocks w (suc n) s = take w s ∷ blocks w n (drop w s)

-- the block with the index i
abbrev pub block_at : ℕ → List ℕ → ℕ → List ℕ
block_at w s i = take w (drop (i * w) s)

-- blocks, one behind the other
unfoldable pub joined : List (List ℕ) → List ℕ
joined [] = []
joined (r ∷ rs) = r ++ joined rs
