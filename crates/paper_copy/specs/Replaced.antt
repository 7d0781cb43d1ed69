-- The fields of a record, eleven columns each, some of them replaced.
use Rattle.std.specs.Prelude.{ℕ, zero, suc, ◌+◌, ◌≡◌, Bool, List, [], ◌∷◌, ◌++◌, take, drop}

-- one field for each mark of the list, replaced as the mark says; all behind them kept
unfoldable pub replaced : {M : Type 0} → (M → List ℕ → List ℕ) → List M → List ℕ → List ℕ
replaced with [] r = r
replaced with (m ∷ ms) r = with m (take 11 r) ++ replaced with ms (drop 11 r)

-- each of those fields has the property that goes with its mark
unfoldable pub Each : {M : Type 0} → (M → List ℕ → Type 0) → List M → List ℕ → Type 0
Each P [] r = Unit
Each P (m ∷ ms) r = P m (take 11 r) × Each P ms (drop 11 r)

-- each of them alike as its mark says, and equal behind them
unfoldable pub FieldsAlike : {M : Type 0} → (M → List ℕ → List ℕ → Type 0) → List M → List ℕ → List ℕ → Type 0
FieldsAlike alike [] r t = r ≡ t
FieldsAlike alike (m ∷ ms) r t = alike m (take 11 r) (take 11 t) × FieldsAlike alike ms (drop 11 r) (drop 11 t)

-- the marks of the n fields from i
unfoldable pub mask : (ℕ → Bool) → ℕ → ℕ → List Bool
mask test i zero = []
mask test i (suc n) = test i ∷ mask test (i + 1) n
