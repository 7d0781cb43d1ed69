-- Equal columns in plain words: of columns only, with no search. A column that is not there counts as 0, which is no
-- character. That `equal_to` says the same is stated in Plain (`EqualExactly`).
use Rattle.std.specs.Prelude.{ℕ, ◌<◌, ◌≡◌, List, get_or}

-- the first w columns of both are equal, one by one
abbrev pub SameColumns : ℕ → List ℕ → List ℕ → Type 0
SameColumns w a b = (i : ℕ) → i < w → get_or a i 0 ≡ get_or b i 0
