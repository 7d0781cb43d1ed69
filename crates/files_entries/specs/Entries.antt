-- The entries of a file as parts of it (document 02, M-100: "Demands 2 and 3 hold entry by entry"): what is handed out
-- from byte 81 on, one behind the other, are its entries, and a file has no other entries than these.
use Rattle.std.specs.Prelude.{ℕ, ◌+◌, ◌≡◌, List, [], ◌∷◌, length}
use Rattle.paper_files.specs.Parts.{entry_from}
use Rattle.files_shape.specs.Shape.{FileOf}

-- from the byte `at` on each entry is met as a part, one behind the other, and behind the last stands none
unfoldable pub Met : List ℕ → ℕ → List (List ℕ) → Type 0
Met s at [] = entry_from s at ≡ []
Met s at (e ∷ es) = (entry_from s at ≡ e) × Met s (at + length e) es

abbrev pub EntriesMet : Type 0
EntriesMet = (s : List ℕ) (entries : List (List ℕ)) → FileOf s entries → Met s 81 entries

-- so a file is cut in one way only
abbrev pub OneCut : Type 0
OneCut = (s : List ℕ) (xs ys : List (List ℕ)) → FileOf s xs → FileOf s ys → xs ≡ ys
