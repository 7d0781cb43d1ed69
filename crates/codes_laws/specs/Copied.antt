-- Demand 3 of the mission, for codes: the canonical copy of an accepted entry "answers every such question with the same
-- values and words at the same places". A question that is refused is refused alike.
use Rattle.std.specs.Prelude.{ℕ, ◌≡◌, List}
use Rattle.paper_entry.specs.Judging.{Accepted}
use Rattle.paper_copy.specs.Copy.{copy_of}
use Rattle.paper_codes.specs.Asked.{code_asked, code_stored}

abbrev pub CodeSame : Type 0
CodeSame =
    (s : List ℕ) → Accepted s → (n pointer j : ℕ)
    → ((room : ℕ) → code_asked (copy_of s) n pointer j room ≡ code_asked s n pointer j room)
    × ((y : List ℕ) → code_stored (copy_of s) n pointer j y ≡ code_stored s n pointer j y)
