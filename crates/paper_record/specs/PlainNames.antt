-- The sixteen system identifiers in the papers' own words: of columns only, with no search.
--
-- The code follows the definitions of Identifier, which compute. That they say the same is stated here (`NameExactly`
-- ..), and proved in proofs/PlainNames.
use Rattle.std.specs.Prelude.{ℕ, ◌<◌, ◌≡◌, ◌↔◌, List}
use Rattle.paper_record.specs.Same.{SameColumns}
use Rattle.paper_record.specs.Identifier.{OTHER, name_at, identifier_of}

-- ---- "The fourteen system identifiers ..; one fills columns 1-11, blanks behind."

abbrev pub Named : List ℕ → ℕ → Type 0
Named f k = SameColumns 11 f (name_at k)

-- ---- that the computing definitions say the same

abbrev pub NameExactly : Type 0
NameExactly = (f : List ℕ) (k : ℕ) → k < OTHER → (identifier_of f ≡ k) ↔ Named f k

-- it is none of the sixteen
abbrev pub OtherExactly : Type 0
OtherExactly = (f : List ℕ) → (identifier_of f ≡ OTHER) ↔ ((k : ℕ) → k < OTHER → Named f k → ⊥)
