-- A group as a call gives it (document 02, M-106): how many types and energies it has and where its abundance stands, in four
-- numbers, and the abundance's value in eight. It is always stored: where there is no such group all are zeros.
use Rattle.std.specs.Prelude.{ℕ, Bool, cond, ◌&&◌, List, [], ◌∷◌, eqb}
use Rattle.paper_decay_fields.specs.declared.types.Group.{Group}

-- "none wholly empty": a group has a type, an energy or an abundance
unfoldable pub is_empty : Group → Bool
is_empty g = eqb g.types 0 && (eqb g.energies 0 && eqb g.abundance.part.length 0)

unfoldable pub group_word : Group → ℕ
group_word g = cond (is_empty g) 0 1

unfoldable pub group_stored : Group → List ℕ
group_stored g = g.types ∷ g.energies ∷ g.abundance.part.first ∷ g.abundance.part.length ∷ []
