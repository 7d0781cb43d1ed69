-- The index of an entry (document 02, M-102):
--
--   "Keep an index beside the entry, in a lent slice of 32-bit numbers, five to a subentry in entry order, NOSUBENT too:
--   its number, first record, and the records BIB, COMMON and DATA, 0 where none."
use Rattle.std.specs.Prelude.{ℕ, zero, suc, ◌/◌, cond, List, [], ◌∷◌, ◌++◌, length}
use Rattle.laws.specs.Blocks.{block_at}
use Rattle.paper_record.specs.Fields.{fields_of, n1}
use Rattle.paper_record.specs.System.{subentry_of}
use Rattle.paper_rules.specs.Roles.{opens_subentry}
use Rattle.paper_entry.specs.Contexts.{role_at}
use Rattle.paper_questions.specs.declared.types.Row.{Row}
use Rattle.paper_questions.specs.Located.{row_of}

-- ---- the subentries of an entry, in entry order, by their numbers

-- the number that the record with the index i bears, if it is SUBENT or NOSUBENT
abbrev pub number_at : List ℕ → ℕ → ℕ
number_at s i = subentry_of (n1 (fields_of (block_at 81 s i)))

-- those that the first i records open
unfoldable pub opened_to : List ℕ → ℕ → List ℕ
opened_to s zero = []
opened_to s (suc i) = cond (opens_subentry (role_at s i)) (opened_to s i ++ (number_at s i ∷ [])) (opened_to s i)

-- ---- their rows

-- "its number, first record, and the records BIB, COMMON and DATA, 0 where none"
abbrev pub row_numbers : Row → List ℕ
row_numbers x = x.number ∷ x.first.0 ∷ x.bib.0 ∷ x.common.0 ∷ x.«data».0 ∷ []

-- the rows of these subentries, one behind the other; an entry that is refused has no index (Making)
unfoldable pub rows_for : (ℕ → Row) → List ℕ → List ℕ
rows_for row [] = []
rows_for row (n ∷ ns) = row_numbers (row n) ++ rows_for row ns

unfoldable pub index_of : List ℕ → List ℕ
index_of s = rows_for (row_of s) (opened_to s (length s / 81))
