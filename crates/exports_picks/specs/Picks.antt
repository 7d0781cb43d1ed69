-- The answers about a held entry and its revision as calls give them (document 02, M-109): number, refusal, record and column in
-- the word of every call, and in bits 48 to 63, the place of the ordinal, which entry is refused: 1 the held one, 2 the revision,
-- 0 beside any number but 60. "A refused call stores nothing", but 63: its length is that of the blanks.
use Rattle.std.specs.Prelude.{ℕ, Bool, cond, ◌||◌, List, [], ◌∷◌, eqb}
use Rattle.paper_entry.specs.declared.types.Answer.{Answer}
use Rattle.paper_revisions.specs.declared.types.Picked.{Picked}
use Rattle.paper_revisions.specs.declared.types.Merged.{Merged}
use Rattle.exports_words.specs.Words.{answer_word, lent_after}

abbrev pub naming : Answer → ℕ → Answer
naming a which =
    record { number = a.number; refusal = a.refusal; «record» = a.«record»; column = a.column; ordinal = which }

-- ---- a subentry: the entry that its part lies in, the part's first byte, counted from 0, and its length

abbrev pub of_entry : Bool → ℕ
of_entry revision = cond revision 2 1

unfoldable pub picked_word : Picked → ℕ
picked_word p = answer_word (naming p.answer p.which)

unfoldable pub picked_stored : List ℕ → Picked → List ℕ
picked_stored before p =
    lent_after p.answer.number before (of_entry p.revision ∷ p.first ∷ p.length ∷ [])

-- ---- a merge: how many bytes of the buffer are its own

abbrev pub is_written : ℕ → Bool
is_written number = eqb number 0 || eqb number 63

unfoldable pub merged_word : Merged → ℕ
merged_word m = answer_word (naming m.answer m.which)

unfoldable pub merged_stored : List ℕ → Merged → List ℕ
merged_stored before m = cond (is_written m.answer.number) (m.length ∷ []) before
