-- What a host does with the word and the array of a call about a held entry and its revision: the answer that they say.
use Rattle.std.specs.Prelude.{ℕ, false, cond, ◌||◌, List, eqb, get_or}
use Rattle.paper_entry.specs.declared.types.Answer.{Answer}
use Rattle.paper_revisions.specs.declared.types.Picked.{Picked}
use Rattle.paper_revisions.specs.declared.types.Merged.{Merged}
use Rattle.exports_words.specs.Words.{answer_in}

-- without what stands in the ordinal's place: which entry is refused
abbrev pub own_in : ℕ → Answer
own_in w =
    let a : Answer = answer_in w in
    record { number = a.number; refusal = a.refusal; «record» = a.«record»; column = a.column; ordinal = 0 }

-- a refused subentry has no part, whatever the array holds
unfoldable pub picked_said : ℕ → List ℕ → Picked
picked_said w xs =
    cond (eqb (answer_in w).number 0)
    (record {
      answer = own_in w;
      which = (answer_in w).ordinal;
      revision = eqb (get_or xs 0 0) 2;
      first = get_or xs 1 0;
      length = get_or xs 2 0;
    })
    (record { answer = own_in w; which = (answer_in w).ordinal; revision = false; first = 0; length = 0 })

-- a merge has its length with 0 and 63
unfoldable pub merged_said : ℕ → List ℕ → Merged
merged_said w xs =
    record {
      answer = own_in w;
      which = (answer_in w).ordinal;
      length = cond (eqb (answer_in w).number 0 || eqb (answer_in w).number 63) (get_or xs 0 0) 0;
    }
