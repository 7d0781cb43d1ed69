-- A verdict as a call answers it (document 01: "Accepted is 0 0 0 with four totals .. On refusal the totals are 0"): a
-- word, and the four totals in the lent array.
use Rattle.std.specs.Prelude.{cond, List, [], ◌∷◌, ℕ, eqb, get_or}
use Rattle.paper_rules.specs.declared.types.Totals.{Totals}
use Rattle.paper_entry.specs.declared.types.Answer.{Answer}
use Rattle.paper_entry.specs.declared.types.Verdict.{Verdict}
use Rattle.paper_entry.specs.Answer.{answer_of}
use Rattle.paper_entry.specs.Verdict.{refused_within, accepted}
use Rattle.exports_words.specs.Words.{answer_in}

-- of a refused entry its refusal stands twice: as the call's number, and beside it as the entry's
unfoldable pub verdict_answer : Verdict → Answer
verdict_answer v =
    cond (eqb v.refusal 0) (answer_of 0)
    (record {
      number = v.refusal;
      refusal = v.refusal;
      «record» = v.«record»;
      column = v.column;
      ordinal = v.ordinal;
    })

-- the four numbers, in the paper's order
unfoldable pub totals_numbers : Totals → List ℕ
totals_numbers t = t.subentries ∷ t.keywords ∷ t.lines ∷ t.numbers ∷ []

-- ---- the verdict that a word and an array say: what a host does with them

abbrev pub totals_in : List ℕ → Totals
totals_in xs =
    record { subentries = get_or xs 0 0; keywords = get_or xs 1 0; lines = get_or xs 2 0; numbers = get_or xs 3 0 }

unfoldable pub verdict_in : ℕ → List ℕ → Verdict
verdict_in w xs =
    let a = answer_in w in
    cond (eqb a.refusal 0) (accepted (totals_in xs)) (refused_within a.ordinal a.refusal a.«record» a.column)
