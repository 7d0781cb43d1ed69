-- A question to an entry by its row: judge, find the row, answer from the row. That this is the question of document 01 is
-- claimed in Claims (`ValueByRow` ..).
use Rattle.std.specs.Prelude.{ℕ, cond, [], ◌∷◌, eqb}
use Rattle.paper_number.specs.declared.types.Reading.TheVariants.{Blank}
use Rattle.paper_entry.specs.declared.types.Verdict.{Verdict}
use Rattle.paper_entry.specs.Answer.{refusal, first_of, is_refused, answer_for}
use Rattle.paper_questions.specs.declared.types.Row.{Row}
use Rattle.paper_questions.specs.declared.types.ValueAnswer.{ValueAnswer}
use Rattle.paper_questions.specs.declared.types.PartAnswer.{PartAnswer}
use Rattle.paper_questions.specs.Refused.{no_section}
use Rattle.paper_questions.specs.PartAnswers.{no_part}

-- "31 entry refused", "32 no such subentry": its row has no first record
abbrev pub no_row : Verdict → Row → ℕ
no_row v x = first_of (refusal 31 (is_refused v) ∷ refusal 32 (no_section x.first) ∷ [])

unfoldable pub value_found : Verdict → Row → ValueAnswer → ValueAnswer
value_found v x a =
    cond (eqb (no_row v x) 0) a (record { answer = answer_for v (no_row v x); value = Blank; digits = 0 })

unfoldable pub part_found : Verdict → Row → PartAnswer → PartAnswer
part_found v x p = cond (eqb (no_row v x) 0) p (no_part (answer_for v (no_row v x)))
