-- What is claimed of the words and arrays: they say all of the answer, for every input and whatever the array held. Each
-- type is that of a law in proofs/Laws, under the law's name.
use Rattle.std.specs.Prelude.{ℕ, ◌≡◌, List}
use Rattle.paper_number.specs.Digits.{number_read}
use Rattle.paper_entry.specs.Judging.{judge_of}
use Rattle.exports_words.specs.Words.{answer_word, lent_after}
use Rattle.exports_values.specs.Values.{reading_answer, reading_stored, reading_in}
use Rattle.exports_verdicts.specs.Verdicts.{verdict_answer, totals_numbers, verdict_in}
use Rattle.paper_reasons.specs.Reason.{explain}
use Rattle.exports_facts.specs.Facts.{facts_numbers, explained_in}

abbrev pub ReadingBack : Type 0
ReadingBack =
    (l before : List ℕ)
    → reading_in (answer_word (reading_answer (number_read l).reading)) (reading_stored before (number_read l)) ≡ number_read l

abbrev pub VerdictBack : Type 0
VerdictBack =
    (s before : List ℕ)
    → verdict_in (answer_word (verdict_answer (judge_of s)))
    (lent_after (judge_of s).refusal before (totals_numbers (judge_of s).totals))
    ≡ judge_of s

abbrev pub ExplainedBack : Type 0
ExplainedBack =
    (s before : List ℕ)
    → explained_in (answer_word (verdict_answer (judge_of s)))
    (lent_after (judge_of s).refusal before (totals_numbers (judge_of s).totals))
    (facts_numbers (explain s).reason.facts) (explain s).reason.characters
    ≡ explain s
