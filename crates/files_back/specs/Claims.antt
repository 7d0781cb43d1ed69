-- What is claimed of the words and arrays of the calls about a file: they say all of the answer, for every file and
-- whatever the array held; the ordinal too, since 200,000 records have fewer entries than 16 bits can count.
use Rattle.std.specs.Prelude.{ℕ, ◌≡◌, List}
use Rattle.exports_words.specs.Words.{answer_word, answer_in, lent_after}
use Rattle.exports_verdicts.specs.Verdicts.{verdict_answer, totals_numbers, verdict_in}
use Rattle.paper_files.specs.File.{judge_file}
use Rattle.files_copy_laws.specs.CopyFile.{copied_file}
use Rattle.paper_reasons.specs.File.{explain_file}
use Rattle.exports_facts.specs.Facts.{facts_numbers, explained_in}

abbrev pub FileBack : Type 0
FileBack =
    (s before : List ℕ)
    → verdict_in (answer_word (verdict_answer (judge_file s)))
    (lent_after (judge_file s).refusal before (totals_numbers (judge_file s).totals))
    ≡ judge_file s

abbrev pub FileCopiedBack : Type 0
FileCopiedBack = (s : List ℕ) (room : ℕ) → answer_in (answer_word (copied_file s room)) ≡ copied_file s room

abbrev pub FileExplainedBack : Type 0
FileExplainedBack =
    (s before : List ℕ)
    → explained_in (answer_word (verdict_answer (judge_file s)))
    (lent_after (judge_file s).refusal before (totals_numbers (judge_file s).totals))
    (facts_numbers (explain_file s).reason.facts) (explain_file s).reason.characters
    ≡ explain_file s
