-- What is said below the verdict on a file (document 02, M-108 and M-100), with no passing of entries in it, over the
-- cases of `FileSaid`: a refusal that has a reason is one inside an entry, or that of ENDTRANS by 8.
use Rattle.std.specs.Prelude.{ℕ, ◌+◌, ◌-◌, ◌≤◌, ◌≡◌, true, List, length}
use Rattle.paper_record.specs.Fields.{fields_of}
use Rattle.paper_record.specs.Identifier.{ENTRY, ENDTRANS}
use Rattle.paper_rules.specs.Limits.{MOST-RECORDS}
use Rattle.paper_rules.specs.Counts.{count_n1}
use Rattle.paper_entry.specs.Verdict.{refused}
use Rattle.paper_entry.specs.Judging.{judge_of, Accepted}
use Rattle.below.specs.Below.{AtRecord}
use Rattle.below.specs.Added.{BehindEnd}
use Rattle.paper_files.specs.File.{name_of, file_length_good, judge_file}
use Rattle.files_shape.specs.Shape.{Begun}
use Rattle.files_said.specs.Said.{records_before, cut, record_at, There, FoundOutside}
use Rattle.paper_reasons.specs.declared.types.Facts.TheVariants.{Count}
use Rattle.paper_reasons.specs.Reason.{nothing, stating, explain}
use Rattle.paper_reasons.specs.File.{raised_reason, explain_file}

-- the verdict is the judge's
abbrev pub FileVerdict : Type 0
FileVerdict = (s : List ℕ) → (explain_file s).verdict ≡ judge_file s

-- inside an entry (`in_entry` of FileSaid): the reason of its records alone, where "record numbers count from the file's
-- start"
abbrev pub ReasonInEntry : Type 0
ReasonInEntry =
    (s : List ℕ) (es : List (List ℕ)) (rest : List ℕ) (m n k : ℕ) → file_length_good (length s) ≡ true → Begun s es rest
    → There rest m → name_of (record_at rest 0) ≡ ENTRY → AtRecord n → (Accepted (cut (m - 1) rest) → ⊥)
    → judge_of (cut m rest) ≡ refused n (record { 0 = m }) k
    → (explain_file s).reason ≡ raised_reason (records_before s rest) (explain (cut m rest)).reason

-- ENDTRANS by 8 (`at-ending`): "ENDTRANS carries the number of entries in N1"
abbrev pub ReasonAtEnding : Type 0
ReasonAtEnding =
    (s : List ℕ) (es : List (List ℕ)) (rest : List ℕ) (k : ℕ) → file_length_good (length s) ≡ true → Begun s es rest
    → There rest 1 → 1 ≤ length es → name_of (record_at rest 0) ≡ ENDTRANS
    → FoundOutside (length es) ENDTRANS (record_at rest 0) 8 k
    → (explain_file s).reason ≡ stating (Count (count_n1 (fields_of (record_at rest 0))) (length es))

-- "for the other refusals the verdict alone"
abbrev pub ReasonNowhereElse : Type 0
ReasonNowhereElse =
    (s : List ℕ) → (judge_file s).ordinal ≡ 0 → ((judge_file s).refusal ≡ 8 → ⊥) → (explain_file s).reason ≡ nothing

-- and for an entry's 20,001st record (`full`)
abbrev pub ReasonWhenFull : Type 0
ReasonWhenFull =
    (s : List ℕ) (es : List (List ℕ)) (rest : List ℕ) (n k : ℕ) → file_length_good (length s) ≡ true → Begun s es rest
    → There rest (MOST-RECORDS + 1) → (judge_of (cut MOST-RECORDS rest)).refusal ≡ 16
    → BehindEnd (record_at rest MOST-RECORDS) n k → (explain_file s).reason ≡ nothing
