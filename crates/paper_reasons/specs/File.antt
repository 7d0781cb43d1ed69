-- Why a file is refused (document 02, M-108), with M-100's "record numbers count from the file's start". Inside an
-- entry the reason is that of the entry's own records; of the two records outside only ENDTRANS has one, which "carries
-- the number of entries in N1".
use Rattle.std.specs.Prelude.{ℕ, zero, suc, ◌+◌, ◌-◌, ◌*◌, ◌/◌, cond, List, eqb, take, drop}
use Rattle.laws.specs.Blocks.{block_at}
use Rattle.paper_record.specs.Fields.{fields_of}
use Rattle.paper_rules.specs.Counts.{count_n1}
use Rattle.paper_entry.specs.declared.types.Verdict.{Verdict}
use Rattle.paper_files.specs.Parts.{entry_length}
use Rattle.paper_files.specs.File.{judge_file}
use Rattle.paper_reasons.specs.declared.types.Facts.{Facts}
use Rattle.paper_reasons.specs.declared.types.Facts.TheVariants.{Alone, Count, Range as Limits, Previous, Equal, Pointer, Expected}
use Rattle.paper_reasons.specs.declared.types.Reason.{Reason}
use Rattle.paper_reasons.specs.declared.types.Explained.{Explained}
use Rattle.paper_reasons.specs.declared.types.Passed.{Passed}
use Rattle.paper_reasons.specs.Reason.{stating, nothing, explain}

-- ---- the entries, one behind the other, from the byte behind TRANS on

abbrev pub passed_one : List ℕ → Passed → Passed
passed_one s p =
    cond (eqb (entry_length s p.at) 0) p
    (record { entries = p.entries + 1; at = p.at + entry_length s p.at })

-- n of them, or all where there are fewer
unfoldable pub passed : List ℕ → ℕ → Passed
passed s zero = record { entries = 0; at = 81 }
passed s (suc n) = passed_one s (passed s n)

-- ---- inside an entry

-- n records stand before the entry
abbrev pub raised : ℕ → Facts → Facts
raised n Alone = Alone
raised n (Count announced counted) = Count announced counted
raised n (Limits least greatest) = Limits least greatest
raised n (Previous number) = Previous number
raised n (Equal at column) = Equal (record { 0 = n + at.0 }) column
raised n (Pointer pointer) = Pointer pointer
raised n Expected = Expected

abbrev pub raised_reason : ℕ → Reason → Reason
raised_reason n reason = record { facts = raised n reason.facts; characters = reason.characters }

-- the bytes from `first` up to `past`
abbrev pub between : ℕ → ℕ → List ℕ → List ℕ
between first past s = take (past - first) (drop first s)

-- an entry begins with the byte `first`, and the record that is refused ends before the byte `past`
unfoldable pub reason_within : List ℕ → ℕ → ℕ → Reason
reason_within s first past = raised_reason (first / 81) (explain (between first past s)).reason

-- ---- outside entries

-- ENDTRANS has the index i
unfoldable pub reason_at_ending : List ℕ → ℕ → Reason
reason_at_ending s i = stating (Count (count_n1 (fields_of (block_at 81 s i))) (passed s i).entries)

-- ---- of a verdict

unfoldable pub file_reason : List ℕ → Verdict → Reason
file_reason s v =
    cond (eqb v.ordinal 0)
    (cond (eqb v.refusal 8) (reason_at_ending s (v.record.0 - 1)) nothing)
    (reason_within s (passed s (v.ordinal - 1)).at (v.record.0 * 81))

unfoldable pub explain_file : List ℕ → Explained
explain_file s = record { verdict = judge_file s; reason = file_reason s (judge_file s) }
