-- What the verdict on a file says (document 02, M-100), with no machine in it: behind TRANS and so many accepted
-- entries stands the record that is refused, and its refusal is that of the entry alone, or that of a record that
-- belongs to no entry. That the judge's verdict is such, and no other verdict is, are the two statements at the end.
use Rattle.std.specs.Prelude.{ℕ, ◌+◌, ◌-◌, ◌*◌, ◌/◌, ◌≤◌, ◌≡◌, ◌↔◌, true, false, List, [], ◌++◌, length, take}
use Rattle.laws.specs.Blocks.{block_at}
use Rattle.paper_record.specs.Fields.{fields_of}
use Rattle.paper_record.specs.Identifier.{ENTRY, TRANS, ENDTRANS}
use Rattle.paper_rules.specs.Limits.{MOST-RECORDS}
use Rattle.paper_rules.specs.Role.{only}
use Rattle.paper_faults.specs.Least.{Least}
use Rattle.paper_entry.specs.declared.types.Verdict.{Verdict}
use Rattle.paper_entry.specs.Verdict.{refused, refused_within, accepted}
use Rattle.paper_entry.specs.Judging.{judge_of, Accepted}
use Rattle.below.specs.Below.{AtRecord}
use Rattle.below.specs.Added.{BehindEnd}
use Rattle.paper_files.specs.Outside.{outside_findings}
use Rattle.paper_files.specs.File.{name_of, file_length_good, judge_file, AcceptedFile}
use Rattle.files_shape.specs.Shape.{totals_of, Begun, FileOf}

-- the records that stand before `rest` in s
abbrev pub records_before : List ℕ → List ℕ → ℕ
records_before s rest = length s / 81 - length rest / 81

-- the record with the index i of `rest`, as a record of s: records are numbered from 1
abbrev pub number_of : List ℕ → List ℕ → ℕ → ℕ
number_of s rest i = records_before s rest + i + 1

-- the first n records
abbrev pub cut : ℕ → List ℕ → List ℕ
cut n rest = take (n * 81) rest

-- the record with the index i
abbrev pub record_at : List ℕ → ℕ → List ℕ
record_at rest i = block_at 81 rest i

-- so many whole records
abbrev pub There : List ℕ → ℕ → Type 0
There rest n = n * 81 ≤ length rest

-- the number n at the column k is the first that is found on a record that belongs to no entry, and is to have the role
abbrev pub FoundOutside : ℕ → ℕ → List ℕ → ℕ → ℕ → Type 0
FoundOutside entries role r n k = Least (outside_findings entries role (fields_of r) r) n k

-- the verdicts on the bytes s
pub data FileSaid (s : List ℕ) : Verdict → Type 0 where
  -- "1 with the new length"
  by_length : file_length_good (length s) ≡ false → FileSaid s (refused 1 (record { 0 = 0 }) 0)
  -- the first record is not TRANS, or one at fault
  at_opening : (n k : ℕ) → file_length_good (length s) ≡ true
      → FoundOutside 0 (only TRANS (name_of (record_at s 0))) (record_at s 0) n k
      → FileSaid s (refused n (record { 0 = 1 }) k)
  -- behind TRANS and entries stands a record that begins none; behind one entry at least ENDTRANS may stand
  between : (es : List (List ℕ)) (rest : List ℕ) (n k : ℕ) → file_length_good (length s) ≡ true → Begun s es rest
      → There rest 1 → (name_of (record_at rest 0) ≡ ENTRY → ⊥)
      → (1 ≤ length es → name_of (record_at rest 0) ≡ ENDTRANS → ⊥)
      → BehindEnd (record_at rest 0) n k → FileSaid s (refused n (record { 0 = number_of s rest 0 }) k)
  -- ENDTRANS is at fault
  at_ending : (es : List (List ℕ)) (rest : List ℕ) (n k : ℕ) → file_length_good (length s) ≡ true → Begun s es rest
      → There rest 1 → 1 ≤ length es → name_of (record_at rest 0) ≡ ENDTRANS
      → FoundOutside (length es) ENDTRANS (record_at rest 0) n k
      → FileSaid s (refused n (record { 0 = number_of s rest 0 }) k)
  -- "anything after ENDTRANS": the record behind a file
  behind : (es : List (List ℕ)) (f rest : List ℕ) (n k : ℕ) → file_length_good (length s) ≡ true → FileOf f es
      → s ≡ f ++ rest → There rest 1 → BehindEnd (record_at rest 0) n k
      → FileSaid s (refused n (record { 0 = number_of s rest 0 }) k)
  -- inside an entry, which begins with ENTRY and has not ended: the refusal of its records alone, at the same record
  in_entry : (es : List (List ℕ)) (rest : List ℕ) (m n k : ℕ) → file_length_good (length s) ≡ true → Begun s es rest
      → There rest m → name_of (record_at rest 0) ≡ ENTRY → AtRecord n → (Accepted (cut (m - 1) rest) → ⊥)
      → judge_of (cut m rest) ≡ refused n (record { 0 = m }) k
      → FileSaid s (refused_within (length es + 1) n (record { 0 = records_before s rest + m }) k)
  -- "for an entry's 20,001st record": its 20,000 records have no fault, and it has not ended
  full : (es : List (List ℕ)) (rest : List ℕ) (n k : ℕ) → file_length_good (length s) ≡ true → Begun s es rest
      → There rest (MOST-RECORDS + 1) → (judge_of (cut MOST-RECORDS rest)).refusal ≡ 16
      → BehindEnd (record_at rest MOST-RECORDS) n k
      → FileSaid s (refused_within (length es + 1) n (record { 0 = number_of s rest MOST-RECORDS }) k)
  -- "16 also for a missing ENDTRANS": behind TRANS and entries nothing follows, or an entry that does not end
  no_ending : (es : List (List ℕ)) → file_length_good (length s) ≡ true → Begun s es []
      → FileSaid s (refused 16 (record { 0 = length s / 81 + 1 }) 0)
  no_endentry : (es : List (List ℕ)) (rest : List ℕ) → file_length_good (length s) ≡ true → Begun s es rest
      → (judge_of rest).refusal ≡ 16 → FileSaid s (refused 16 (record { 0 = length s / 81 + 1 }) 0)
  -- "Accepted is 0 0 0 with four totals"
  whole : (es : List (List ℕ)) → FileOf s es → FileSaid s (accepted (totals_of es))

-- the verdict on a file is such
abbrev pub FileSays : Type 0
FileSays = (s : List ℕ) → FileSaid s (judge_file s)

-- and no other is
abbrev pub FileAlone : Type 0
FileAlone = (s : List ℕ) (v : Verdict) → FileSaid s v → v ≡ judge_file s

-- so a file is accepted exactly when it is TRANS, accepted entries and ENDTRANS, with the sums of their totals
abbrev pub FileAcceptedExactly : Type 0
FileAcceptedExactly = (s : List ℕ) → AcceptedFile s ↔ ((es : List (List ℕ)) × FileOf s es)

abbrev pub FileTotals : Type 0
FileTotals = (s : List ℕ) (es : List (List ℕ)) → FileOf s es → judge_file s ≡ accepted (totals_of es)
