-- What is said below the verdict on a file is what is said of the entry, or of ENDTRANS.
-- Assumes nothing.
use Prim.Native.Nat.{ℕ, ◌+◌, ◌-◌, ◌*◌, ◌/◌, ◌≤◌}
use mathlib.Core.Path.{◌≡◌, refl, sym, ◌∙◌, ap, subst}
use mathlib.Core.Bool.{true, false}
use mathlib.Core.List.{List}
use native.Mathlib.Omega.{arith}
use borrow.Author.Tests.{eq-eqb, ne_eqb}
use lib.Dec.{eqb}
use lib.ListN.{length, take, drop}
use Rattle.laws.specs.Blocks.{block_at}
use Rattle.paper_record.specs.Fields.{fields_of}
use Rattle.paper_record.specs.Identifier.{ENTRY, ENDTRANS}
use Rattle.paper_rules.specs.Limits.{MOST-RECORDS}
use Rattle.paper_rules.specs.Counts.{count_n1}
use Rattle.paper_entry.specs.declared.types.Verdict.{Verdict}
use Rattle.paper_entry.specs.Verdict.{refused, refused_within, length_good}
use Rattle.paper_entry.specs.Judging.{judge_of}
use Rattle.entry_walk.specs.First.{by_length}
use Rattle.entry_walk.proofs.FirstAlone.{first_alone}
use Rattle.paper_files.specs.File.{name_of, judge_file}
use Rattle.files_shape.specs.Shape.{Begun}
use Rattle.files_said.specs.Said.{records_before, number_of, cut, record_at, There, at_ending, in_entry, full}
use Rattle.files_said.proofs.Cuts.{cut-long}
use Rattle.files_said.proofs.Alone.{file-alone}
use Rattle.paper_reasons.specs.declared.types.Facts.TheVariants.{Count}
use Rattle.paper_reasons.specs.declared.types.Reason.{Reason}
use Rattle.paper_reasons.specs.declared.types.Passed.{Passed}
use Rattle.paper_reasons.specs.Reason.{nothing, stating, reason_of, explain}
use Rattle.paper_reasons.specs.File.{passed, raised_reason, between, reason_within, reason_at_ending, file_reason, explain_file}
use Rattle.files_reasons_true.specs.Reasons.{FileVerdict, ReasonInEntry, ReasonAtEnding, ReasonNowhereElse, ReasonWhenFull}
use Rattle.files_reasons_true.proofs.PassedEntries.{entries-passed, rest-there, all-passed}

pub file-verdict : FileVerdict
unfolding explain_file
file-verdict s = refl

-- of a verdict that is the judge's
of-verdict : (s : List ℕ) (v : Verdict) → v ≡ judge_file s → (explain_file s).reason ≡ file_reason s v
unfolding explain_file
of-verdict s v e = ap (file_reason s) (sym e)

pub reason-nowhere-else : ReasonNowhereElse
unfolding explain_file file_reason
reason-nowhere-else s o n = rw (eq-eqb (judge_file s).ordinal 0 o, ne_eqb (judge_file s).refusal 8 n) refl

-- ---- inside an entry

module _ (s : List ℕ) (es : List (List ℕ)) (rest : List ℕ) (b : Begun s es rest) where
  abbrev records : ℕ
  records = records_before s rest

  own-bytes : (m : ℕ) → between (records * 81) ((records + m) * 81) s ≡ cut m rest
  own-bytes m =
      let z : (records + m) * 81 - records * 81 ≡ m * 81 = omega arith in
      rw (z, rest-there s es rest b) refl

  within : (m n k : ℕ) → file_reason s (refused_within (length es + 1) n (record { 0 = records + m }) k)
      ≡ raised_reason records (explain (cut m rest)).reason
  unfolding file_reason reason_within
  within m n k =
      let x : length es + 1 - 1 ≡ length es = omega arith in
      let y : records * 81 / 81 ≡ records = omega arith in
      rw (ne_eqb (length es + 1) 0 (λ z. omega arith), x, entries-passed s es rest b, y, own-bytes m) refl

pub reason-in-entry : ReasonInEntry
reason-in-entry s es rest m n k good b there named at fresh e =
    of-verdict s _ (file-alone s _ (in_entry es rest m n k good b there named at fresh e)) ∙ within s es rest b m n k

-- ---- the 20,001st record

too_long : (s : List ℕ) → length_good (length s) ≡ false → (explain s).reason ≡ nothing
unfolding explain
too_long s e = ap (λ (v : Verdict). reason_of s v) (sym (first_alone s _ (by_length e)))

one-too-many : length_good ((MOST-RECORDS + 1) * 81) ≡ false
unfolding length_good
one-too-many = refl

pub reason-when-full : ReasonWhenFull
reason-when-full s es rest n k good b there unended said =
    let z : number_of s rest MOST-RECORDS ≡ records_before s rest + (MOST-RECORDS + 1) = omega arith in
    let part = cut (MOST-RECORDS + 1) rest in
    let long : length_good (length part) ≡ false = rw (cut-long rest (MOST-RECORDS + 1) there) one-too-many in
    of-verdict s _ (file-alone s _ (full es rest n k good b there unended said))
    ∙ ap (λ (x : ℕ). file_reason s (refused_within (length es + 1) n (record { 0 = x }) k)) z
    ∙ within s es rest b (MOST-RECORDS + 1) n k
    ∙ ap (raised_reason (records_before s rest)) (too_long part long)

-- ---- ENDTRANS

ending : (s : List ℕ) (es : List (List ℕ)) (rest : List ℕ) → Begun s es rest → There rest 1
    → (name_of (record_at rest 0) ≡ ENTRY → ⊥)
    → reason_at_ending s (records_before s rest)
    ≡ stating (Count (count_n1 (fields_of (record_at rest 0))) (length es))
unfolding reason_at_ending
ending s es rest b there other =
    ap (λ (p : Passed). stating (Count (count_n1 (fields_of (block_at 81 s (records_before s rest)))) p.entries))
    (all-passed s es rest b there other)
    ∙ ap (λ (x : List ℕ). stating (Count (count_n1 (fields_of (take 81 x))) (length es))) (rest-there s es rest b)

at-eight : (s : List ℕ) (at k : ℕ) → file_reason s (refused 8 (record { 0 = at }) k) ≡ reason_at_ending s (at - 1)
unfolding file_reason
at-eight s at k = refl

pub reason-at-ending : ReasonAtEnding
reason-at-ending s es rest k good b there some named found =
    let other : name_of (record_at rest 0) ≡ ENTRY → ⊥ =
    λ z. let x : ◌≡◌ {A = ℕ} ENDTRANS ENTRY = sym named ∙ z in omega arith in
    let i : number_of s rest 0 - 1 ≡ records_before s rest = omega arith in
    of-verdict s _ (file-alone s _ (at_ending es rest 8 k good b there some named found))
    ∙ at-eight s (number_of s rest 0) k
    ∙ ap (reason_at_ending s) i
    ∙ ending s es rest b there other
