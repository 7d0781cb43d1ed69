-- A file is accepted exactly when it is TRANS, accepted entries and ENDTRANS, and then with the sums of their totals.
-- Assumes nothing.
use Prim.Native.Nat.{ℕ, ◌≤◌}
use mathlib.Core.Path.{◌≡◌, sym, ap}
use mathlib.Core.List.{List}
use native.Mathlib.Omega.{arith}
use lib.ListN.{length}
use Rattle.paper_record.specs.Fields.{fields_of}
use Rattle.paper_rules.specs.Limits.{MOST-RECORDS}
use Rattle.paper_faults.proofs.Least.{first-bounds}
use Rattle.paper_entry.specs.declared.types.Verdict.{Verdict}
use Rattle.paper_entry.specs.Verdict.{accepted}
use Rattle.below.proofs.Below.{from-two}
use Rattle.below.proofs.Added.{two-to-four}
use Rattle.paper_files.specs.Outside.{outside_findings}
use Rattle.paper_files.specs.File.{judge_file}
use Rattle.files_shape.specs.Shape.{totals_of, FileOf}
use Rattle.files_said.specs.Said.{record_at, FoundOutside, FileSaid, by_length, at_opening, between, at_ending}
use Rattle.files_said.specs.Said.{behind, in_entry, full, no_ending, no_endentry, whole}
use Rattle.files_said.specs.Said.{FileAcceptedExactly, FileTotals}
use Rattle.files_said.proofs.Outside.{outside-rises}
use Rattle.files_said.proofs.Alone.{file-alone}
use Rattle.files_said.proofs.Says.{file-says}

-- what is found on a record that belongs to no entry is 2 at least
outside_low : (entries role : ℕ) (r : List ℕ) (n k : ℕ) → FoundOutside entries role r n k → 2 ≤ n
outside_low entries role r n k l =
    (first-bounds 1 (outside_findings entries role (fields_of r) r) (outside-rises entries role (fields_of r) r) n k l
    ).above

-- so the verdict 0 is said of a whole file alone
whole-alone : (s : List ℕ) (v : Verdict) → FileSaid s v → v.refusal ≡ 0 → (es : List (List ℕ)) × FileOf s es
whole-alone s v (by_length e) z = absurd (omega arith)
whole-alone s v (at_opening n k good l) z = let h = outside_low 0 _ (record_at s 0) n k l in absurd (omega arith)
whole-alone s v (between es rest n k good b there other unclosed said) z =
    let h = (two-to-four (record_at rest 0) n k said).0 in absurd (omega arith)
whole-alone s v (at_ending es rest n k good b there some named l) z =
    let h = outside_low (length es) _ (record_at rest 0) n k l in absurd (omega arith)
whole-alone s v (behind es f rest n k good o e there said) z =
    let h = (two-to-four (record_at rest 0) n k said).0 in absurd (omega arith)
whole-alone s v (in_entry es rest m n k good b there named at fresh e) z =
    let h = (from-two n at).0 in absurd (omega arith)
whole-alone s v (full es rest n k good b there e said) z =
    let h = (two-to-four (record_at rest MOST-RECORDS) n k said).0 in absurd (omega arith)
whole-alone s v (no_ending es good b) z = absurd (omega arith)
whole-alone s v (no_endentry es rest good b e) z = absurd (omega arith)
whole-alone s v (whole es o) z = (es, o)

pub file-totals : FileTotals
file-totals s es o = sym (file-alone s (accepted (totals_of es)) (whole es o))

pub file-accepted-exactly : FileAcceptedExactly
file-accepted-exactly s = (
  λ e. whole-alone s (judge_file s) (file-says s) e,
  λ w. ap (λ (v : Verdict). v.refusal) (file-totals s w.0 w.1),
)
