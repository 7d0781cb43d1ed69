-- What the call answers and leaves, by its cases; on an accepted file and a buffer long enough it is the copy, and
-- behind it the buffer as it was.
-- Assumes nothing.
use Prim.Native.Nat.{ℕ, ◌<◌, ◌≤◌}
use mathlib.Core.Path.{◌≡◌, refl, sym, ◌∙◌, ap}
use mathlib.Core.List.{List}
use lib.ListN.{length, drop}
use lib.Seq.{take_at, drop_at}
use Rattle.paper_entry.specs.declared.types.Verdict.{Verdict}
use Rattle.paper_entry.specs.Answer.{answer_of, answer_for}
use Rattle.paper_copy.proofs.Answered.{answer-refused, answer-short, answer-made}
use Rattle.paper_files.specs.File.{judge_file, AcceptedFile}
use Rattle.files_said.proofs.AcceptedFiles.{file-accepted-exactly}
use Rattle.files_copy_laws.specs.CopyFile.{copy_file_of, copied_file, copied_file_into, stored_file}
use Rattle.files_copy_laws.specs.Demand.{FileCopyMade}
use Rattle.files_copy_laws.specs.Storing.{FileRoom}
use Rattle.files_copy_laws.proofs.InPlace.{file-copy-long}

answered : (s : List ℕ) (room : ℕ) → AcceptedFile s → length s ≤ room → copied_file s room ≡ answer_of 0
unfolding copied_file
answered s room a long = sym (answer-made (judge_file s) (length s) room a long)

stored-file : (s out : List ℕ) → AcceptedFile s → length s ≤ length out → stored_file s out ≡ copied_file_into s out
unfolding stored_file
stored-file s out a long = rw (answered s (length out) a long) refl

pub file-copy-made : FileCopyMade
file-copy-made s out a long =
    let (es, f) = (file-accepted-exactly s).0 a in
    let size = file-copy-long s es f in (
      answered s (length out) a long,
      rw (stored-file s out a long) (take_at (copy_file_of s) (drop (length s) out) (length s) size),
      rw (stored-file s out a long) (drop_at (copy_file_of s) (drop (length s) out) (length s) size),
    )

-- ---- the cases of the code

module _ (s out : List ℕ) (v : Verdict) (e : v ≡ judge_file s) where
  -- 31
  pub file-refused : (v.refusal ≡ 0 → ⊥)
      → (answer_for v 31 ≡ copied_file s (length out)) × (out ≡ stored_file s out)
  unfolding copied_file stored_file
  file-refused n = let a = answer-refused v (length s) (length out) n in rw (← e, ← a) (refl, refl)

  -- 37
  pub file-short : v.refusal ≡ 0 → length out < length s
      → (answer_of 37 ≡ copied_file s (length out)) × (out ≡ stored_file s out)
  unfolding copied_file stored_file
  file-short z short = let a = answer-short v (length s) (length out) z short in rw (← e, ← a) (refl, refl)

  accepted-by : v.refusal ≡ 0 → AcceptedFile s
  accepted-by z = ap (λ (x : Verdict). x.refusal) (sym e) ∙ z

  -- 0
  pub file-room : v.refusal ≡ 0 → length s ≤ length out → FileRoom s out
  file-room z long =
      let (es, f) = (file-accepted-exactly s).0 (accepted-by z) in record { entries = es; file = f; room = long }

  pub file-made : v.refusal ≡ 0 → length s ≤ length out
      → (answer_of 0 ≡ copied_file s (length out)) × (copied_file_into s out ≡ stored_file s out)
  file-made z long =
      let a = accepted-by z in (sym (answered s (length out) a long), sym (stored-file s out a long))
