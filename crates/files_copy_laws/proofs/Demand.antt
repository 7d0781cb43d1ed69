-- The copy of a file is a file of the copies: accepted with the same totals, and its own copy.
-- Assumes nothing.
use Prim.Native.Nat.{ℕ}
use mathlib.Core.Path.{◌≡◌, refl, sym, ◌∙◌, ap, subst}
use mathlib.Core.List.{List, [], ◌∷◌, ◌++◌, map}
use lib.ListN.{length, length-map}
use Rattle.laws.specs.Walk.{All}
use Rattle.laws.specs.Blocks.{joined}
use Rattle.paper_record.specs.Identifier.{ENDTRANS}
use Rattle.paper_entry.specs.declared.types.Verdict.{Verdict}
use Rattle.paper_entry.specs.Verdict.{accepted}
use Rattle.paper_entry.specs.Judging.{Accepted}
use Rattle.paper_copy.specs.Copy.{copy_of}
use Rattle.paper_copy.proofs.Demand.{copy-accepted, copy-again}
use Rattle.paper_files.specs.File.{judge_file}
use Rattle.files_shape.specs.Shape.{GoodOutside, totals_of, FileOf}
use Rattle.files_entries.proofs.EntriesMet.{entries-met}
use Rattle.files_said.proofs.AcceptedFiles.{file-totals, file-accepted-exactly}
use Rattle.files_copy_laws.specs.CopyFile.{copy_file_of}
use Rattle.files_copy_laws.specs.Demand.{CopyIsFile, CopiesMet, CopyTotals, FileCopyAccepted}
use Rattle.files_copy_laws.specs.Demand.{FileCopyAgain}
use Rattle.files_copy_laws.proofs.InPlace.{copies-in-place, file-copy-long}

-- ---- the copies of accepted entries

copies-accepted : (es : List (List ℕ)) → All Accepted es → All Accepted (map copy_of es)
copies-accepted [] each = tt
copies-accepted (e ∷ es) each = (
  ap (λ (v : Verdict). v.refusal) (copy-accepted e each.0) ∙ each.0,
  copies-accepted es each.1,
)

totals-same : (es : List (List ℕ)) → All Accepted es → totals_of (map copy_of es) ≡ totals_of es
unfolding totals_of
totals-same [] each = refl
totals-same (e ∷ es) each = rw (copy-accepted e each.0, totals-same es each.1)

copies-twice : (es : List (List ℕ)) → All Accepted es → map copy_of (map copy_of es) ≡ map copy_of es
copies-twice [] each = refl
copies-twice (e ∷ es) each = rw (copy-again e each.0, copies-twice es each.1)

-- ---- the copy of a file

pub copy-is-file : CopyIsFile
copy-is-file s es f =
    let many : length (map copy_of es) ≡ length es = length-map es copy_of in
    record {
      ending = f.ending;
      begun = record {
        opening = f.begun.opening;
        same = copies-in-place s es f;
        opens = f.begun.opens;
        each = copies-accepted es f.begun.each;
      };
      some = rw many f.some;
      ends = subst (λ (n : ℕ). GoodOutside ENDTRANS n f.ending) (sym many) f.ends;
      most = rw (file-copy-long s es f) f.most;
    }

pub copies-met : CopiesMet
copies-met s es f = entries-met (copy_file_of s) (map copy_of es) (copy-is-file s es f)

pub copy-totals : CopyTotals
copy-totals s es f = totals-same es f.begun.each

copy-verdict : (s : List ℕ) (es : List (List ℕ)) → FileOf s es → judge_file (copy_file_of s) ≡ judge_file s
copy-verdict s es f =
    file-totals (copy_file_of s) (map copy_of es) (copy-is-file s es f)
    ∙ ap accepted (copy-totals s es f)
    ∙ sym (file-totals s es f)

copy-twice : (s : List ℕ) (es : List (List ℕ)) → FileOf s es → copy_file_of (copy_file_of s) ≡ copy_file_of s
unfolding copy-is-file
copy-twice s es f =
    copies-in-place (copy_file_of s) (map copy_of es) (copy-is-file s es f)
    ∙ ap (λ (xs : List (List ℕ)). f.begun.opening ++ (joined xs ++ f.ending)) (copies-twice es f.begun.each)
    ∙ sym (copies-in-place s es f)

pub file-copy-accepted : FileCopyAccepted
file-copy-accepted s a = let (es, f) = (file-accepted-exactly s).0 a in copy-verdict s es f

pub file-copy-again : FileCopyAgain
file-copy-again s a = let (es, f) = (file-accepted-exactly s).0 a in copy-twice s es f
