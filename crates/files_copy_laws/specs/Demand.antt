-- Demand 3 of the mission for files (document 02, M-100): "Demands 2 and 3 hold entry by entry; the canonical copy of a
-- file is the copies in place." Each statement is a type; the law that proves it has its name in small letters.
use Rattle.std.specs.Prelude.{ℕ, ◌≤◌, ◌≡◌, ◌↔◌, List, [], ◌∷◌, ◌++◌, map, length, take, drop}
use Rattle.laws.specs.Blocks.{joined}
use Rattle.paper_entry.specs.Answer.{answer_of}
use Rattle.paper_copy.specs.Copy.{copy_of}
use Rattle.paper_copy.specs.Demand.{SameNumbers}
use Rattle.paper_files.specs.File.{judge_file, AcceptedFile}
use Rattle.files_shape.specs.Shape.{totals_of, FileOf}
use Rattle.files_entries.specs.Entries.{Met}
use Rattle.files_copy_laws.specs.CopyFile.{copy_file_of, copied_file, stored_file}

-- "the copies in place": TRANS and ENDTRANS as they are
abbrev pub CopiesInPlace : Type 0
CopiesInPlace =
    (s : List ℕ) (es : List (List ℕ)) (f : FileOf s es)
    → copy_file_of s ≡ f.begun.opening ++ (joined (map copy_of es) ++ f.ending)

-- as long as the file
abbrev pub FileCopyLong : Type 0
FileCopyLong = (s : List ℕ) (es : List (List ℕ)) → FileOf s es → length (copy_file_of s) ≡ length s

-- it is a file of the entries' copies
abbrev pub CopyIsFile : Type 0
CopyIsFile = (s : List ℕ) (es : List (List ℕ)) → FileOf s es → FileOf (copy_file_of s) (map copy_of es)

-- so its parts are the copies of the file's parts, and what demand 3 says of an entry and its copy holds of each two
abbrev pub CopiesMet : Type 0
CopiesMet = (s : List ℕ) (es : List (List ℕ)) → FileOf s es → Met (copy_file_of s) 81 (map copy_of es)

-- with the same totals
abbrev pub CopyTotals : Type 0
CopyTotals = (s : List ℕ) (es : List (List ℕ)) → FileOf s es → totals_of (map copy_of es) ≡ totals_of es

-- "Its canonical copy, made in a buffer long enough": the call says 0 and stores it; bytes behind it stay
abbrev pub FileCopyMade : Type 0
FileCopyMade =
    (s out : List ℕ) → AcceptedFile s → length s ≤ length out
    → (copied_file s (length out) ≡ answer_of 0)
    × (take (length s) (stored_file s out) ≡ copy_file_of s)
    × (drop (length s) (stored_file s out) ≡ drop (length s) out)

-- "is accepted": with the same totals, since the verdict is the same
abbrev pub FileCopyAccepted : Type 0
FileCopyAccepted = (s : List ℕ) → AcceptedFile s → judge_file (copy_file_of s) ≡ judge_file s

-- "and is its own copy"
abbrev pub FileCopyAgain : Type 0
FileCopyAgain = (s : List ℕ) → AcceptedFile s → copy_file_of (copy_file_of s) ≡ copy_file_of s

-- ---- two files have the same copy exactly when TRANS and ENDTRANS are equal and their entries are, one by one, as two
-- entries are that have the same copy

-- as many of both, and it holds of each two
unfoldable pub OneByOne : (List ℕ → List ℕ → Type 0) → List (List ℕ) → List (List ℕ) → Type 0
OneByOne P [] [] = Unit
OneByOne P [] (y ∷ ys) = ⊥
OneByOne P (x ∷ xs) [] = ⊥
OneByOne P (x ∷ xs) (y ∷ ys) = P x y × OneByOne P xs ys

pub record SameEntries {s t : List ℕ} {xs ys : List (List ℕ)} (f : FileOf s xs) (g : FileOf t ys) : Type 0 where
  pub opening : f.begun.opening ≡ g.begun.opening
  pub entries : OneByOne SameNumbers xs ys
  pub ending : f.ending ≡ g.ending

abbrev pub OneFileCopy : Type 0
OneFileCopy =
    (s t : List ℕ) (xs ys : List (List ℕ)) (f : FileOf s xs) (g : FileOf t ys)
    → (copy_file_of s ≡ copy_file_of t) ↔ SameEntries f g
