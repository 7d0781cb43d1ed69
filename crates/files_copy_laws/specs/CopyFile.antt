-- The canonical copy of a file (document 02, M-100: "the canonical copy of a file is the copies in place"): TRANS and
-- ENDTRANS byte for byte, each entry its own copy. The call answers as that for an entry (document 01):
--
--   "Copy: 31, then 37 buffer shorter than the entry; bytes past the entry's length stay." "A refused call stores
--   nothing."
use Rattle.std.specs.Prelude.{ℕ, suc, zero, ◌/◌, cond, List, ◌++◌, eqb, length, take, drop}
use Rattle.paper_entry.specs.declared.types.Answer.{Answer}
use Rattle.paper_entry.specs.Answer.{answer_for}
use Rattle.paper_copy.specs.Copy.{copy_of}
use Rattle.paper_copy.specs.Call.{copy_refusal}
use Rattle.paper_files.specs.File.{judge_file}
use Rattle.paper_files.specs.Parts.{entry_length}

-- the bytes from `at` on: an entry that begins there copied and then the rest, else as they are. No more than n entries
-- are copied; every entry has a record, so that there are fewer than the file has records.
unfoldable pub copies_from : ℕ → List ℕ → List ℕ
copies_from zero s = s
copies_from (suc n) s =
    cond (eqb (entry_length s 0) 0) s (copy_of (take (entry_length s 0) s) ++ copies_from n (drop (entry_length s 0) s))

-- the first record as it is, then the entries
unfoldable pub copy_file_of : List ℕ → List ℕ
copy_file_of s = take 81 s ++ copies_from (length s / 81) (drop 81 s)

-- ---- the call

unfoldable pub copied_file : List ℕ → ℕ → Answer
copied_file s room = answer_for (judge_file s) (copy_refusal (judge_file s) (length s) room)

-- a buffer with the copy in it; "bytes past the entry's length stay"
abbrev pub copied_file_into : List ℕ → List ℕ → List ℕ
copied_file_into s out = copy_file_of s ++ drop (length s) out

-- the buffer after the call
unfoldable pub stored_file : List ℕ → List ℕ → List ℕ
stored_file s out = cond (eqb (copied_file s (length out)).number 0) (copied_file_into s out) out
