-- What the call answers, and what the buffer then holds (document 01):
--
--   "31 entry refused (its refusal, record and column beside it, zeros with any other answer)"
--   "Copy: 31, then 37 buffer shorter than the entry; bytes past the entry's length stay." "A refused call stores
--   nothing."
use Rattle.std.specs.Prelude.{ℕ, cond, List, [], ◌∷◌, ◌++◌, eqb, ltb, length, drop}
use Rattle.paper_entry.specs.declared.types.Verdict.{Verdict}
use Rattle.paper_entry.specs.declared.types.Answer.{Answer}
use Rattle.paper_entry.specs.Judging.{judge_of}
use Rattle.paper_entry.specs.Answer.{refusal, first_of, is_refused, answer_for}
use Rattle.paper_copy.specs.Copy.{copy_of}

-- for an entry with this verdict and length, and a buffer of `room` bytes
abbrev pub copy_refusal : Verdict → ℕ → ℕ → ℕ
copy_refusal v long room = first_of (refusal 31 (is_refused v) ∷ refusal 37 (ltb room long) ∷ [])

unfoldable pub copied : List ℕ → ℕ → Answer
copied s room = answer_for (judge_of s) (copy_refusal (judge_of s) (length s) room)

-- a buffer with the copy in it; "bytes past the entry's length stay"
abbrev pub copied_into : List ℕ → List ℕ → List ℕ
copied_into s out = copy_of s ++ drop (length s) out

-- the buffer after the call
unfoldable pub stored_copy : List ℕ → List ℕ → List ℕ
stored_copy s out = cond (eqb (copied s (length out)).number 0) (copied_into s out) out
