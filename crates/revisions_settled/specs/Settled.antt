-- What is answered of a merge, and what the buffer then holds, by the verdict on it; that these are `merged` and `merged_into` are
-- the laws `merged-settled` and `kept-settled`.
use Rattle.std.specs.Prelude.{ℕ, cond, List, ◌++◌, drop, replicate}
use Rattle.paper_entry.specs.declared.types.Answer.{Answer}
use Rattle.paper_entry.specs.declared.types.Verdict.{Verdict}
use Rattle.paper_entry.specs.Answer.{is_refused, answer_of}
use Rattle.paper_revisions.specs.declared.types.Merged.{Merged}
use Rattle.paper_revisions.specs.Picking.{beside_verdict}

abbrev pub no_merge : Answer → ℕ → Merged
no_merge a which = record { answer = a; which = which; length = 0 }

-- "63 the merge is refused"
unfoldable pub settled_by : Verdict → ℕ → Merged
settled_by v n =
    record { answer = cond (is_refused v) (beside_verdict 63 v) (answer_of 0); which = 0; length = n }

-- "and its bytes in the buffer are then blanks"
unfoldable pub kept_by : Verdict → List ℕ → ℕ → List ℕ
kept_by v out n = cond (is_refused v) (replicate n 32 ++ drop n out) out
