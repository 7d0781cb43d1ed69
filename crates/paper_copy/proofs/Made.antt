-- What the call answers and leaves, by its cases; on an accepted entry and a buffer long enough it is the copy, and
-- behind it the buffer as it was.
-- Assumes nothing.
use Prim.Native.Nat.{ℕ, ◌<◌, ◌≤◌}
use mathlib.Core.Path.{◌≡◌, refl, sym, ◌∙◌, ap}
use mathlib.Core.List.{List, ◌++◌}
use lib.ListN.{length, drop}
use lib.Seq.{take_at, drop_at}
use Rattle.paper_entry.specs.declared.types.Verdict.{Verdict}
use Rattle.paper_entry.specs.Judging.{judge_of, Accepted}
use Rattle.paper_entry.specs.Answer.{answer_of, answer_for}
use Rattle.paper_copy.specs.Copy.{copy_of}
use Rattle.paper_copy.specs.Call.{copied, copied_into, stored_copy}
use Rattle.paper_copy.specs.Demand.{CopyMade}
use Rattle.paper_copy.specs.Storing.{Room}
use Rattle.paper_copy.proofs.Answered.{answer-refused, answer-short, answer-made}
use Rattle.paper_copy.proofs.Demand.{passed, copy-long}

answered : (s : List ℕ) (room : ℕ) → Accepted s → length s ≤ room → copied s room ≡ answer_of 0
unfolding copied
answered s room f long = sym (answer-made (judge_of s) (length s) room f long)

pub stored-copy : (s out : List ℕ) → Accepted s → length s ≤ length out
    → stored_copy s out ≡ copy_of s ++ drop (length s) out
unfolding stored_copy
stored-copy s out f long = rw (answered s (length out) f long) refl

pub copy-made : CopyMade
copy-made s out f long = (
  answered s (length out) f long,
  rw (stored-copy s out f long) (take_at (copy_of s) (drop (length s) out) (length s) (copy-long s (passed s f))),
  rw (stored-copy s out f long) (drop_at (copy_of s) (drop (length s) out) (length s) (copy-long s (passed s f))),
)

-- ---- the cases of the code

accepted-by : (s : List ℕ) (v : Verdict) → v ≡ judge_of s → v.refusal ≡ 0 → Accepted s
accepted-by s v e z = ap (λ (x : Verdict). x.refusal) (sym e) ∙ z

-- 31
pub refused-copied : (s out : List ℕ) (v : Verdict) → v ≡ judge_of s → (v.refusal ≡ 0 → ⊥)
    → (answer_for v 31 ≡ copied s (length out)) × (out ≡ stored_copy s out)
unfolding copied stored_copy
refused-copied s out v e n =
    let a = answer-refused v (length s) (length out) n in
    rw (← e, ← a) (refl, refl)

-- 37
pub short-copied : (s out : List ℕ) (v : Verdict) → v ≡ judge_of s → v.refusal ≡ 0 → length out < length s
    → (answer_of 37 ≡ copied s (length out)) × (out ≡ stored_copy s out)
unfolding copied stored_copy
short-copied s out v e z short =
    let a = answer-short v (length s) (length out) z short in
    rw (← e, ← a) (refl, refl)

-- 0
pub made-room : (s out : List ℕ) (v : Verdict) → v ≡ judge_of s → v.refusal ≡ 0 → length s ≤ length out → Room s out
made-room s out v e z long = record { accepted = accepted-by s v e z; room = long }

pub made-copied : (s out : List ℕ) (v : Verdict) → v ≡ judge_of s → v.refusal ≡ 0 → length s ≤ length out
    → (answer_of 0 ≡ copied s (length out)) × (copied_into s out ≡ stored_copy s out)
made-copied s out v e z long =
    let f = accepted-by s v e z in
    (sym (answered s (length out) f long), sym (stored-copy s out f long))
