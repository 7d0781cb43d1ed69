-- A refusal hangs on the record that it names: cut above it, the input has another verdict. And 16, which M-111 leaves
-- out, does depend on what follows.
use Rattle.std.specs.Prelude.{ℕ, ◌+◌, ◌*◌, ◌<◌, ◌≡◌, List, ◌++◌, length, take}
use Rattle.paper_entry.specs.Verdict.{refused}
use Rattle.paper_entry.specs.Judging.{judge_of, Accepted}
use Rattle.below.specs.Below.{AtRecord}

-- n records, cut from an input that is refused at the record r: refused by 16 behind the last of them, or accepted, and
-- then the record r is the next
pub data CutSaid (s : List ℕ) (n r : ℕ) : Type 0 where
  unended : judge_of s ≡ refused 16 (record { 0 = n + 1 }) 0 → CutSaid s n r
  ended : Accepted s → n + 1 ≡ r → CutSaid s n r

abbrev pub CutAbove : Type 0
CutAbove =
    (s : List ℕ) (n : ℕ) → AtRecord (judge_of s).refusal → 0 < n → n < (judge_of s).«record».0
    → CutSaid (take (n * 81) s) n (judge_of s).«record».0

-- behind an input that is refused by 16 no record leaves the verdict as it was
abbrev pub EndMoved : Type 0
EndMoved =
    (s r : List ℕ) → (judge_of s).refusal ≡ 16 → length r ≡ 81 → judge_of (s ++ r) ≡ judge_of s → ⊥
