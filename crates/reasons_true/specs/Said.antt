-- The verdict is the judge's, and each refusal has the reason that document 02 (M-108) gives it: 5 and 6 here, 8, 9 and 14
-- in `Counted`, 13 in `Equal`; the others have none.
use Rattle.std.specs.Prelude.{ℕ, ◌+◌, ◌≤◌, ◌≡◌, false, List}
use Rattle.paper_entry.specs.Verdict.{refused}
use Rattle.paper_entry.specs.Judging.{judge_of}
use Rattle.paper_reasons.specs.declared.types.Facts.TheVariants.{Alone, Expected}
use Rattle.paper_reasons.specs.Reason.{has_reason, explain}

abbrev pub ExplainedVerdict : Type 0
ExplainedVerdict = (s : List ℕ) → (explain s).verdict ≡ judge_of s

-- "for 5 and 6 the expected characters"
abbrev pub ExpectedSaid : Type 0
ExpectedSaid =
    (s : List ℕ) (i n k : ℕ) → 5 ≤ n → n ≤ 6 → judge_of s ≡ refused n (record { 0 = i + 1 }) k
    → (explain s).reason.facts ≡ Expected

-- "and for the other refusals the verdict alone"; so for an entry that is not refused
abbrev pub AloneSaid : Type 0
AloneSaid = (s : List ℕ) → has_reason (judge_of s).refusal ≡ false → (explain s).reason.facts ≡ Alone
