-- "Prove the reason true: putting the expected characters in that place makes that check hold at that record, for 5 and
-- 6; for the others, the printed facts are those of the definition." (document 02, M-108) Here 5 and 6.
use Rattle.std.specs.Prelude.{ℕ, ◌+◌, ◌*◌, ◌≡◌, List, []}
use Rattle.std.proofs.Math.Seq.{paste}
use Rattle.laws.specs.Blocks.{block_at}
use Rattle.paper_record.specs.Fields.{fields_of}
use Rattle.paper_rules.specs.Every.{rule5, rule6}
use Rattle.paper_entry.specs.Verdict.{refused}
use Rattle.paper_entry.specs.Judging.{judge_of}
use Rattle.paper_entry.specs.Contexts.{context_at, role_at}
use Rattle.paper_reasons.specs.Reason.{explain}

-- the entry with w characters put behind so many columns of the record with the index i
abbrev pub put_at : List ℕ → ℕ → ℕ → ℕ → List ℕ → List ℕ
put_at s i column w characters = paste s (i * 81 + column) characters w

-- the columns that a rule finds on the record with the index i of an entry
abbrev pub found5 : List ℕ → ℕ → List ℕ
found5 s i = rule5 (context_at s i).track (role_at s i) (fields_of (block_at 81 s i)) (block_at 81 s i)

abbrev pub found6 : List ℕ → ℕ → List ℕ
found6 s i = rule6 (context_at s i).track (role_at s i) (block_at 81 s i)

-- 5: columns 67-74; 6: columns 75-79
abbrev pub Mended5 : Type 0
Mended5 =
    (s : List ℕ) (i : ℕ) → judge_of s ≡ refused 5 (record { 0 = i + 1 }) 67
    → found5 (put_at s i 66 8 (explain s).reason.characters) i ≡ []

abbrev pub Mended6 : Type 0
Mended6 =
    (s : List ℕ) (i : ℕ) → judge_of s ≡ refused 6 (record { 0 = i + 1 }) 75
    → found6 (put_at s i 74 5 (explain s).reason.characters) i ≡ []
