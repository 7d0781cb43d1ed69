-- What is said below a verdict, as a call answers it (document 01: "If an answer is an enum, a definition gives this
-- paper's number and values for each of its cases"): the number of the case and its values, in three numbers.
use Rattle.std.specs.Prelude.{ℕ, cond, List, [], ◌∷◌, eqb, get_or}
use Rattle.paper_reasons.specs.declared.types.Facts.{Facts}
use Rattle.paper_reasons.specs.declared.types.Facts.TheVariants.{Alone, Count, Range as Limits, Previous, Equal, Pointer, Expected}
use Rattle.paper_reasons.specs.declared.types.Explained.{Explained}
use Rattle.exports_verdicts.specs.Verdicts.{verdict_in}

abbrev pub facts_numbers : Facts → List ℕ
facts_numbers Alone = 0 ∷ 0 ∷ 0 ∷ []
facts_numbers (Count announced counted) = 1 ∷ announced ∷ counted ∷ []
facts_numbers (Limits least greatest) = 2 ∷ least ∷ greatest ∷ []
facts_numbers (Previous number) = 3 ∷ number ∷ 0 ∷ []
facts_numbers (Equal at column) = 4 ∷ at.0 ∷ column ∷ []
facts_numbers (Pointer pointer) = 5 ∷ pointer ∷ 0 ∷ []
facts_numbers Expected = 6 ∷ 0 ∷ 0 ∷ []

-- ---- what a word and three arrays say: what a host does with them

unfoldable pub facts_in : List ℕ → Facts
facts_in xs =
    let k = get_or xs 0 0 in
    let a = get_or xs 1 0 in
    let b = get_or xs 2 0 in
    cond (eqb k 1) (Count a b)
    (cond (eqb k 2) (Limits a b)
    (cond (eqb k 3) (Previous a)
    (cond (eqb k 4) (Equal (record { 0 = a }) b)
    (cond (eqb k 5) (Pointer a) (cond (eqb k 6) Expected Alone)))))

abbrev pub explained_in : ℕ → List ℕ → List ℕ → List ℕ → Explained
explained_in w totals facts characters =
    record { verdict = verdict_in w totals; reason = record { facts = facts_in facts; characters = characters } }
