-- The refusal depends on nothing below it (document 02, M-111):
--
--   "Compilers mend from the top. Prove for single entries: if refusal 2 to 15, or 17, is given at record r, then any
--   input of 1 to 20,000 whole records which agrees in records 1 to r gets the same refusal, record and column."
--
-- All of it is said of `judge_of`, which is what the call `judge` promises to answer.
use Rattle.std.specs.Prelude.{ℕ, ◌+◌, ◌*◌, ◌<◌, ◌≤◌, ◌≡◌, true, List, ◌++◌, ◌⊎◌, ◌↔◌, length}
use Rattle.laws.specs.Blocks.{block_at}
use Rattle.paper_rules.specs.Limits.{MOST-RECORDS}
use Rattle.paper_entry.specs.Verdict.{length_good}
use Rattle.paper_entry.specs.Judging.{judge_of, Accepted}
use Rattle.paper_entry.specs.Contexts.{context_at}
use Rattle.entry_walk.specs.First.{found_at}

-- "refusal 2 to 15, or 17": those that are given at a record of the input
abbrev pub AtRecord : ℕ → Type 0
AtRecord n = ((2 ≤ n) × (n ≤ 15)) ⊎ (n ≡ 17)

-- "1 to 20,000 whole records", and so many bytes
pub record RecordsWhole (n : ℕ) : Type 0 where
  pub records : ℕ
  pub some : 1 ≤ records
  pub most : records ≤ MOST-RECORDS
  pub whole : n ≡ records * 81

-- "agrees in records 1 to r": in the one with the index i, which is record i + 1
abbrev pub Agrees : ℕ → List ℕ → List ℕ → Type 0
Agrees r s t = (i : ℕ) → i + 1 ≤ r → block_at 81 t i ≡ block_at 81 s i

-- "any input of 1 to 20,000 whole records which agrees in records 1 to r gets the same refusal, record and column": the
-- whole verdict is the same
abbrev pub NothingBelow : Type 0
NothingBelow =
    (s t : List ℕ) → AtRecord (judge_of s).refusal → RecordsWhole (length t)
    → Agrees (judge_of s).«record».0 s t → judge_of t ≡ judge_of s

-- so whatever is added at the end leaves it as it is
abbrev pub AddedKept : Type 0
AddedKept =
    (s x : List ℕ) → AtRecord (judge_of s).refusal → RecordsWhole (length (s ++ x)) → judge_of (s ++ x) ≡ judge_of s

-- no refusal is left out but 1, which goes by the length, and 16, which goes by where the records end
abbrev pub NoneLeftOut : Type 0
NoneLeftOut =
    (s : List ℕ) → (Accepted s → ⊥) → ((judge_of s).refusal ≡ 1 → ⊥) → ((judge_of s).refusal ≡ 16 → ⊥)
    → AtRecord (judge_of s).refusal

-- 1 lets pass just these lengths
abbrev pub LengthExactly : Type 0
LengthExactly = (n : ℕ) → (length_good n ≡ true) ↔ RecordsWhole n

-- what it stands on: the context before a record, and what is found on it, come from the records up to it
abbrev pub ContextsAgree : Type 0
ContextsAgree = (r : ℕ) (s t : List ℕ) → Agrees r s t → (i : ℕ) → i ≤ r → context_at t i ≡ context_at s i

abbrev pub FoundAgree : Type 0
FoundAgree = (r : ℕ) (s t : List ℕ) → Agrees r s t → (i : ℕ) → i < r → found_at t i ≡ found_at s i
