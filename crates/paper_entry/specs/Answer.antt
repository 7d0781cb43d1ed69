-- What a call about an entry answers (document 01, "Refusal numbers and their order"):
--
--   "31 entry refused (its refusal, record and column beside it, zeros with any other answer)"
--
-- Of a file the ordinal of the entry stands there too (document 02, M-100: "The verdict gains the entry's ordinal").
-- Its number is the first that is given, in the call's own order; 0 where none is.
use Rattle.std.specs.Prelude.{ℕ, Bool, cond, not, List, [], ◌∷◌, eqb}
use Rattle.paper_entry.specs.declared.types.Answer.{Answer}
use Rattle.paper_entry.specs.declared.types.Verdict.{Verdict}

-- ---- refusals, in their order

-- a number, and whether it is given
pub record Refusal : Type 0 where
  pub number : ℕ
  pub given : Bool

abbrev pub refusal : ℕ → Bool → Refusal
refusal number given = record { number = number; given = given }

-- the number of the first that is given, 0 where none is
abbrev pub first_of : List Refusal → ℕ
first_of [] = 0
first_of (x ∷ xs) = cond x.given x.number (first_of xs)

-- "31 entry refused"
abbrev pub is_refused : Verdict → Bool
is_refused v = not (eqb v.refusal 0)

-- ---- what stands beside a number

-- zeros
abbrev pub answer_of : ℕ → Answer
answer_of number = record { number = number; refusal = 0; «record» = record { 0 = 0 }; column = 0; ordinal = 0 }

-- beside 31 "its refusal, record and column", by the verdict on the entry
abbrev pub answer_for : Verdict → ℕ → Answer
answer_for v number =
    cond (eqb number 31)
    (record { number = 31; refusal = v.refusal; «record» = v.«record»; column = v.column; ordinal = v.ordinal })
    (answer_of number)
