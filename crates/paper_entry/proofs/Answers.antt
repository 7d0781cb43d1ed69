-- The number of an answer is the one that it was made with.
-- Assumes nothing.
use Prim.Native.Nat.{ℕ}
use mathlib.Core.Path.{◌≡◌, refl, sym}
use mathlib.Core.Bool.{Bool, true, false, cond}
use borrow.Author.Tests.{eqb-true}
use lib.Dec.{eqb}
use Rattle.paper_entry.specs.declared.types.Verdict.{Verdict}
use Rattle.paper_entry.specs.Answer.{answer_of, answer_for}

pub answer-number : (v : Verdict) (number : ℕ) → (answer_for v number).number ≡ number
answer-number v number = by-test (eqb number 31) refl
  where
    by-test : (b : Bool) → eqb number 31 ≡ b
        → (cond b (record { number = 31; refusal = v.refusal; «record» = v.«record»; column = v.column; ordinal = v.ordinal })
        (answer_of number)).number ≡ number
    by-test true e = sym (eqb-true number 31 e)
    by-test false e = refl
