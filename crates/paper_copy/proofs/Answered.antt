-- What a call for a copy answers, by the verdict and the two lengths.
-- Assumes nothing.
use Prim.Native.Nat.{ℕ, ◌<◌, ◌≤◌}
use mathlib.Core.Path.{◌≡◌}
use borrow.Author.Tests.{eq-eqb, ne_eqb, lt-ltb, le-ltb}
use Rattle.paper_entry.specs.declared.types.Verdict.{Verdict}
use Rattle.paper_entry.specs.Answer.{answer_of, answer_for}
use Rattle.paper_copy.specs.Call.{copy_refusal}

module _ (v : Verdict) (long room : ℕ) where
  pub answer-refused : (v.refusal ≡ 0 → ⊥) → answer_for v 31 ≡ answer_for v (copy_refusal v long room)
  answer-refused n = rw (ne_eqb v.refusal 0 n)

  pub answer-short : v.refusal ≡ 0 → room < long → answer_of 37 ≡ answer_for v (copy_refusal v long room)
  answer-short z short = rw (eq-eqb v.refusal 0 z, lt-ltb room long short)

  pub answer-made : v.refusal ≡ 0 → long ≤ room → answer_of 0 ≡ answer_for v (copy_refusal v long room)
  answer-made z fits = rw (eq-eqb v.refusal 0 z, le-ltb room long fits)
