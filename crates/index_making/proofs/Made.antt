-- The cases of the call, by the verdict on the entry and the number of the answer.
-- Assumes nothing.
use Prim.Native.Nat.{ℕ}
use mathlib.Core.Path.{◌≡◌, sym, ◌∙◌, ap}
use mathlib.Core.List.{List}
use native.Mathlib.Omega.{arith}
use lib.ListN.{length}
use Rattle.paper_entry.specs.declared.types.Verdict.{Verdict}
use Rattle.paper_entry.specs.declared.types.Answer.{Answer}
use Rattle.paper_entry.specs.Answer.{answer_for}
use Rattle.paper_entry.specs.Judging.{judge_of}
use Rattle.paper_index.specs.Rows.{index_of}
use Rattle.paper_index.specs.Making.{making_refusal, made, over, stored_index}
use Rattle.paper_index.proofs.Made.{nothing_stored, index-stored, stored-room}
use Rattle.index_rows.proofs.Found.{index-length}
use Rattle.paper_index.specs.Making.{refusal_for}
use Rattle.index_walk.specs.Room.{IndexRoom}

-- the verdict v, and the number that it and the slice's length give
module _ (s t : List ℕ) (v : Verdict) (judged : v ≡ judge_of s) (number : ℕ)
    (given : number ≡ refusal_for v.refusal v.totals.subentries (length t)) where
  number_is : number ≡ making_refusal s (length t)
  number_is = given ∙ ap (λ (x : Verdict). refusal_for x.refusal x.totals.subentries (length t)) judged

  pub answer-made : (answer : Answer) → answer ≡ answer_for v number
      → record { answer = answer; rows = v.totals.subentries } ≡ made s (length t)
  unfolding made
  answer-made answer e = rw (e, number_is, judged)

  pub made_nothing : (number ≡ 0 → ⊥) → t ≡ stored_index s t
  made_nothing h = nothing_stored s t (λ z. h (number_is ∙ z))

  pub made-room : number ≡ 0 → IndexRoom s t
  made-room h =
      let x = stored-room s t (sym number_is ∙ h) in
      let room = x.1 in
      let long = index-length s x.0 in
      record { accepted = x.0; room = omega arith }

  pub made-stored : number ≡ 0 → over (index_of s) t ≡ stored_index s t
  made-stored h = index-stored s t (sym number_is ∙ h)
