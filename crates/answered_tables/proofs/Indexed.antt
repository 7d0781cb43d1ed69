-- The records of a good entry by their index, and the context before one that the judge's walk comes to.
-- Assumes nothing.
use Prim.Native.Nat.{ℕ, suc, ◌+◌, ◌*◌, ◌/◌, ◌<◌}
use mathlib.Core.Path.{◌≡◌, refl, sym, ◌∙◌, ap}
use mathlib.Core.List.{List, [], ◌∷◌, ◌++◌}
use native.Mathlib.Omega.{arith}
use lib.ListN.{length, get_or, length-append, get_or-append}
use lib.Seq.{get_or-append_seam}
use Rattle.laws.specs.Walk.{All}
use Rattle.laws.specs.Blocks.{blocks, block_at}
use Rattle.laws.proofs.Blocks.{blocks-joined, length-joined, block-at}
use Rattle.paper_rules.specs.State.{Context, start_context}
use Rattle.paper_entry.specs.declared.types.Verdict.{Verdict}
use Rattle.paper_entry.specs.Judging.{role_of, Accepted}
use Rattle.paper_entry.specs.Contexts.{context_at}
use Rattle.entry_walk.proofs.Contexts.{context-start}
use Rattle.rules_plain.specs.Places.{Long}
use Rattle.good.specs.Parts.{Record, records_of}
use Rattle.good.specs.Good.{GoodBytes}
use Rattle.good.proofs.Steps.{next, Passes}
use Rattle.good.proofs.Entries.{entry-pass}
use Rattle.good.proofs.Theorems.{passes-long, good-accepted}

-- the context behind records that the judge passes
reach : (s : List ℕ) (pre : List Record) (i : ℕ) (c d : Context) → context_at s i ≡ c
    → ((j : ℕ) → j < length pre → block_at 81 s (i + j) ≡ get_or pre j []) → Passes c pre d
    → context_at s (i + length pre) ≡ d
unfolding Passes context_at
reach s [] i c d e b p = let z : i + 0 ≡ i = omega arith in rw z (e ∙ p)
reach s (r ∷ pre) i c d e b p =
    let z : i + suc (length pre) ≡ suc i + length pre = omega arith in
    let o : i + 0 ≡ i = omega arith in
    let here : block_at 81 s i ≡ r = rw o at (b 0 (omega arith)) in
    rw z
    (reach s pre (suc i) (next c (role_of c r) r) d (rw (e, here) refl)
    (λ j l. let y : suc i + j ≡ i + suc j = omega arith in rw y (b (suc j) (omega arith))) p.1)

module _ (s : List ℕ) (g : GoodBytes s) where
  pub long : All Long (records_of g.entry)
  long =
      let f = entry-pass g.entry g.good in
      passes-long start_context (records_of g.entry) f.last f.passes

  pub size : length s ≡ length (records_of g.entry) * 81
  size = ap length g.same ∙ length-joined 81 (records_of g.entry) long

  pub records : length s / 81 ≡ length (records_of g.entry)
  records = let e = size in omega arith

  pub block_is : (i : ℕ) → i < length (records_of g.entry) → block_at 81 s i ≡ get_or (records_of g.entry) i []
  block_is i l =
      sym (block-at 81 (length (records_of g.entry)) s i l)
      ∙ ap (λ (xs : List Record). get_or xs i [])
      (ap (blocks 81 (length (records_of g.entry))) g.same ∙ blocks-joined 81 (records_of g.entry) long)

  pub accepted : Accepted s
  accepted = ap (λ (v : Verdict). v.refusal) (good-accepted s g)

  -- a record behind others
  module _ (pre : List Record) (o : Record) (post : List Record) (split : records_of g.entry ≡ pre ++ (o ∷ post))
    where
      pub counted : length (records_of g.entry) ≡ length pre + suc (length post)
      counted = ap length split ∙ length-append pre (o ∷ post)

      pub there-behind : length pre < length s / 81
      there-behind = let c = counted in let d = records in omega arith

      pub block-behind : block_at 81 s (length pre) ≡ o
      block-behind =
          block_is (length pre) (let c = counted in omega arith)
          ∙ ap (λ (xs : List Record). get_or xs (length pre) []) split
          ∙ get_or-append_seam pre o post []

      before-is : (j : ℕ) → j < length pre → block_at 81 s (0 + j) ≡ get_or pre j []
      before-is j l =
          let z : 0 + j ≡ j = omega arith in
          rw z
          (block_is j (let c = counted in omega arith)
          ∙ ap (λ (xs : List Record). get_or xs j []) split
          ∙ get_or-append pre (o ∷ post) [] j l)

      pub context-behind : (here : Context) → Passes start_context pre here → context_at s (length pre) ≡ here
      context-behind here p = start (reach s pre 0 start_context here (context-start s) before-is p)
        where
          start : context_at s (0 + length pre) ≡ here → context_at s (length pre) ≡ here
          start e = let z : 0 + length pre ≡ length pre = omega arith in rw z at e
