-- Where a refusal is given at a record: it is the first there, and its reason is made there.
-- Assumes nothing.
use Prim.Native.Nat.{ℕ, ◌+◌, ◌*◌, ◌-◌, ◌≤◌, ◌<◌}
use mathlib.Core.Path.{◌≡◌, refl, ◌∙◌, ap}
use mathlib.Core.List.{List}
use native.Mathlib.Omega.{arith}
use borrow.Author.Tests.{ne_eqb}
use lib.ListN.{length}
use Rattle.paper_entry.specs.declared.types.Verdict.{Verdict}
use Rattle.paper_entry.specs.Verdict.{refused}
use Rattle.paper_entry.specs.Judging.{judge_of}
use Rattle.paper_reasons.specs.Reason.{reason_at, reason_of, explain}
use Rattle.entry_walk.specs.First.{FirstAt}
use Rattle.entry_walk.proofs.FirstRefused.{refused_first}
use Rattle.refusal_table.proofs.ByNumber.{first-at}

-- ---- where

module _ (s : List ℕ) (i n k : ℕ) (above : 1 < n) (below : n < 16)
    (e : judge_of s ≡ refused n (record { 0 = i + 1 }) k) where
  pub first-there : FirstAt s i n k
  first-there = first-at s (judge_of s) (refused_first s) n i k above (λ z. omega arith) e

  pub record-there : (i + 1) * 81 ≤ length s
  record-there = let h = first-there.there in omega arith

-- ---- why

reason-of : (s : List ℕ) (i n k : ℕ) → reason_of s (refused n (record { 0 = i + 1 }) k) ≡ reason_at s i n k
reason-of s i n k =
    let z : i + 1 - 1 ≡ i = omega arith in
    rw (ne_eqb (i + 1) 0 (λ q. omega arith), z) refl

pub reason-at : (s : List ℕ) (i n k : ℕ) → judge_of s ≡ refused n (record { 0 = i + 1 }) k
    → (explain s).reason ≡ reason_at s i n k
unfolding explain
reason-at s i n k e = ap (λ (v : Verdict). reason_of s v) e ∙ reason-of s i n k
