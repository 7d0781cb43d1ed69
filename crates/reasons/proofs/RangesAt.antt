-- The state that a walk has come to has the ranges of the definitions, and gives the reason of the definitions.
-- Assumes nothing.
use Prim.Native.Nat.{ℕ, zero, suc, ◌+◌, ◌*◌, ◌/◌, ◌≤◌}
use mathlib.Core.Path.{◌≡◌, refl, ◌∙◌, ap, subst}
use mathlib.Core.Bool.{true}
use mathlib.Core.List.{List}
use native.Mathlib.Omega.{arith}
use lib.ListN.{length, take, drop, length-drop}
use lib.Seq.{length-take-le}
use Rattle.laws.specs.Blocks.{block_at}
use Rattle.paper_record.specs.Columns.{Whole}
use Rattle.paper_rules.specs.Ranging.{Stands}
use Rattle.paper_entry.specs.Verdict.{length_good}
use Rattle.paper_entry.specs.Contexts.{context_at}
use Rattle.paper_entry.proofs.Lengths.{whole-records}
use Rattle.entry_step.specs.declared.step.Judge.{Judge}
use Rattle.entry_step.specs.ByRanges.{judge_after}
use Rattle.entry_step.specs.Pass.{judge_at, Walking}
use Rattle.entry_step.proofs.Walking.{context-stands, track-stands, records-passed, walking-bounded, walking-placed}
use Rattle.paper_reasons.specs.Ranges.{ranges_at}
use Rattle.paper_reasons.specs.Reason.{reason_at}
use Rattle.reasons.specs.Asked.{reason_by}

module _ (s : List ℕ) (good : length_good (length s) ≡ true) where
  ranges-next : (i : ℕ) → (judge_at s i).ranges ≡ ranges_at s i → (judge_at s i).track ≡ (context_at s i).track
      → (judge_at s (suc i)).ranges ≡ ranges_at s (suc i)
  unfolding judge_at ranges_at judge_after
  ranges-next i e t = rw (e, t)

  ranges-same : (i : ℕ) → i ≤ length s / 81 → (judge_at s i).ranges ≡ ranges_at s i
  unfolding judge_at ranges_at
  ranges-same zero l = refl
  ranges-same (suc i) l =
      ranges-next i (ranges-same i (omega arith))
      (track-stands (record { good = good; upto = omega arith; same = refl }))

module _ {j : Judge} {s : List ℕ} {i : ℕ} (w : Walking j s i) where
  ranges-stand : j.ranges ≡ ranges_at s i
  ranges-stand = ap (λ (x : Judge). x.ranges) w.same ∙ ranges-same s w.good i w.upto

  pub reason-stands : (number column : ℕ)
      → reason_by j (take (i * 81) s) (block_at 81 s i) number column ≡ reason_at s i number column
  reason-stands number column = rw (← context-stands w, ← ranges-stand) refl

  pub state-stands : Stands j.track j.ranges (take (i * 81) s)
  state-stands =
      let g = (whole-records (length s) w.good).0 in
      let l = w.upto in
      let e = records-passed w in
      record {
        bounded = walking-bounded w;
        long = rw e (length-take-le (i * 81) s (omega arith));
        placed = walking-placed w;
      }

-- a walk up to n that has come to its end
pub walking-to : {j : Judge} {s : List ℕ} (i n : ℕ) → i ≤ n → n ≤ i → Walking j s i → Walking j s n
walking-to {j} {s} i n a b w = let z : i ≡ n = omega arith in subst (Walking j s) z w
