-- A walk over the records of an accepted entry: it starts, it goes on with each record that is passed, and all the
-- while the state in hand stands for the context before the record.
-- Assumes nothing.
use Prim.Native.Nat.{ℕ, zero, suc, ◌+◌, ◌*◌, ◌/◌, ◌<◌, ◌≤◌}
use mathlib.Core.Path.{◌≡◌, refl, ap, subst}
use mathlib.Core.Bool.{Bool, true, false, cond}
use mathlib.Core.List.{List}
use native.Mathlib.Omega.{arith}
use native.Mathlib.Numerals.{add-one}
use lib.ListN.{length, take}
use Rattle.laws.specs.Walk.{walk}
use Rattle.laws.specs.Blocks.{blocks, block_at}
use Rattle.paper_rules.specs.State.{Context, start_context}
use Rattle.paper_rules.specs.Limits.{MOST-RECORDS}
use Rattle.paper_rules.specs.Ranging.{Bounded, AllPlaced}
use Rattle.entry_step.specs.declared.step.Judge.{Judge}
use Rattle.paper_entry.specs.Verdict.{refused, length_good}
use Rattle.paper_entry.specs.Judging.{turn_of, end_of, judge_of, Accepted}
use Rattle.entry_step.specs.ByRanges.{context_of, start_judge}
use Rattle.paper_entry.specs.Contexts.{context_at}
use Rattle.entry_step.specs.Pass.{pass_of, judge_at, pass_at, Walking}
use Rattle.entry_step.proofs.Numbered.{Standing, goes_on, starts}
use Rattle.paper_entry.proofs.Lengths.{whole-records}

-- the walk at its start
pub walking_start : (s : List ℕ) → length_good (length s) ≡ true → Walking start_judge s 0
unfolding judge_at
walking_start s good = record { good = good; upto = omega arith; same = refl }

module _ (s : List ℕ) (n : ℕ) (whole : length s ≡ n * 81) (few : n ≤ MOST-RECORDS) where
  stands-first : Standing s n whole few 0 (context_at s 0) (judge_at s 0)
  unfolding context_at judge_at
  stands-first = starts s n whole few

  stands-next : (i : ℕ) → i < n → Standing s n whole few i (context_at s i) (judge_at s i)
      → Standing s n whole few (i + 1) (context_at s (suc i)) (judge_at s (suc i))
  unfolding context_at judge_at
  stands-next i l k = rw (← k.same) (goes_on s n whole few i (judge_at s i) l (context_at s i) k)

  stands_at : (i : ℕ) → i ≤ n → Standing s n whole few i (context_at s i) (judge_at s i)
  stands_at zero l = stands-first
  stands_at (suc i) l =
      subst (λ (m : ℕ). Standing s n whole few m (context_at s (suc i)) (judge_at s (suc i))) (add-one i)
      (stands-next i (omega arith) (stands_at i (omega arith)))

module _ {j : Judge} {s : List ℕ} {i : ℕ} (w : Walking j s i) where
  stands : Standing s (length s / 81) (whole-records (length s) w.good).0 (whole-records (length s) w.good).1
      i (context_at s i) j
  stands =
      let g = whole-records (length s) w.good in
      rw w.same (stands_at s (length s / 81) g.0 g.1 i w.upto)

  -- the state stands for the context before the record
  pub context-stands : context_of (take (i * 81) s) j ≡ context_at s i
  context-stands = stands.same

  pub track-stands : j.track ≡ (context_at s i).track
  track-stands = ap (λ (c : Context). c.track) context-stands

  pub records-passed : j.track.records.0 ≡ i
  records-passed = stands.records

  pub walking-bounded : Bounded j.track
  walking-bounded = stands.bounded

  pub walking-placed : AllPlaced j.ranges j.track.records.0
  walking-placed = stands.placed

  -- one record
  module _ (there : i < length s / 81) where
    pub pass-at : pass_of j (block_at 81 s i) ≡ pass_at s i
    unfolding pass_of judge_at
    pass-at = rw (add-one i, ← context-stands, w.same)

    pub walking-next : Walking (judge_at s (i + 1)) s (i + 1)
    walking-next = record { good = w.good; upto = omega arith; same = refl }

  -- behind the last record
  pub walking-done : length s / 81 ≤ i → i ≡ length s / 81
  walking-done h = let l = w.upto in omega arith
