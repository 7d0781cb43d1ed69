-- The judge by ranges is the judge of the definitions: the two go over the same records, and keep that the numbers
-- stand for the context. Assumes nothing.
use Rattle.std.specs.Prelude.{Ok, Err}
use Rattle.paper_faults.specs.Fault.{Checked}
use Prim.Native.Nat.{ℕ, ◌+◌, ◌*◌, ◌/◌, ◌%◌, ◌<◌, ◌≤◌}
use mathlib.Core.Path.{◌≡◌, refl, sym, ◌∙◌}
use mathlib.Core.Bool.{Bool, true, false, cond, not, ◌&&◌}
use mathlib.Core.List.{List, ◌++◌}
use native.Mathlib.Omega.{arith}
use borrow.Author.Tests.{eqb-true, leb-true, ne_eqb, eq-eqb, le-leb}
use lib.Dec.{eqb, leb}
use lib.ListN.{length, take, drop, length-drop, length-append}
use lib.Seq.{length-take-le}
use Rattle.laws.specs.Turns.{run}
use Rattle.laws.specs.Blocks.{blocks, block_at}
use Rattle.laws.specs.Walk.{walk}
use Rattle.laws.proofs.Agree.{Agree, runs-agree}
use Rattle.laws.proofs.Blocks.{run-walk}
use Rattle.paper_record.specs.Places.{record_of}
use Rattle.paper_record.specs.Fields.{fields_of}
use Rattle.paper_rules.specs.State.{Context, start_context}
use Rattle.paper_rules.specs.Limits.{MOST-RECORDS}
use Rattle.paper_rules.specs.Ranging.{Bounded, AllPlaced, seen_of}
use Rattle.paper_rules.specs.Order.{fault_of}
use Rattle.entry_step.specs.declared.step.Judge.{Judge}
use Rattle.paper_entry.specs.Next.{context_after}
use Rattle.paper_entry.specs.Judging.{role_of, on_fault, turn_as, turn_of, end_of, judge_of}
use Rattle.paper_entry.specs.Verdict.{refused, length_good}
use Rattle.entry_step.specs.ByRanges.{context_of, judge_after, step_for, step_as, step_of, start_judge, on_step}
use Rattle.entry_step.specs.ByRanges.{step_turn, finish_of, judge_by_ranges, Ready}
use Rattle.entry_step.proofs.Stepping.{next-bytes, stood-start, stood-next, context-next}
use Rattle.entry_ranges.proofs.Following.{Joins}
use Rattle.paper_entry.proofs.Lengths.{whole-records}

module _ (s : List ℕ) (n : ℕ) (whole : length s ≡ n * 81) (few : n ≤ MOST-RECORDS) where
  -- the context before the record with the index i, and the numbers that stand for it
  pub record Standing (i : ℕ) (c : Context) (j : Judge) : Type 0 where
    pub same : context_of (take (i * 81) s) j ≡ c
    pub records : j.track.records.0 ≡ i
    pub bounded : Bounded j.track
    pub placed : AllPlaced j.ranges j.track.records.0
    pub joins : Joins j.phase j.track j.ranges

  -- one record without fault
  pub goes_on : (i : ℕ) (j : Judge) → i < n → (c : Context) → Standing i c j
      → let b = take (i * 81) s in
      let r = block_at 81 s i in
      let role = role_of (context_of b j) r in
      Standing (i + 1) (context_after (context_of b j) role (fields_of r) r) (judge_after j role (fields_of r) r)
  goes_on i j l c k =
      let b = take (i * 81) s in
      let r = block_at 81 s i in
      let e : j.track.records.0 ≡ i = k.records in
      let long : length b ≡ i * 81 = length-take-le (i * 81) s (omega arith) in
      let ready : Ready j b r = record {
        stands = record { bounded = k.bounded; long = rw e long; placed = k.placed };
        few = omega arith;
        whole = record { long = length-take-le 81 (drop (i * 81) s) (simp length-drop (omega arith)) };
      } in
      let next = stood-next b r j k.joins ready in
      let w = next.stands.long in
      let x : length (b ++ r) ≡ length b + length r = length-append b r in
      let y = ready.whole.long in
      record {
        same = rw (next-bytes s i) (context-next b r j k.joins ready);
        records = omega arith;
        bounded = next.stands.bounded;
        placed = next.stands.placed;
        joins = next.joins;
      }

  turn : (i : ℕ) (c : Context) (j : Judge) → i < n → Standing i c j
      → let b = take (i * 81) s in
      let r = block_at 81 s i in
      let role = role_of (context_of b j) r in
      (x : Checked)
      → Agree (Standing (i + 1))
      (on_fault (record_of j.track.records) x (context_after (context_of b j) role (fields_of r) r))
      (on_step (record_of j.track.records) (step_for x (judge_after j role (fields_of r) r)))
  turn i c j l k (Ok u) = goes_on i j l c k
  turn i c j l k (Err fault) = refl

  pub turns : (i : ℕ) (c : Context) (j : Judge) → i < n → Standing i c j
      → Agree (Standing (i + 1)) (turn_of c i (block_at 81 s i)) (step_turn s j i)
  unfolding turn_of turn_as step_of step_as
  turns i c j l k =
      let b = take (i * 81) s in
      let r = block_at 81 s i in
      rw (← k.same)
      (turn i c j l k (fault_of j.track (seen_of b j.ranges) (role_of (context_of b j) r) (fields_of r) r))

  pub ends : (c : Context) (j : Judge) → Standing n c j → end_of c ≡ finish_of j
  unfolding end_of finish_of
  ends c j k = rw (← k.same)

  pub starts : Standing 0 start_context start_judge
  starts =
      record {
        same = refl;
        records = refl;
        bounded = stood-start.stands.bounded;
        placed = stood-start.stands.placed;
        joins = stood-start.joins;
      }

  numbers-run : run (λ c i. turn_of c i (block_at 81 s i)) end_of start_context 0 n ≡ run (step_turn s) finish_of start_judge
      0 n
  numbers-run =
      runs-agree (λ c i. turn_of c i (block_at 81 s i)) (step_turn s) end_of finish_of Standing n ends turns n 0
      start_context start_judge (omega arith) starts

-- the code's judge is the judge
pub ranges-judge : (s : List ℕ) → judge_by_ranges s ≡ judge_of s
unfolding judge_by_ranges judge_of
ranges-judge s = by-test (length_good (length s)) refl
  where
    by-test : (t : Bool) → length_good (length s) ≡ t
        → cond t (run (step_turn s) finish_of start_judge 0 (length s / 81)) (refused 1 (record { 0 = 0 }) 0)
        ≡ cond t (walk turn_of end_of start_context 0 (blocks 81 (length s / 81) s)) (refused 1 (record { 0 = 0 }) 0)
    by-test true e =
        let g = whole-records (length s) e in
        sym (numbers-run s (length s / 81) g.0 g.1) ∙ run-walk turn_of end_of 81 s (length s / 81) start_context
    by-test false e = refl
