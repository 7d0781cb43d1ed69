-- The verdict on an entry is the first in the order: the judge goes from the context before one record to that before
-- the next as long as nothing is found, and hands out the least that is found on a record.
-- Assumes nothing.
use Rattle.std.specs.Prelude.{Ok, Err}
use Rattle.paper_faults.specs.Fault.{Checked, fault_at, faultless}
use Prim.Native.Nat.{ℕ, zero, suc, ◌+◌, ◌/◌, ◌<◌}
use mathlib.Core.Path.{◌≡◌, refl, subst}
use mathlib.Core.Bool.{Bool, true, false, cond}
use mathlib.Core.List.{List}
use native.Mathlib.Omega.{arith}
use lib.ListN.{length}
use Rattle.laws.specs.Turns.{Turn, after, run}
use Rattle.laws.specs.Walk.{walk}
use Rattle.laws.specs.Blocks.{blocks, block_at}
use Rattle.laws.proofs.Blocks.{run-walk}
use Rattle.paper_record.specs.Places.{record_of}
use Rattle.paper_record.specs.Fields.{fields_of}
use Rattle.paper_rules.specs.State.{Context, start_context}
use Rattle.paper_rules.specs.Order.{fault_of}
use Rattle.paper_faults.specs.Least.{Least, Nothing}
use Rattle.paper_rules.proofs.Least.{fault-least, fault-none}
use Rattle.paper_faults.proofs.First.{nothing-next}
use Rattle.paper_entry.specs.declared.types.Verdict.{Verdict}
use Rattle.paper_entry.specs.Verdict.{refused, accepted, is_done, length_good}
use Rattle.paper_entry.specs.Judging.{role_of, on_fault, turn_as, turn_of, end_of, judge_of}
use Rattle.paper_entry.specs.Contexts.{behind, context_at}
use Rattle.entry_walk.specs.First.{found_in, found_at, NothingBefore, First, by_length, by_record, by_end, by_none}
use Rattle.entry_walk.specs.First.{RefusedFirst}
use Rattle.entry_walk.proofs.Contexts.{records-at, context-next}

-- ---- one record

module _ (c : Context) (r : List ℕ) where
  abbrev fault_in : Checked
  fault_in = fault_of c.track c.seen (role_of c r) (fields_of r) r

  nothing-in : fault_in ≡ faultless → Nothing (found_in c r)
  nothing-in e = fault-none c.track c.seen (role_of c r) (fields_of r) r e

  least-in : (n k : ℕ) → fault_in ≡ fault_at n k → Least (found_in c r) n k
  least-in n k e = fault-least c.track c.seen (role_of c r) (fields_of r) r n k e

-- ---- record by record

module _ (s : List ℕ) (good : length_good (length s) ≡ true) where
  abbrev turn_at : Context → ℕ → Turn Context Verdict
  turn_at c i = turn_of c i (block_at 81 s i)

  ending : NothingBefore s (length s / 81) → First s (end_of (context_at s (length s / 81)))
  unfolding end_of
  ending h = by-test (is_done (context_at s (length s / 81)).phase) refl
    where
      by-test : (b : Bool) → is_done (context_at s (length s / 81)).phase ≡ b
          → First s (cond b (accepted (context_at s (length s / 81)).track.totals)
          (refused 16 (record_of (context_at s (length s / 81)).track.records) 0))
      by-test true e = by_none (record { length-good = good; all = h }) e
      by-test false e = rw (records-at s (length s / 81)) (by_end (record { length-good = good; all = h }) e)

  -- the turn at the record with the index i, before m others
  one_more : (m i : ℕ) → i < length s / 81 → NothingBefore s i
      → (NothingBefore s (i + 1) → First s (run turn_at end_of (context_at s (i + 1)) (i + 1) m))
      → First s (run turn_at end_of (context_at s i) i (suc m))
  unfolding run turn_of turn_as
  one_more m i l h next = by-fault (fault_in (context_at s i) (block_at 81 s i)) refl
    where
      by-fault : (x : Checked) → fault_in (context_at s i) (block_at 81 s i) ≡ x
          → First s (after
          (on_fault (record_of (context_at s i).track.records) x (behind (context_at s i) (block_at 81 s i)))
          (λ c. run turn_at end_of c (i + 1) m))
      by-fault (Ok u) e =
          rw (context-next s i) at (next (nothing-next (found_at s) i h (nothing-in (context_at s i) (block_at 81 s i) e)))
      by-fault (Err fault) e =
          rw (records-at s i)
          (by_record i fault.number fault.column
          (record {
            length-good = good;
            there = l;
            earlier = h;
            least = least-in (context_at s i) (block_at 81 s i) fault.number fault.column e;
          }))

  first-from : (m i : ℕ) → i + m ≡ length s / 81 → NothingBefore s i
      → First s (run turn_at end_of (context_at s i) i m)
  unfolding run
  first-from zero i e h =
      let z : length s / 81 ≡ i = omega arith in
      subst (λ (x : ℕ). NothingBefore s x → First s (end_of (context_at s x))) z ending h
  first-from (suc m) i e h = one_more m i (omega arith) h (first-from m (i + 1) (omega arith))

pub refused_first : RefusedFirst
unfolding judge_of context_at
refused_first s = by-test (length_good (length s)) refl
  where
    by-test : (b : Bool) → length_good (length s) ≡ b
        → First s (cond b (walk turn_of end_of start_context 0 (blocks 81 (length s / 81) s))
        (refused 1 (record { 0 = 0 }) 0))
    by-test true e =
        subst (First s) (run-walk turn_of end_of 81 s (length s / 81) start_context)
        (first-from s e (length s / 81) 0 (omega arith) (λ j l. absurd (omega arith)))
    by-test false e = by_length e
