-- What the code's loop keeps: the state stands before the record in hand, and for the context there; and its result is
-- that of the judge by numbers. Assumes nothing.
use Prim.Native.Nat.{ℕ, ◌+◌, ◌*◌, ◌/◌, ◌≤◌}
use mathlib.Core.Path.{◌≡◌, refl, ◌∙◌, ap}
use mathlib.Core.Bool.{true}
use mathlib.Core.List.{List, [], ◌++◌}
use native.Mathlib.Omega.{arith}
use lib.ListN.{length, take, get_or, length-append}
use lib.Seq.{take-add, length-take-le}
use Rattle.laws.specs.Blocks.{block_at}
use Rattle.laws.proofs.Turns.{Run, run-all}
use Rattle.paper_record.specs.Fields.{fields_of}
use Rattle.paper_record.specs.Identifier.{identifier_of}
use Rattle.paper_rules.specs.Ranging.{Stands}
use Rattle.entry_step.specs.declared.step.Judge.{Judge}
use Rattle.paper_entry.specs.Counted.{track_after}
use Rattle.paper_entry.specs.Next.{context_after}
use Rattle.paper_entry.specs.Judging.{role_of}
use Rattle.paper_entry.specs.Verdict.{length_good}
use Rattle.entry_step.specs.ByRanges.{context_of, judge_after, start_judge, step_turn, finish_of, judge_by_ranges}
use Rattle.entry_step.specs.ByRanges.{Ready}
use Rattle.paper_entry.proofs.Counting.{Follows, track-follows}
use Rattle.entry_ranges.proofs.Following.{Joins, all_placed, seen_next, reaches, joins-next}

-- the state after a record stands before the next one
pub stands_after : (j : Judge) (before rec : List ℕ) → Ready j before rec → (role : ℕ) (fs : List (List ℕ))
    → Stands (judge_after j role fs rec).track (judge_after j role fs rec).ranges (before ++ rec)
unfolding judge_after
stands_after j before rec h role fs =
    let f : Follows j.track (track_after j.track role fs rec) =
    track-follows j.track h.stands.bounded h.few role fs rec in
    let x = h.stands.long in
    let y = h.whole.long in
    record {
      bounded = f.bounded;
      long = rw (length-append, f.records) (omega arith);
      placed = rw f.records (all_placed j.track j.ranges role fs h.stands.placed);
    }

pub stands-start : Stands start_judge.track start_judge.ranges []
stands-start =
    record {
      bounded = omega arith;
      long = refl;
      placed = omega arith;
    }

-- ---- the bytes before a record, and the numbers that stand for what may be looked back at there

pub record Stood (before : List ℕ) (j : Judge) : Type 0 where
  pub stands : Stands j.track j.ranges before
  pub joins : Joins j.phase j.track j.ranges

pub stood-start : Stood [] start_judge
stood-start =
    record {
      stands = stands-start;
      joins = record { bib = λ e. refl; under = λ e. refl; table = λ e h. refl };
    }

-- one record without fault
module _ (before rec : List ℕ) (j : Judge) (joins : Joins j.phase j.track j.ranges) (h : Ready j before rec)
  where
    abbrev role : ℕ
    role = role_of (context_of before j) rec

    pub stood-next : Stood (before ++ rec) (judge_after j (role_of (context_of before j) rec) (fields_of rec) rec)
    unfolding judge_after
    stood-next =
        let f = track-follows j.track h.stands.bounded h.few role (fields_of rec) rec in
        record {
          stands = stands_after j before rec h role (fields_of rec);
          joins = joins-next j.track j.ranges role (fields_of rec) rec f.records;
        }

    pub context-next : let role = role_of (context_of before j) rec in
        context_of (before ++ rec) (judge_after j role (fields_of rec) rec)
        ≡ context_after (context_of before j) role (fields_of rec) rec
    unfolding context_after judge_after
    context-next =
        let fs = fields_of rec in
        rw (seen_next j.track j.ranges role fs before rec h.stands.long h.whole.long h.stands.placed
        (reaches j.phase j.track j.ranges (identifier_of (get_or fs 0 [])) (get_or fs 0 []) joins))

-- ---- the loop

-- the loop at its start
pub run-start : (s : List ℕ) → length_good (length s) ≡ true
    → Run (step_turn s) finish_of (judge_by_ranges s) start_judge 0 (length s / 81)
unfolding judge_by_ranges
run-start s e = rw e (run-all (length s / 81))

-- the bytes before the next record
pub next-bytes : (s : List ℕ) (i : ℕ) → take ((i + 1) * 81) s ≡ take (i * 81) s ++ block_at 81 s i
next-bytes s i =
    let e : (i + 1) * 81 ≡ i * 81 + 81 = omega arith in
    ap (λ (k : ℕ). take k s) e ∙ take-add (i * 81) 81 s

-- so many records as their bytes
pub records-counted : (s : List ℕ) (k : ℕ) (j : Judge) → k * 81 ≤ length s
    → Stands j.track j.ranges (take (k * 81) s) → j.track.records.0 ≡ k
records-counted s k j h w =
    let l : length (take (k * 81) s) ≡ k * 81 = length-take-le (k * 81) s h in
    let m = w.long in
    omega arith
