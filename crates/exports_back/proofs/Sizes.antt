-- Every verdict fits its word: a refusal is 1 to 17, at a record up to 20,001 and a column up to 81.
-- Assumes nothing.
use Rattle.std.specs.Prelude.{Ok, Err}
use Rattle.paper_faults.specs.Fault.{Checked}
use Prim.Native.Nat.{ℕ, ◌+◌, ◌*◌, ◌/◌, ◌^◌, ◌<◌, ◌≤◌}
use mathlib.Core.Path.{◌≡◌, refl}
use mathlib.Core.Bool.{Bool, true, false, cond}
use mathlib.Core.List.{List, [], ◌∷◌}
use native.Mathlib.Omega.{arith}
use lib.ListN.{length}
use Rattle.laws.specs.Turns.{after}
use Rattle.laws.specs.Walk.{walk}
use Rattle.laws.specs.Blocks.{blocks}
use Rattle.laws.proofs.Blocks.{length-blocks}
use Rattle.paper_record.specs.declared.types.RecordNo.{RecordNo}
use Rattle.paper_record.specs.Places.{record_of}
use Rattle.paper_record.specs.Fields.{fields_of}
use Rattle.paper_rules.specs.declared.types.Totals.{Totals}
use Rattle.paper_rules.specs.declared.types.Track.{Track}
use Rattle.paper_rules.specs.State.{Context, start_context}
use Rattle.paper_rules.specs.Limits.{MOST-RECORDS}
use Rattle.paper_rules.specs.Ranging.{Bounded}
use Rattle.paper_rules.specs.Order.{fault_of}
use Rattle.laws.proofs.EitherWay.{either_way}
use Rattle.paper_entry.specs.Next.{context_after}
use Rattle.paper_entry.specs.declared.types.Verdict.{Verdict}
use Rattle.paper_entry.specs.Verdict.{refused, refused_within, accepted, is_done, length_good}
use Rattle.paper_entry.specs.Judging.{role_of, on_fault, turn_as, turn_of, end_of, judge_of}
use Rattle.paper_entry.proofs.Counting.{Follows, track-follows}
use Rattle.paper_entry.proofs.Lengths.{whole-records}
use Rattle.exports_back.proofs.NearFaults.{Near, near-fault}

-- what a word can hold
pub record NearRefusal (ordinal n : ℕ) (at : RecordNo) (k : ℕ) : Type 0 where
  pub number : n < 2 ^ 8
  pub «record» : at.0 < 2 ^ 24
  pub column : k < 2 ^ 8
  pub whose : ordinal < 2 ^ 16

pub data Fitting : Verdict → Type 0 where
  accepting : (t : Totals) → Fitting (accepted t)
  refusing : (ordinal n : ℕ) (at : RecordNo) (k : ℕ) → 0 < n → NearRefusal ordinal n at k
      → Fitting (refused_within ordinal n at k)

fits : (n k : ℕ) → Near n k → (t : Track) → t.records.0 ≤ MOST-RECORDS → Fitting (refused n (record_of t.records) k)
fits n k h t few =
    let x = h.number in
    let y = h.column in
    refusing 0 n (record_of t.records) k h.some
    (record { number = omega arith; «record» = omega arith; column = omega arith; whose = omega arith })

end_fits : (c : Context) → Bounded c.track → Fitting (end_of c)
unfolding end_of
end_fits c b =
    either_way Fitting (is_done c.phase) _ _ (accepting c.track.totals)
    (fits 16 0 (record { some = omega arith; number = omega arith; column = omega arith }) c.track b.records)

walk-fits : (rs : List (List ℕ)) (c : Context) (i : ℕ) → Bounded c.track
    → c.track.records.0 + length rs ≤ MOST-RECORDS → Fitting (walk turn_of end_of c i rs)
unfolding walk turn_of turn_as context_after
walk-fits [] c i b few = end_fits c b
walk-fits (r ∷ rs) c i b few =
    by-fault (fault_of c.track c.seen role (fields_of r) r) refl
    (λ d f m. walk-fits rs d (i + 1) f (omega arith))
  where
    role : ℕ
    role = role_of c r

    next : Context
    next = context_after c role (fields_of r) r

    follows : Follows c.track next.track
    follows = track-follows c.track b (omega arith) role (fields_of r) r

    by-fault : (x : Checked) → fault_of c.track c.seen role (fields_of r) r ≡ x
        → ((d : Context) → Bounded d.track → d.track.records.0 ≡ c.track.records.0 + 1
        → Fitting (walk turn_of end_of d (i + 1) rs))
        → Fitting (after (on_fault (record_of c.track.records) x next) (λ d. walk turn_of end_of d (i + 1) rs))
    by-fault (Ok u) e rest = rest next follows.bounded follows.records
    by-fault (Err fault) e rest =
        fits fault.number fault.column (near-fault c.track c.seen role (fields_of r) r fault.number fault.column e) c.track b.records

-- every verdict fits
pub judge-fits : (s : List ℕ) → Fitting (judge_of s)
unfolding judge_of
judge-fits s = by-test (length_good (length s)) refl
  where
    by-test : (b : Bool) → length_good (length s) ≡ b
        → Fitting
        (cond b (walk turn_of end_of start_context 0 (blocks 81 (length s / 81) s)) (refused 1 (record { 0 = 0 }) 0))
    by-test true e =
        let n = (whole-records (length s) e).1 in
        walk-fits (blocks 81 (length s / 81) s) start_context 0 (omega arith)
        (rw (length-blocks 81 (length s / 81) s) (omega arith))
    by-test false e =
        refusing 0 1 (record { 0 = 0 }) 0 (omega arith)
        (record { number = omega arith; «record» = omega arith; column = omega arith; whose = omega arith })
