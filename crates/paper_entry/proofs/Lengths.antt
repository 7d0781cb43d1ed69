-- How long an entry is: whole records, at most so many; and an accepted one is. Assumes nothing.
use Prim.Native.Nat.{ℕ, ◌*◌, ◌/◌, ◌%◌, ◌≤◌}
use mathlib.Core.Path.{◌≡◌, refl}
use mathlib.Core.Bool.{Bool, true, false, cond, not, ◌&&◌}
use mathlib.Core.List.{List}
use native.Mathlib.Omega.{arith}
use borrow.Author.Tests.{eqb-true, leb-true, ne_eqb, eq-eqb, le-leb}
use lib.Dec.{eqb, leb}
use lib.ListN.{length}
use Rattle.laws.specs.Blocks.{blocks}
use Rattle.laws.specs.Walk.{walk}
use Rattle.paper_rules.specs.Limits.{MOST-RECORDS}
use Rattle.paper_rules.specs.State.{start_context}
use Rattle.paper_entry.specs.Verdict.{refused, length_good}
use Rattle.paper_entry.specs.Judging.{turn_of, end_of, judge_of, Accepted}

split : (a b c : Bool) → (not a && (b && c)) ≡ true → (b ≡ true) × (c ≡ true)
split false true true e = (refl, refl)
split false true false e = (refl, e)
split false false c e = let z : ◌≡◌ {A = ℕ} 0 1 = cc in absurd (omega arith)
split true b c e = let z : ◌≡◌ {A = ℕ} 0 1 = cc in absurd (omega arith)

-- a good length is that of so many whole records
pub whole-up-to : (most n : ℕ) → (not (eqb n 0) && (eqb (n % 81) 0 && leb n (most * 81))) ≡ true
    → (n ≡ n / 81 * 81) × (n / 81 ≤ most)
whole-up-to most n e =
    let p : (eqb (n % 81) 0 ≡ true) × (leb n (most * 81) ≡ true) =
    split (eqb n 0) (eqb (n % 81) 0) (leb n (most * 81)) e in
    let z : n % 81 ≡ 0 = eqb-true (n % 81) 0 p.0 in
    let w : n ≤ most * 81 = leb-true n (most * 81) p.1 in
    (omega arith, omega arith)

pub whole-records : (n : ℕ) → length_good n ≡ true → (n ≡ n / 81 * 81) × (n / 81 ≤ MOST-RECORDS)
unfolding length_good
whole-records n e = whole-up-to MOST-RECORDS n e

-- and the other way round
pub of-whole : (n m : ℕ) → n ≡ m * 81 → 1 ≤ m → m ≤ MOST-RECORDS → length_good n ≡ true
unfolding length_good
of-whole n m e l h =
    rw (ne_eqb n 0 (λ z. omega arith), eq-eqb (n % 81) 0 (omega arith), le-leb n (MOST-RECORDS * 81) (omega arith))

-- an accepted entry has a good length
pub accepted-good : (s : List ℕ) → Accepted s → length_good (length s) ≡ true
unfolding judge_of
accepted-good s a = by-test (length_good (length s)) a
  where
    by-test : (b : Bool)
        → (cond b (walk turn_of end_of start_context 0 (blocks 81 (length s / 81) s)) (refused 1 (record { 0 = 0 }) 0)
        ).refusal ≡ 0
        → b ≡ true
    by-test true h = refl
    by-test false h = absurd (omega arith)
