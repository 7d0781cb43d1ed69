-- "the lowest number; within that the leftmost column": the first fault of a table by rising numbers is the least of all
-- that its rules find, by number and then by column, and in the bounds of both; and there is none only where they find
-- nothing.
-- Assumes nothing.
use Prim.Native.Nat.{ℕ, zero, suc, ◌<◌, ◌≤◌}
use mathlib.Core.Path.{◌≡◌, refl, sym, ap}
use mathlib.Core.Bool.{Bool, true, false, cond}
use mathlib.Core.List.{List, [], ◌∷◌}
use mathlib.Core.Logic.{inl, inr}
use native.Mathlib.Omega.{arith}
use borrow.Author.Tests.{eqb-true, eqb-false}
use lib.Dec.{eqb}
use lib.ListN.{length, get_or}
use Rattle.laws.specs.Walk.{All}
use Rattle.paper_faults.specs.Fault.{Finding, first_fault, leftmost, fault_at, faultless, Checked, fault_answer}
use Rattle.paper_faults.specs.Least.{Before, no_finding, Least}
use Rattle.paper_faults.specs.Rising.{Rising, no-column, column, Sorted, no_more, also, Bounded}

-- ---- columns from left to right

rising-at : {last : ℕ} (a : ℕ) (ks : List ℕ) → Rising last a ks → (j : ℕ) → j < length ks → a ≤ get_or ks j 0
rising-at a [] no-column j h = absurd (omega arith)
rising-at a (k ∷ ks) (column l m r) zero h = l
rising-at a (k ∷ ks) (column l m r) (suc j) h = let n = rising-at k ks r j (omega arith) in omega arith

leftmost-least : {last : ℕ} (a : ℕ) (ks : List ℕ) → Rising last a ks → (j : ℕ) → j < length ks → leftmost ks ≤ get_or ks j 0
leftmost-least a [] no-column j h = absurd (omega arith)
leftmost-least a (k ∷ ks) (column l m r) zero h = omega arith
leftmost-least a (k ∷ ks) (column l m r) (suc j) h = rising-at k ks r j (omega arith)

-- no column is 0, so only where there is none is the leftmost 0
none_left : {last : ℕ} (ks : List ℕ) → Rising last 1 ks → leftmost ks ≡ 0 → ks ≡ []
none_left [] r e = refl
none_left (k ∷ ks) (column l m r) e = absurd (omega arith)

leftmost-most : {last : ℕ} (ks : List ℕ) → Rising last 1 ks → leftmost ks ≤ last
leftmost-most [] r = omega arith
leftmost-most (k ∷ ks) (column l m r) = m

-- ---- findings by rising numbers

sorted-most : {most last : ℕ} (a : ℕ) (fs : List Finding) → Sorted most last a fs → a ≤ most
sorted-most a [] (no_more h) = h
sorted-most a (f ∷ fs) (also l r s) = let h = sorted-most f.number fs s in omega arith

-- each has a number above a, up to the last, and its columns from left to right
record Placed (most last a : ℕ) (f : Finding) : Type 0 where
  above : a < f.number
  to_last : f.number ≤ most
  rising : Rising last 1 f.columns

sorted-at : {most last : ℕ} (a : ℕ) (fs : List Finding) → Sorted most last a fs → (i : ℕ) → i < length fs → Placed most last a (get_or fs i no_finding)
sorted-at a [] s i h = absurd (omega arith)
sorted-at a (f ∷ fs) (also l r s) zero h = record { above = l; to_last = sorted-most f.number fs s; rising = r }
sorted-at a (f ∷ fs) (also l r s) (suc i) h =
    let m = sorted-at f.number fs s i (omega arith) in
    record { above = let n = m.above in omega arith; to_last = m.to_last; rising = m.rising }

from_one : (a k : ℕ) → (a ≡ 0 → ⊥) → a ≡ k → 1 ≤ k
from_one zero k h e = absurd (h refl)
from_one (suc a) k h e = omega arith

-- one fault has one number and one column
pub same-fault : (n k m j : ℕ) → fault_at n k ≡ fault_at m j → (n ≡ m) × (k ≡ j)
same-fault n k m j e = (ap (λ (x : Checked). (fault_answer x).number) e, ap (λ (x : Checked). (fault_answer x).column) e)

-- the first fault of such a table is the least
pub first-least : {most last : ℕ} (a : ℕ) (fs : List Finding) → Sorted most last a fs → (n k : ℕ) → first_fault fs ≡ fault_at n k → Least fs n k
unfolding first_fault
first-least a [] s n k e = let z : ◌≡◌ {A = ℕ} 0 1 = cc in absurd (omega arith)
first-least a (f ∷ fs) (also low rising s) n k e =
    by-test (eqb (leftmost f.columns) 0) refl e (λ h. first-least f.number fs s n k h)
  where
    further : (i j : ℕ) → i < length (f ∷ fs) → j < length (get_or (f ∷ fs) i no_finding).columns → f.columns ≡ []
        → Least fs n k → Before n k (get_or (f ∷ fs) i no_finding).number (get_or (get_or (f ∷ fs) i no_finding).columns j 0)
    further zero j l m e rest = let z : length f.columns ≡ 0 = ap length e in absurd (omega arith)
    further (suc i) j l m e rest = rest.least i j (omega arith) m

    first : (i j : ℕ) → i < length (f ∷ fs) → j < length (get_or (f ∷ fs) i no_finding).columns
        → f.number ≡ n → leftmost f.columns ≡ k
        → Before n k (get_or (f ∷ fs) i no_finding).number (get_or (get_or (f ∷ fs) i no_finding).columns j 0)
    first zero j l m p c = let w = leftmost-least 1 f.columns rising j m in inr (sym p, omega arith)
    first (suc i) j l m p c = let w = (sorted-at f.number fs s i (omega arith)).above in inl (omega arith)

    by-test : (t : Bool) → eqb (leftmost f.columns) 0 ≡ t
        → cond t (first_fault fs) (fault_at f.number (leftmost f.columns)) ≡ fault_at n k
        → (first_fault fs ≡ fault_at n k → Least fs n k) → Least (f ∷ fs) n k
    by-test true q h next =
        let empty : f.columns ≡ [] = none_left f.columns rising (eqb-true (leftmost f.columns) 0 q) in
        let rest : Least fs n k = next h in
        record {
          at = suc rest.at;
          there = let l = rest.there in omega arith;
          number = rest.number;
          column = rest.column;
          some = rest.some;
          least = λ i j l m. further i j l m empty rest;
        }
    by-test false q h next =
        let (same_number, same-column) = same-fault f.number (leftmost f.columns) n k h in
        record {
          at = 0;
          there = omega arith;
          number = same_number;
          column = same-column;
          some = from_one (leftmost f.columns) k (eqb-false (leftmost f.columns) 0 q) same-column;
          least = λ i j l m. first i j l m same_number same-column;
        }

pub first-bounds : {most last : ℕ} (a : ℕ) (fs : List Finding) → Sorted most last a fs → (n k : ℕ) → Least fs n k
    → Bounded most last a n k
first-bounds a fs s n k l =
    let p = sorted-at a fs s l.at l.there in
    record {
      above = rw (← l.number) p.above;
      to_last = rw (← l.number) p.to_last;
      from_one = l.some;
      to_column = rw (← l.column) (leftmost-most (get_or fs l.at no_finding).columns p.rising);
    }

-- where no rule is broken, none has found a column
abbrev pub Empty : Finding → Type 0
Empty f = f.columns ≡ []

pub first-none : {most last : ℕ} (a : ℕ) (fs : List Finding) → Sorted most last a fs → first_fault fs ≡ faultless → All Empty fs
unfolding first_fault
first-none a [] s e = tt
first-none a (f ∷ fs) (also low rising s) e =
    by-test (eqb (leftmost f.columns) 0) refl e (first-none f.number fs s)
  where
    by-test : (t : Bool) → eqb (leftmost f.columns) 0 ≡ t
        → cond t (first_fault fs) (fault_at f.number (leftmost f.columns)) ≡ faultless
        → (first_fault fs ≡ faultless → All Empty fs) → Empty f × All Empty fs
    by-test true q e next = (none_left f.columns rising (eqb-true (leftmost f.columns) 0 q), next e)
    by-test false q e next = let z : ◌≡◌ {A = ℕ} 0 1 = cc in absurd (omega arith)

-- and the other way round
pub none_first : (fs : List Finding) → All Empty fs → first_fault fs ≡ faultless
unfolding first_fault
none_first [] h = refl
none_first (f ∷ fs) h = rw h.0 (none_first fs h.1)
