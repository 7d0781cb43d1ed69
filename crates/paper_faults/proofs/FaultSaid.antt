-- What is answered, exactly: 0 0 where the rules find nothing, else the least that they find. There is one least at most.
-- Assumes nothing.
use Rattle.std.specs.Prelude.{Ok, Err}
use Prim.Native.Nat.{ℕ, ◌<◌, ◌≤◌}
use mathlib.Core.Path.{◌≡◌, refl, sym, ap, ◌∙◌}
use mathlib.Core.List.{List, [], ◌∷◌}
use mathlib.Core.Logic.{◌↔◌, inl, inr}
use native.Mathlib.Omega.{arith}
use lib.ListN.{length, get_or}
use Rattle.laws.proofs.Walk.{all-at}
use Rattle.paper_faults.specs.Fault.{leftmost, FaultAnswer, fault_answer, Finding, first_fault, Checked, fault_at, faultless}
use Rattle.paper_faults.specs.Least.{Before, no_finding, Least, Nothing, FaultSaid, no_fault, a_fault}
use Rattle.paper_faults.specs.Rising.{Sorted}
use Rattle.paper_faults.proofs.Least.{first-least, first-none, Empty}

-- where something is the least, something is found
pub some-found : (fs : List Finding) (n k : ℕ) → Least fs n k → Nothing fs → ⊥
some-found fs n k l none =
    let h = l.some in
    let z : 0 ≡ k = sym (ap leftmost (none l.at l.there)) ∙ l.column in
    omega arith

leftmost-first : (ks : List ℕ) (k : ℕ) → 1 ≤ k → leftmost ks ≡ k → (0 < length ks) × (get_or ks 0 0 ≡ k)
leftmost-first [] k h e = absurd (omega arith)
leftmost-first (c ∷ ks) k h e = (omega arith, e)

least-before : (fs : List Finding) (n k m j : ℕ) → Least fs n k → Least fs m j → Before n k m j
least-before fs n k m j a b =
    let (some, column) = leftmost-first (get_or fs b.at no_finding).columns j b.some b.column in
    rw (b.number, column) at (a.least b.at 0 b.there some)

pub both-before : (n k m j : ℕ) → Before n k m j → Before m j n k → (n ≡ m) × (k ≡ j)
both-before n k m j (inl a) (inl b) = absurd (omega arith)
both-before n k m j (inl a) (inr b) = let z = b.0 in absurd (omega arith)
both-before n k m j (inr a) (inl b) = let z = a.0 in absurd (omega arith)
both-before n k m j (inr a) (inr b) = let z = a.1 in let w = b.1 in (a.0, omega arith)

pub one-least : (fs : List Finding) (n k m j : ℕ) → Least fs n k → Least fs m j → (n ≡ m) × (k ≡ j)
one-least fs n k m j a b = both-before n k m j (least-before fs n k m j a b) (least-before fs m j n k b a)

-- ---- of a table by rising numbers

module _ {most last a : ℕ} (fs : List Finding) (rising : Sorted most last a fs) where
  -- where there is no fault, no rule finds anything
  pub first-nothing : first_fault fs ≡ faultless → Nothing fs
  first-nothing e = all-at Empty no_finding fs (first-none a fs rising e)

  -- and the other way round
  pub nothing-first : Nothing fs → first_fault fs ≡ faultless
  nothing-first none = by-fault (first_fault fs) refl
    where
      by-fault : (x : Checked) → first_fault fs ≡ x → first_fault fs ≡ faultless
      by-fault (Ok u) e = e
      by-fault (Err fault) e = absurd (some-found fs fault.number fault.column (first-least a fs rising fault.number fault.column e) none)

  -- the least that is found is the fault
  pub least_first : (n k : ℕ) → Least fs n k → first_fault fs ≡ fault_at n k
  least_first n k l = by-fault (first_fault fs) refl
    where
      by-fault : (x : Checked) → first_fault fs ≡ x → first_fault fs ≡ fault_at n k
      by-fault (Ok u) e = absurd (some-found fs n k l (first-nothing e))
      by-fault (Err fault) e = let (p, q) = one-least fs fault.number fault.column n k (first-least a fs rising fault.number fault.column e) l in rw (← p, ← q) e

  answered : (x : Checked) → first_fault fs ≡ x → FaultSaid fs (fault_answer x)
  answered (Ok u) e = no_fault (first-nothing e)
  answered (Err fault) e = a_fault fault.number fault.column (first-least a fs rising fault.number fault.column e)

  said : {x : FaultAnswer} → FaultSaid fs x → fault_answer (first_fault fs) ≡ x
  said (no_fault none) = ap fault_answer (nothing-first none)
  said (a_fault n k l) = ap fault_answer (least_first n k l)

  -- the answer of the first fault is what is said of the findings, and nothing else is
  pub first-exactly : (x : FaultAnswer) → (fault_answer (first_fault fs) ≡ x) ↔ FaultSaid fs x
  first-exactly x = (λ e. rw e at (answered (first_fault fs) refl), said)
