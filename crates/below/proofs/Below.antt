-- The refusal depends on nothing below it: what is first in one input is first in each that agrees with it up to there.
-- Assumes nothing.
use Prim.Native.Nat.{ℕ, ◌+◌, ◌<◌, ◌≤◌}
use mathlib.Core.Path.{◌≡◌, refl, sym, ap, subst}
use mathlib.Core.Bool.{Bool, true, false, ◌&&◌, ◌||◌}
use mathlib.Core.List.{List, ◌++◌}
use mathlib.Core.Logic.{inl, inr}
use native.Mathlib.Omega.{arith}
use borrow.Author.Tests.{eqb-true, leb-true}
use lib.Dec.{T, eqb, leb}
use lib.ListN.{length, get_or, replicate}
use Rattle.laws.specs.Blocks.{block_at}
use Rattle.laws.proofs.Table.{at}
use Rattle.paper_rules.specs.State.{Context}
use Rattle.paper_faults.specs.Fault.{Finding}
use Rattle.paper_faults.specs.Least.{no_finding, Least}
use Rattle.paper_entry.specs.declared.types.Verdict.{Verdict}
use Rattle.paper_entry.specs.Verdict.{refused}
use Rattle.paper_entry.specs.Judging.{judge_of}
use Rattle.paper_entry.specs.Contexts.{context_at}
use Rattle.entry_walk.specs.First.{found_in, FirstAt, First, by_length, by_record, by_end, by_none}
use Rattle.entry_walk.proofs.FirstRefused.{refused_first}
use Rattle.entry_walk.proofs.FirstAlone.{first_alone}
use Rattle.below.specs.Below.{AtRecord, Agrees, RecordsWhole, NothingBelow, AddedKept, NoneLeftOut}
use Rattle.below.proofs.Agree.{found-agree, nothing-agree, there-too, added-agree, length-exactly}

-- ---- the refusals at a record

pub from-two : (n : ℕ) → AtRecord n → (2 ≤ n) × (n ≡ 16 → ⊥)
from-two n (inl h) = (h.0, λ e. let z = h.1 in omega arith)
from-two n (inr h) = (omega arith, λ e. omega arith)

-- where such a refusal is first, and what is
pub record RefusedAt (s : List ℕ) (v : Verdict) : Type 0 where
  pub index : ℕ
  pub number : ℕ
  pub column : ℕ
  pub first : FirstAt s index number column
  pub said : v ≡ refused number (record { 0 = index + 1 }) column

refused-at : (s : List ℕ) (v : Verdict) → First s v → AtRecord v.refusal → RefusedAt s v
refused-at s v (by_length e) h = let z = (from-two 1 h).0 in absurd (omega arith)
refused-at s v (by_record i n k a) h = record { index = i; number = n; column = k; first = a; said = refl }
refused-at s v (by_end a e) h = absurd ((from-two 16 h).1 refl)
refused-at s v (by_none a e) h = let z = (from-two 0 h).0 in absurd (omega arith)

pub judge-refused : (s : List ℕ) → AtRecord (judge_of s).refusal → RefusedAt s (judge_of s)
judge-refused s h = refused-at s (judge_of s) (refused_first s) h

-- ---- nothing below

pub first-agree : (s t : List ℕ) (i n k : ℕ) → FirstAt s i n k → RecordsWhole (length t) → Agrees (i + 1) s t
    → FirstAt t i n k
first-agree s t i n k a whole agrees =
    record {
      length-good = (length-exactly (length t)).1 whole;
      there = there-too s t i a.there (agrees i (omega arith));
      earlier = nothing-agree i s t (λ j l. agrees j (omega arith)) a.earlier;
      least = subst (λ (fs : List Finding). Least fs n k) (sym (found-agree (i + 1) s t agrees i (omega arith)))
          a.least;
    }

pub nothing-below : NothingBelow
nothing-below s t h whole agrees =
    let r = judge-refused s h in
    let same : Agrees (r.index + 1) s t =
    subst (λ (v : Verdict). Agrees v.«record».0 s t) r.said agrees in
    rw r.said
    (sym (first_alone t (refused r.number (record { 0 = r.index + 1 }) r.column)
    (by_record r.index r.number r.column
    (first-agree s t r.index r.number r.column r.first whole same))))

pub added-kept : AddedKept
added-kept s x h whole =
    let r = judge-refused s h in
    let there = r.first.there in
    let e : (judge_of s).«record».0 ≡ r.index + 1 = ap (λ (v : Verdict). v.«record».0) r.said in
    nothing-below s (s ++ x) h whole (added-agree s x (judge_of s).«record».0 (omega arith))

-- ---- no number is left out

abbrev at_record : ℕ → Bool
at_record n = (leb 2 n && leb n 15) || eqb n 17

at-record : (n : ℕ) → T (at_record n) → AtRecord n
at-record n t = by_tests (leb 2 n) refl (leb n 15) refl (eqb n 17) refl t
  where
    by_tests : (a : Bool) → leb 2 n ≡ a → (b : Bool) → leb n 15 ≡ b → (c : Bool) → eqb n 17 ≡ c
        → T ((a && b) || c) → AtRecord n
    by_tests true p true q c r t = inl (leb-true 2 n p, leb-true n 15 q)
    by_tests true p false q true r t = inr (eqb-true n 17 r)
    by_tests true p false q false r t = absurd t
    by_tests false p b q true r t = inr (eqb-true n 17 r)
    by_tests false p b q false r t = absurd t

-- the numbers of the table, by computing the test for each; the table of zeros stands for their places
numbered : (c : Context) (r : List ℕ) (i : ℕ) → i < 15 → AtRecord (get_or (found_in c r) i no_finding).number
numbered c r i h =
    at-record (get_or (found_in c r) i no_finding).number
    (at (λ k x. at_record (get_or (found_in c r) k no_finding).number) (replicate 15 0) tt i h)

pub least-numbered : (c : Context) (r : List ℕ) (n k : ℕ) → Least (found_in c r) n k → AtRecord n
least-numbered c r n k l = subst AtRecord l.number (numbered c r l.at l.there)

left_out : (s : List ℕ) (v : Verdict) → First s v → (v.refusal ≡ 0 → ⊥) → (v.refusal ≡ 1 → ⊥)
    → (v.refusal ≡ 16 → ⊥) → AtRecord v.refusal
left_out s v (by_length e) a b c = absurd (b refl)
left_out s v (by_record i n k f) a b c = least-numbered (context_at s i) (block_at 81 s i) n k f.least
left_out s v (by_end f e) a b c = absurd (c refl)
left_out s v (by_none f e) a b c = absurd (a refl)

pub none-left-out : NoneLeftOut
none-left-out s a b c = left_out s (judge_of s) (refused_first s) a b c
