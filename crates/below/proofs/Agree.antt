-- Two inputs that agree in their first records: the same context stands before each of these, and the same is found on
-- it. And where inputs agree: behind records that are added, and in a part that is cut off.
-- Assumes nothing.
use Prim.Native.Nat.{ℕ, zero, suc, ◌+◌, ◌*◌, ◌/◌, ◌%◌, ◌<◌, ◌≤◌}
use mathlib.Core.Path.{◌≡◌, sym, ◌∙◌, ap, subst}
use mathlib.Core.Bool.{true, not, ◌&&◌}
use mathlib.Core.List.{List, ◌++◌}
use native.Mathlib.Omega.{arith}
use borrow.Author.Tests.{eqb-false, not-true}
use lib.Dec.{eqb, leb}
use lib.ListN.{length, take, drop, length-take, length-drop, take-append-drop}
use lib.Seq.{length-take-le, drop-append-le, take-append-le}
use Rattle.laws.specs.Blocks.{block_at}
use Rattle.laws.proofs.Booleans.{and_left}
use Rattle.paper_rules.specs.State.{Context}
use Rattle.paper_rules.specs.Limits.{MOST-RECORDS}
use Rattle.paper_faults.specs.Fault.{Finding}
use Rattle.paper_faults.specs.Least.{Nothing}
use Rattle.paper_entry.specs.Verdict.{length_good}
use Rattle.paper_entry.specs.Contexts.{behind, context_at}
use Rattle.entry_walk.specs.First.{found_in, NothingBefore}
use Rattle.entry_walk.proofs.Contexts.{context-start, context-after}
use Rattle.paper_entry.proofs.Lengths.{whole-records, of-whole}
use Rattle.below.specs.Below.{Agrees, LengthExactly, ContextsAgree, FoundAgree}

-- ---- contexts and what is found

pub contexts-agree : ContextsAgree
contexts-agree r s t agrees zero h = context-start t ∙ sym (context-start s)
contexts-agree r s t agrees (suc i) h =
    context-after t i
    ∙ ap (λ (c : Context). behind c (block_at 81 t i)) (contexts-agree r s t agrees i (omega arith))
    ∙ ap (λ (x : List ℕ). behind (context_at s i) x) (agrees i (omega arith))
    ∙ sym (context-after s i)

pub found-agree : FoundAgree
found-agree r s t agrees i h =
    ap (λ (c : Context). found_in c (block_at 81 t i)) (contexts-agree r s t agrees i (omega arith))
    ∙ ap (λ (x : List ℕ). found_in (context_at s i) x) (agrees i (omega arith))

pub nothing-agree : (r : ℕ) (s t : List ℕ) → Agrees r s t → NothingBefore s r → NothingBefore t r
nothing-agree r s t agrees none j l =
    subst (λ (fs : List Finding). Nothing fs) (sym (found-agree r s t agrees j l)) (none j l)

-- a record that both have
pub there-too : (s t : List ℕ) (i : ℕ) → i < length s / 81 → block_at 81 t i ≡ block_at 81 s i → i < length t / 81
there-too s t i h e =
    let w : length (block_at 81 s i) ≡ 81 = length-take-le 81 (drop (i * 81) s) (simp length-drop (omega arith)) in
    let z : length (take 81 (drop (i * 81) t)) ≡ 81 = ap length e ∙ w in
    let y = rw (length-take, length-drop) at z in
    omega arith

-- ---- records added, records cut off

pub added-agree : (s x : List ℕ) (n : ℕ) → n * 81 ≤ length s → Agrees n s (s ++ x)
added-agree s x n long i h =
    ap (take 81) (drop-append-le (i * 81) s x (omega arith))
    ∙ take-append-le 81 (drop (i * 81) s) x (simp length-drop (omega arith))

pub cut-agree : (s : List ℕ) (n : ℕ) → n * 81 ≤ length s → Agrees n s (take (n * 81) s)
cut-agree s n long i h =
    let whole : n * 81 ≤ length (take (n * 81) s) = rw (length-take-le (n * 81) s long) (omega arith) in
    let e = added-agree (take (n * 81) s) (drop (n * 81) s) n whole i h in
    sym e ∙ ap (λ (x : List ℕ). block_at 81 x i) (take-append-drop (n * 81) s)

-- ---- 1 to 20,000 whole records

some_bytes : (n : ℕ) → length_good n ≡ true → n ≡ 0 → ⊥
unfolding length_good
some_bytes n e =
    eqb-false n 0 (not-true (eqb n 0) (and_left (not (eqb n 0)) (eqb (n % 81) 0 && leb n (MOST-RECORDS * 81)) e))

some-record : (n k : ℕ) → (n ≡ 0 → ⊥) → n ≡ k * 81 → 1 ≤ k
some-record n zero h e = absurd (h (omega arith))
some-record n (suc k) h e = omega arith

pub length-exactly : LengthExactly
length-exactly n = (
  λ e.
      let w = whole-records n e in
      record { records = n / 81; some = some-record n (n / 81) (some_bytes n e) w.0; most = w.1; whole = w.0 },
  λ w. of-whole n w.records w.whole w.some w.most,
)
