-- An accepted entry, record by record: each turn goes on from the context before a record to the one behind it, and the
-- last phase is Done.
-- Assumes nothing.
use Prim.Native.Nat.{ℕ, zero, suc, ◌+◌, ◌*◌, ◌-◌, ◌/◌, ◌<◌, ◌≤◌}
use mathlib.Core.Path.{◌≡◌, sym, ◌∙◌, ap, subst}
use mathlib.Core.Bool.{true}
use mathlib.Core.List.{List}
use native.Mathlib.Omega.{arith}
use native.Mathlib.Nat.{zero-mul}
use native.Mathlib.Numerals.{add-one}
use lib.ListN.{length, take, drop}
use Rattle.laws.specs.Turns.{go}
use Rattle.laws.specs.Walk.{walk, Goes}
use Rattle.laws.specs.Blocks.{blocks, block_at}
use Rattle.laws.proofs.Walk.{walk-goes, goes-walk}
use Rattle.laws.proofs.Blocks.{next-block}
use Rattle.paper_rules.specs.State.{Context, start_context}
use Rattle.paper_entry.specs.declared.types.Verdict.{Verdict}
use Rattle.paper_entry.specs.Judging.{turn_of, end_of, judge_of, Accepted}
use Rattle.paper_entry.specs.Verdict.{is_done, length_good}
use Rattle.paper_entry.specs.Contexts.{behind, context_at}
use Rattle.entry_walk.proofs.Contexts.{context-start}
use Rattle.entry_walk.proofs.GoingOn.{go-fine, out-refused, done-of}
use Rattle.paper_entry.proofs.Lengths.{accepted-good}

-- one block more
one-turn : (m : ℕ) (c : Context) (i : ℕ) (t : List ℕ) (last : Context) → Goes turn_of c i (blocks 81 (suc m) t) last
    → (turn_of c i (take 81 t) ≡ go (behind c (take 81 t)))
    × Goes turn_of (behind c (take 81 t)) (i + 1) (blocks 81 m (drop 81 t)) last
unfolding blocks
one-turn m c i t last g =
    let f = go-fine c i (take 81 t) g.0 g.1 in (
      g.1 ∙ ap go (sym f.1),
      subst (λ (x : Context). Goes turn_of x (i + 1) (blocks 81 m (drop 81 t)) last) (sym f.1) g.2,
    )

none_left : (c : Context) (i : ℕ) (t : List ℕ) (last : Context) → Goes turn_of c i (blocks 81 0 t) last → c ≡ last
unfolding blocks
none_left c i t last g = g

module _ (s : List ℕ) (n : ℕ) (last : Context) (goes : Goes turn_of start_context 0 (blocks 81 n s) last) where
  abbrev rest : ℕ → List (List ℕ)
  rest i = blocks 81 (n - i) (drop (i * 81) s)

  here : (i : ℕ) → i < n → Goes turn_of (context_at s i) i (rest i) last
      → (turn_of (context_at s i) i (block_at 81 s i) ≡ go (context_at s (suc i)))
      × Goes turn_of (context_at s (suc i)) (suc i) (rest (suc i)) last
  unfolding context_at
  here i h g =
      let z : n - i ≡ suc (n - (i + 1)) = omega arith in
      let (a, b) = one-turn (n - (i + 1)) (context_at s i) i (drop (i * 81) s) last (rw z at g) in
      (a, rw (add-one i) at (rw (next-block 81 i s) at b))

  goes-from : (i : ℕ) → i ≤ n → Goes turn_of (context_at s i) i (rest i) last
  goes-from zero h = let z : n - 0 ≡ n = omega arith in rw (context-start s, z, zero-mul 81) goes
  goes-from (suc i) h = (here i (omega arith) (goes-from i (omega arith))).1

  turns_at : (i : ℕ) → i < n → turn_of (context_at s i) i (block_at 81 s i) ≡ go (context_at s (suc i))
  turns_at i h = (here i h (goes-from i (omega arith))).0

  ends_at : context_at s n ≡ last
  ends_at =
      let z : n - n ≡ 0 = omega arith in
      none_left (context_at s n) n (drop (n * 81) s) last (rw z at (goes-from n (omega arith)))

-- the verdict on an entry of a good length is the walk's
walk-judged : (s : List ℕ) → length_good (length s) ≡ true
    → walk turn_of end_of start_context 0 (blocks 81 (length s / 81) s) ≡ judge_of s
unfolding judge_of
walk-judged s e = rw e

-- every turn of an accepted entry goes on
module _ (s : List ℕ) (a : Accepted s) where
  walk-accepted : (walk turn_of end_of start_context 0 (blocks 81 (length s / 81) s)).refusal ≡ 0
  walk-accepted = ap (λ (v : Verdict). v.refusal) (walk-judged s (accepted-good s a)) ∙ a

  pub accepted-goes : (z : Context) × Goes turn_of start_context 0 (blocks 81 (length s / 81) s) z
  accepted-goes =
      walk-goes turn_of (λ v. v.refusal ≡ 0) out-refused end_of start_context 0 (blocks 81 (length s / 81) s)
      walk-accepted

-- an accepted entry has n records, each turn goes on, and the last phase is Done
pub record Walked (s : List ℕ) (n : ℕ) : Type 0 where
  pub turns : (i : ℕ) → i < n → turn_of (context_at s i) i (block_at 81 s i) ≡ go (context_at s (suc i))
  pub done : is_done (context_at s n).phase ≡ true

pub walked : (s : List ℕ) → Accepted s → Walked s (length s / 81)
walked s a =
    let n = length s / 81 in
    let (z, g) = accepted-goes s a in
    let w = goes-walk turn_of end_of start_context 0 (blocks 81 n s) z g in
    record {
      turns = turns_at s n z g;
      done = rw (ends_at s n z g) (done-of z (ap (λ (v : Verdict). v.refusal) (sym w) ∙ walk-accepted s a));
    }
