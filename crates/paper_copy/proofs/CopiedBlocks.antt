-- The copy of an accepted entry by the index of its records: each is the entry's record as it is copied in the context
-- before it.
-- Assumes nothing.
use Prim.Native.Nat.{ℕ, zero, suc, ◌+◌, ◌*◌, ◌/◌, ◌<◌}
use mathlib.Core.Path.{◌≡◌, sym, ◌∙◌, ap}
use mathlib.Core.List.{List, []}
use native.Mathlib.Omega.{arith}
use native.Mathlib.Nat.{zero-mul}
use native.Mathlib.Numerals.{add-one}
use lib.ListN.{length, drop, get_or}
use Rattle.laws.specs.Blocks.{blocks, block_at}
use Rattle.laws.specs.Copies.{copies}
use Rattle.laws.proofs.Blocks.{block-at, next-block}
use Rattle.paper_rules.specs.State.{start_context}
use Rattle.paper_entry.specs.Judging.{turn_of, Accepted}
use Rattle.paper_entry.specs.Contexts.{context_at}
use Rattle.entry_walk.proofs.AcceptedWalk.{Walked, walked}
use Rattle.entry_walk.proofs.Contexts.{context-start}
use Rattle.paper_copy.specs.Copy.{copy_record, records_in, copy_of}
use Rattle.paper_copy.proofs.Demand.{passed, copy-long, copy-records}

module _ (s : List ℕ) (n : ℕ) (w : Walked s n) where
  copies-from : (j i : ℕ) → i + j ≡ n → (m : ℕ) → m < j
      → get_or (copies turn_of copy_record (context_at s i) i (blocks 81 j (drop (i * 81) s))) m []
      ≡ copy_record (context_at s (i + m)) (block_at 81 s (i + m))
  unfolding copies blocks
  copies-from zero i e m l = absurd (omega arith)
  copies-from (suc j) i e zero l = let z : i + 0 ≡ i = omega arith in rw z
  copies-from (suc j) i e (suc m) l =
      let z : suc i + m ≡ i + suc m = omega arith in
      rw (w.turns i (omega arith), next-block 81 i s, add-one i)
      (rw z at (copies-from j (suc i) (omega arith) m (omega arith)))

pub copied-block : (s : List ℕ) → Accepted s → (i : ℕ) → i < length s / 81
    → block_at 81 (copy_of s) i ≡ copy_record (context_at s i) (block_at 81 s i)
copied-block s accepted i l =
    let n = length s / 81 in
    let p = passed s accepted in
    let long = copy-long s p in
    let z : 0 + i ≡ i = omega arith in
    let there : get_or (copies turn_of copy_record start_context 0 (records_in s)) i []
    ≡ copy_record (context_at s i) (block_at 81 s i) =
    rw (zero-mul 81, context-start s, z) at (copies-from s n (walked s accepted) n 0 (omega arith) i l) in
    sym (block-at 81 (length (copy_of s) / 81) (copy_of s) i (rw long l))
    ∙ ap (λ (rs : List (List ℕ)). get_or rs i []) (copy-records s p)
    ∙ there
