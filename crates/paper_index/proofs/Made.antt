-- What making an index answers and leaves, by its cases.
-- Assumes nothing.
use Prim.Native.Nat.{ℕ, ◌*◌, ◌≤◌}
use mathlib.Core.Path.{◌≡◌, refl, sym, ap}
use mathlib.Core.Bool.{Bool, true, false, cond, not}
use mathlib.Core.List.{List}
use native.Mathlib.Omega.{arith}
use borrow.Author.Tests.{eq-eqb, ne_eqb, eqb-true, ltb-false}
use lib.Dec.{eqb, ltb}
use lib.ListN.{length}
use Rattle.paper_entry.specs.Judging.{judge_of, Accepted}
use Rattle.paper_index.specs.Rows.{index_of}
use Rattle.paper_index.specs.Making.{rows_in, making_refusal, over, stored_index}

module _ (s t : List ℕ) where
  -- refused: nothing is stored
  pub nothing_stored : (making_refusal s (length t) ≡ 0 → ⊥) → t ≡ stored_index s t
  unfolding stored_index
  nothing_stored h =
      let e : eqb (making_refusal s (length t)) 0 ≡ false = ne_eqb _ 0 h in
      sym (ap (λ (b : Bool). cond b (over (index_of s) t) t) e)

  -- not refused: the index, and behind it the numbers as they were
  pub index-stored : making_refusal s (length t) ≡ 0 → over (index_of s) t ≡ stored_index s t
  unfolding stored_index
  index-stored h =
      let e : eqb (making_refusal s (length t)) 0 ≡ true = eq-eqb _ 0 h in
      sym (ap (λ (b : Bool). cond b (over (index_of s) t) t) e)

  -- then the entry is accepted, and there is room for its rows
  pub stored-room : making_refusal s (length t) ≡ 0 → Accepted s × (5 * rows_in s ≤ length t)
  stored-room h = by_tests (eqb (judge_of s).refusal 0) refl (ltb (length t) (5 * rows_in s)) refl h
    where
      by_tests : (a : Bool) → eqb (judge_of s).refusal 0 ≡ a → (b : Bool) → ltb (length t) (5 * rows_in s) ≡ b
          → ◌≡◌ {A = ℕ} (cond (not a) 31 (cond b 38 0)) 0 → Accepted s × (5 * rows_in s ≤ length t)
      by_tests true p true q h = absurd (omega arith)
      by_tests true p false q h = (eqb-true (judge_of s).refusal 0 p, ltb-false (length t) (5 * rows_in s) q)
      by_tests false p b q h = absurd (omega arith)
