-- Lines written back: the answer in each case, and what the buffer then holds.
-- Assumes nothing.
use Prim.Native.Nat.{ℕ, ◌<◌, ◌≤◌}
use mathlib.Core.Path.{◌≡◌, refl, sym, ap, ◌∙◌}
use mathlib.Core.List.{List, ◌++◌}
use native.Mathlib.Omega.{arith}
use borrow.Author.Tests.{ne_eqb, le-leb, lt-leb}
use lib.ListN.{length, drop}
use Rattle.paper_cinda.specs.declared.types.LinesAnswer.{LinesAnswer}
use Rattle.paper_cinda.specs.Check.{said_of, check_of}
use Rattle.paper_cinda.specs.Back.{lines_back, written, stored}

-- ---- the answer

module _ (s : List ℕ) (room : ℕ) where
  pub when-good : (check_of s).number ≡ 0 → length s ≤ room → written s room ≡ said_of 0
  unfolding written
  when-good e h = rw (e, le-leb (length s) room h) refl

  pub when-short : (check_of s).number ≡ 0 → room < length s → written s room ≡ said_of 37
  unfolding written
  when-short e h = rw (e, lt-leb (length s) room h) refl

  pub when-refused : ((check_of s).number ≡ 0 → ⊥) → written s room ≡ check_of s
  unfolding written
  when-refused h = rw (ne_eqb (check_of s).number 0 h) refl

-- ---- the buffer

module _ (s out : List ℕ) where
  pub stored_lines : (check_of s).number ≡ 0 → length s ≤ length out → stored s out ≡ lines_back s ++ drop (length s) out
  unfolding stored
  stored_lines e h = rw (when-good s (length out) e h) refl

  -- "A refused call stores nothing" (document 01)
  pub stored-nothing : ((written s (length out)).number ≡ 0 → ⊥) → stored s out ≡ out
  unfolding stored
  stored-nothing h = rw (ne_eqb (written s (length out)).number 0 h) refl

  pub nothing-refused : ((check_of s).number ≡ 0 → ⊥) → stored s out ≡ out
  nothing-refused h = stored-nothing (rw (when-refused s (length out) h) h)

  pub nothing-short : (check_of s).number ≡ 0 → length out < length s → stored s out ≡ out
  nothing-short e h =
      stored-nothing
      (λ z.
      let w : 37 ≡ 0 = sym (ap (λ (a : LinesAnswer). a.number) (when-short s (length out) e h)) ∙ z in
      omega arith)
