-- A record that the entry has.
-- Assumes nothing.
use Prim.Native.Nat.{ℕ, ◌*◌, ◌≤◌}
use mathlib.Core.Path.{◌≡◌, refl}
use mathlib.Core.Bool.{Bool, true, false, not, ◌&&◌}
use mathlib.Core.List.{List}
use native.Mathlib.Omega.{arith}
use lib.Dec.{eqb, leb}
use lib.ListN.{length}
use borrow.Author.Tests.{eqb-false, leb-true}
use Rattle.paper_record.specs.declared.types.RecordNo.{RecordNo}
use Rattle.paper_questions.specs.Place.{has_record}

pub record-there : (s : List ℕ) (at : RecordNo) → has_record s at ≡ true → (1 ≤ at.0) × (at.0 * 81 ≤ length s)
record-there s at e = by-test (eqb at.0 0) refl (leb (at.0 * 81) (length s)) refl e
  where
    by-test : (a : Bool) → eqb at.0 0 ≡ a → (b : Bool) → leb (at.0 * 81) (length s) ≡ b
        → (not a && b) ≡ true → (1 ≤ at.0) × (at.0 * 81 ≤ length s)
    by-test true p b q h = absurd (let z : ◌≡◌ {A = ℕ} 0 1 = cc in omega arith)
    by-test false p true q h =
        let n = eqb-false at.0 0 p in
        (omega (arith, n), leb-true (at.0 * 81) (length s) q)
    by-test false p false q h = absurd (let z : ◌≡◌ {A = ℕ} 0 1 = cc in omega arith)
