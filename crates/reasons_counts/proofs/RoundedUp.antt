-- Six columns to a record, rounded up: with a sum, and without one that may pass 64 bits. Assumes nothing.
use Prim.Native.Nat.{ℕ, ◌+◌, ◌*◌, ◌/◌, ◌%◌}
use mathlib.Core.Path.{◌≡◌, sym, ap}
use native.Mathlib.Omega.{arith}
use Rattle.paper_reasons.specs.declared.types.Facts.TheVariants.{Count}

rounded-up : (a : ℕ) → (a + 5) / 6 ≡ a / 6 + (a % 6 + 5) / 6
rounded-up a = omega arith

pub count-up : (a b : ℕ) → Count b (3 * (a / 6 + (a % 6 + 5) / 6)) ≡ Count b (3 * ((a + 5) / 6))
count-up a b = ap (λ (n : ℕ). Count b (3 * n)) (sym (rounded-up a))
