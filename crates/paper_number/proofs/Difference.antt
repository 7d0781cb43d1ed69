-- A difference of two sizes below 2 ^ 31 as the code makes it, through bits.
-- Assumes nothing.
use mathlib.Core.Path.{◌≡◌}
use Prim.Native.Nat.{ℕ, ◌<◌, ◌^◌}
use native.Mathlib.Omega.{arith}
use lib.IntN.{pos, ◌-ℤ◌}
use mir.Syntax.{w32}
use mir.Val.{SFits, to_z, of_z}
use mir.ValLaws.{to_z-of_z, to_z_pos}
use Rattle.paper_number.proofs.Sums.{diff-size}

module _ (a b : ℕ) (ha : a < 2 ^ 31) (hb : b < 2 ^ 31) where
  pub diff-fits : SFits w32 (pos a -ℤ pos b)
  diff-fits = record { sfits = diff-size a b (2 ^ 31) ha (omega arith) }

  pub diff-flat : to_z w32 (of_z w32 (pos a -ℤ pos b)) ≡ pos a -ℤ pos b
  diff-flat = to_z-of_z w32 (pos a -ℤ pos b) diff-fits

  pub diff-made : to_z w32 (of_z w32 (to_z w32 a -ℤ to_z w32 b)) ≡ pos a -ℤ pos b
  diff-made = rw (to_z_pos w32 a ha, to_z_pos w32 b hb) diff-flat
