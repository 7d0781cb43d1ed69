-- A number that columns say stays small: no byte says more than 207 = 9 * 23, so i columns say at most
-- 23 * (10 ^ i - 1).
-- Assumes nothing.
use Prim.Native.Nat.{ℕ, ◌+◌, ◌*◌, ◌^◌, ◌≤◌}
use mathlib.Core.Path.{◌≡◌}
use native.Mathlib.Omega.{arith}
use native.Mathlib.Nat.{pow-suc, pow-le-pow_right, zero-lt-suc}
use native.Mathlib.Numerals.{add-one}

pub one_more : (n d i : ℕ) → n + 23 ≤ 23 * 10 ^ i → d ≤ 207 → n * 10 + d + 23 ≤ 23 * 10 ^ (i + 1)
one_more n d i h k = let e : 10 ^ (i + 1) ≡ 10 ^ i * 10 = rw add-one (pow-suc 10 i) in omega (arith, e)

pub eleven-below : (n i : ℕ) → n + 23 ≤ 23 * 10 ^ i → i ≤ 11 → n ≤ 2299999999977
eleven-below n i h l = let p : 10 ^ i ≤ 10 ^ 11 = pow-le-pow_right (zero-lt-suc 9) l in omega (arith, p)
