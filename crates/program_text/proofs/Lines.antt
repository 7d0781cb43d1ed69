-- Bytes of a line, and the number in its columns, one column after the other.
-- Assumes nothing.
use Prim.Native.Nat.{ℕ, zero, suc, ◌+◌, ◌-◌, ◌≤◌, ◌<◌}
use mathlib.Core.Path.{◌≡◌, refl}
use mathlib.Core.List.{List, [], ◌∷◌}
use native.Mathlib.Nat.{le_of_suc-le-suc, not-suc-le-zero}
use native.Mathlib.Omega.{arith}
use lib.ListN.{length, get_or}
use Rattle.program_text.specs.Line.{byte_at, with_digit, number_over}

-- inside a line it does not matter what is said of the bytes past its end
pub within : (s : List ℕ) (i d e : ℕ) → i < length s → get_or s i d ≡ get_or s i e
within [] i d e h = absurd (not-suc-le-zero h)
within (x ∷ xs) zero d e h = refl
within (x ∷ xs) (suc i) d e h = within xs i d e (le_of_suc-le-suc h)

-- no column
pub none : (s : List ℕ) (from : ℕ) → 0 ≡ number_over s from (from - from)
unfolding number_over
none s from =
    let e : from - from ≡ 0 = omega arith in
    rw e refl

next : (s : List ℕ) (from k n b : ℕ) → n ≡ number_over s from k → b ≡ byte_at s (from + k)
    → with_digit n b ≡ number_over s from (suc k)
unfolding number_over
next s from k n b e f = rw (e, f) refl

-- one column more
pub one_more : (s : List ℕ) (from i n b : ℕ) → from ≤ i → n ≡ number_over s from (i - from) → b ≡ byte_at s i
    → with_digit n b ≡ number_over s from (i + 1 - from)
one_more s from i n b h e f =
    let k : i + 1 - from ≡ suc (i - from) = omega arith in
    let j : from + (i - from) ≡ i = omega arith in
    rw k (next s from (i - from) n b e (rw j f))
