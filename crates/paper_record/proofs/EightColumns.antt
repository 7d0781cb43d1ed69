-- Equal columns have equal numbers.
-- Assumes nothing.
use Prim.Native.Nat.{ℕ, ◌+◌, ◌<◌}
use mathlib.Core.Path.{◌≡◌, ◌∙◌}
use mathlib.Core.Bool.{true}
use mathlib.Core.List.{List}
use native.Mathlib.Omega.{arith}
use native.Mathlib.Nat.{add-zero}
use lib.ListN.{get_or, drop}
use lib.Seq.{get_or-take, get_or-drop}
use Rattle.paper_record.specs.Columns.{columns_at}
use Rattle.paper_record.specs.Word.{equal_to, four_at, eight_at}
use Rattle.paper_record.proofs.EqualColumns.{equal-at}

-- w columns of one part from i on, and of another from j on, are equal
abbrev Same : List ℕ → List ℕ → ℕ → ℕ → ℕ → Type 0
Same f p i j w = (k : ℕ) → k < w → get_or f (i + k) 0 ≡ get_or p (j + k) 0

same_from : (f p : List ℕ) (i j n w : ℕ) → Same f p i j (n + w) → Same f p (i + n) (j + n) w
same_from f p i j n w h k l =
    let y : i + n + k ≡ i + (n + k) = omega arith in
    let z : j + n + k ≡ j + (n + k) = omega arith in
    rw (y, z) (h (n + k) (omega arith))

same_first : (f p : List ℕ) (i j n w : ℕ) → Same f p i j (n + w) → Same f p i j n
same_first f p i j n w h k l = h k (omega arith)

four_same : (f p : List ℕ) (i j : ℕ) → Same f p i j 4 → four_at f i ≡ four_at p j
four_same f p i j h =
    let a : get_or f i 0 ≡ get_or p j 0 = rw (add-zero i, add-zero j) at (h 0 (omega arith)) in
    rw (a, h 1 (omega arith), h 2 (omega arith), h 3 (omega arith))

eight-same : (f p : List ℕ) (i j : ℕ) → Same f p i j 8 → eight_at f i ≡ eight_at p j
unfolding eight_at
eight-same f p i j h =
    rw (four_same f p i j (same_first f p i j 4 4 h), four_same f p (i + 4) (j + 4) (same_from f p i j 4 4 h))

-- a keyword that stands in a part has the number of its columns 3 to 10 there
pub eight-equal : (f p : List ℕ) (at : ℕ) → equal_to 10 f (columns_at at 11 p) ≡ true → eight_at f 2 ≡ eight_at p (at + 2)
eight-equal f p at e =
    eight-same f p 2 (at + 2)
    (λ k l.
    let z : at + 2 + k ≡ at + (2 + k) = omega arith in
    rw z
    (equal-at 10 f (columns_at at 11 p) e (2 + k) (omega arith) ∙ get_or-take 11 (drop at p) (2 + k) 0 (omega arith)
    ∙ get_or-drop at p (2 + k) 0))
