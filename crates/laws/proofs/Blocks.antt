-- Bytes and their blocks: cutting and joining undo one another, and a run over indices is a walk over blocks.
-- Assumes nothing.
use Prim.Native.Nat.{ℕ, zero, suc, ◌+◌, ◌*◌, ◌-◌, ◌<◌}
use mathlib.Core.Path.{◌≡◌, refl, sym, ◌∙◌, ap}
use mathlib.Core.List.{List, [], ◌∷◌}
use native.Mathlib.Omega.{arith}
use native.Mathlib.Nat.{zero-mul, suc-mul}
use lib.ListN.{length, take, drop, get_or, length-append, length-drop, take-append-drop}
use lib.Seq.{take_at, drop_at, drop-drop, length-take-le}
use Rattle.laws.specs.Turns.{Turn, go, out, after, run}
use Rattle.laws.specs.Walk.{walk, All}
use Rattle.laws.specs.Blocks.{blocks, block_at, joined}

length-zero : {A : Type 0} (s : List A) → length s ≡ 0 → s ≡ []
length-zero [] e = refl
length-zero (x ∷ xs) e = absurd (omega arith)

pub joined-blocks : (w n : ℕ) (s : List ℕ) → length s ≡ n * w → joined (blocks w n s) ≡ s
unfolding joined blocks
joined-blocks w zero s h = sym (length-zero s (h ∙ zero-mul w))
joined-blocks w (suc n) s h =
    rw (joined-blocks w n (drop w s) (simp length-drop (omega (arith, suc-mul n w)))) (take-append-drop w s)

pub blocks-joined : (w : ℕ) (rs : List (List ℕ)) → All (λ r. length r ≡ w) rs
    → blocks w (length rs) (joined rs) ≡ rs
unfolding joined blocks
blocks-joined w [] h = refl
blocks-joined w (r ∷ rs) h =
    rw (take_at r (joined rs) w h.0, drop_at r (joined rs) w h.0, blocks-joined w rs h.1)

pub length-joined : (w : ℕ) (rs : List (List ℕ)) → All (λ r. length r ≡ w) rs
    → length (joined rs) ≡ length rs * w
unfolding joined
length-joined w [] h = sym (zero-mul w)
length-joined w (r ∷ rs) h =
    rw (length-append, h.0, length-joined w rs h.1) (omega (arith, suc-mul (length rs) w))

pub blocks-wide : (w n : ℕ) (s : List ℕ) → length s ≡ n * w → All (λ r. length r ≡ w) (blocks w n s)
unfolding blocks
blocks-wide w zero s h = tt
blocks-wide w (suc n) s h = (
  length-take-le w s (omega (arith, suc-mul n w)),
  blocks-wide w n (drop w s) (simp length-drop (omega (arith, suc-mul n w))),
)

pub length-blocks : (w n : ℕ) (s : List ℕ) → length (blocks w n s) ≡ n
unfolding blocks
length-blocks w zero s = refl
length-blocks w (suc n) s = ap suc (length-blocks w n (drop w s))

-- behind the first i blocks and one more
pub next-block : (w i : ℕ) (s : List ℕ) → drop w (drop (i * w) s) ≡ drop ((i + 1) * w) s
next-block w i s =
    let e : i * w + w ≡ (i + 1) * w = omega arith in
    drop-drop w (i * w) s ∙ ap (λ (k : ℕ). drop k s) e

pub block-at : (w n : ℕ) (s : List ℕ) (i : ℕ) → i < n → get_or (blocks w n s) i [] ≡ block_at w s i
unfolding blocks
block-at w zero s i h = absurd (omega arith)
block-at w (suc n) s zero h = rw (zero-mul w)
block-at w (suc n) s (suc i) h =
    let e : w + i * w ≡ suc i * w = omega arith in
    block-at w n (drop w s) i (omega arith)
    ∙ ap (take w) (drop-drop (i * w) w s ∙ ap (λ (k : ℕ). drop k s) e)

-- the loop over indices is the walk over the blocks
module _ {C R : Type 0} (turn : C → ℕ → List ℕ → Turn C R) (end : C → R) (w : ℕ) (s : List ℕ) where
  abbrev turn_at : C → ℕ → Turn C R
  turn_at c i = turn c i (block_at w s i)

  walk_from : (n : ℕ) (c : C) (i : ℕ) → run turn_at end c i n ≡ walk turn end c i (blocks w n (drop (i * w) s))
  unfolding run walk blocks
  walk_from zero c i = refl
  walk_from (suc n) c i =
      rw (next-block w i s) (by_turn (turn c i (block_at w s i)) (λ d. walk_from n d (i + 1)))
    where
      by_turn : (t : Turn C R)
          → ((d : C) → run turn_at end d (i + 1) n ≡ walk turn end d (i + 1) (blocks w n (drop ((i + 1) * w) s)))
          → after t (λ d. run turn_at end d (i + 1) n)
          ≡ after t (λ d. walk turn end d (i + 1) (blocks w n (drop ((i + 1) * w) s)))
      by_turn (go d) same = same d
      by_turn (out v) same = refl

  pub run-walk : (n : ℕ) (c : C) → run (λ d i. turn d i (block_at w s i)) end c 0 n ≡ walk turn end c 0 (blocks w n s)
  run-walk n c = rw (zero-mul w) at (walk_from n c 0)
