-- Bytes stored in a buffer from a place on: where they fit they stand there, and one behind the other is the same as both.
-- Assumes nothing.
use mathlib.Core.Path.{◌≡◌, refl, sym, ap, ◌∙◌}
use mathlib.Core.List.{List, [], ◌∷◌, ◌++◌, append_assoc}
use Prim.Native.Nat.{ℕ, zero, suc, ◌+◌, ◌≤◌}
use native.Mathlib.Nat.{add-zero, add-suc, suc-add}
use native.Mathlib.Omega.{arith}
use lib.ListN.{length, take, drop, set, length-append, length-drop, take-append-drop}
use lib.Seq.{take_all, take-length, length-take-le, set_out}
use Rattle.paper_decay_run.specs.Overlay.{overlay, OverlayFits, OverlayEmpty, OverlayMore}

-- ---- byte by byte

pub overlay-empty : OverlayEmpty
unfolding overlay
overlay-empty at l = refl

-- nothing is stored
pub overlay-none : (x : List ℕ) (at : ℕ) → overlay x at [] ≡ x
unfolding overlay
overlay-none x at =
    ap (λ (k : ℕ). take (length x) (take at x ++ drop k x)) (add-zero at)
    ∙ ap (take (length x)) (take-append-drop at x)
    ∙ take-length x

-- a byte before the place stays
overlay-past : (b : ℕ) (x : List ℕ) (at : ℕ) (l : List ℕ) → overlay (b ∷ x) (suc at) l ≡ b ∷ overlay x at l
unfolding overlay
overlay-past b x at l = rw (suc-add at (length l)) refl

-- the first of them is stored
overlay-first : (b : ℕ) (x : List ℕ) (c : ℕ) (l : List ℕ) → overlay (b ∷ x) 0 (c ∷ l) ≡ c ∷ overlay x 0 l
unfolding overlay
overlay-first b x c l = rw (add-suc 0 (length l)) refl

pub length-overlay : (x : List ℕ) (at : ℕ) (l : List ℕ) → length (overlay x at l) ≡ length x
length-overlay [] at l = ap length (overlay-empty at l)
length-overlay (b ∷ x) at [] = ap length (overlay-none (b ∷ x) at)
length-overlay (b ∷ x) zero (c ∷ l) = ap length (overlay-first b x c l) ∙ ap suc (length-overlay x 0 l)
length-overlay (b ∷ x) (suc at) (c ∷ l) = ap length (overlay-past b x at (c ∷ l)) ∙ ap suc (length-overlay x at (c ∷ l))

-- ---- one behind the other

pub overlay-more : OverlayMore
overlay-more [] at l m =
    ap (λ (y : List ℕ). overlay y (at + length l) m) (overlay-empty at l) ∙ overlay-empty (at + length l) m ∙ sym (overlay-empty at (l ++ m))
overlay-more (b ∷ x) at [] m = λ i. overlay (overlay-none (b ∷ x) at i) (add-zero at i) m
overlay-more (b ∷ x) zero (c ∷ l) m =
    (λ i. overlay (overlay-first b x c l i) (add-suc 0 (length l) i) m)
    ∙ overlay-past c (overlay x 0 l) (0 + length l) m
    ∙ ap (λ (y : List ℕ). c ∷ y) (overlay-more x 0 l m)
    ∙ sym (overlay-first b x c (l ++ m))
overlay-more (b ∷ x) (suc at) (c ∷ l) m =
    (λ i. overlay (overlay-past b x at (c ∷ l) i) (suc-add at (length (c ∷ l)) i) m)
    ∙ overlay-past b (overlay x at (c ∷ l)) (at + length (c ∷ l)) m
    ∙ ap (λ (y : List ℕ). b ∷ y) (overlay-more x at (c ∷ l) m)
    ∙ sym (overlay-past b x at (c ∷ l ++ m))

-- ---- one byte more

overlay-one : (x : List ℕ) (at b : ℕ) → overlay x at (b ∷ []) ≡ set x at b
overlay-one [] at b = overlay-empty at (b ∷ [])
overlay-one (c ∷ x) zero b = overlay-first c x b [] ∙ ap (λ (y : List ℕ). b ∷ y) (overlay-none x 0)
overlay-one (c ∷ x) (suc at) b = overlay-past c x at (b ∷ []) ∙ ap (λ (y : List ℕ). c ∷ y) (overlay-one x at b)

-- also behind the buffer's end, where `set` stores nothing
pub overlay-byte : (x : List ℕ) (at : ℕ) (l : List ℕ) (b : ℕ) → overlay x at (l ++ (b ∷ [])) ≡ set (overlay x at l) (at + length l) b
overlay-byte x at l b = sym (overlay-more x at l (b ∷ [])) ∙ overlay-one (overlay x at l) (at + length l) b

-- what is behind the buffer's end is stored nowhere
pub overlay-full : (x : List ℕ) (at : ℕ) (l : List ℕ) (b : ℕ) → length x ≤ at + length l → overlay x at (l ++ (b ∷ [])) ≡ overlay x at l
overlay-full x at l b h =
    let n = length-overlay x at l in
    overlay-byte x at l b ∙ set_out (overlay x at l) (at + length l) b (omega arith)

-- ---- where they fit

pub overlay-fits : OverlayFits
unfolding overlay
overlay-fits x at l h =
    let y = take at x ++ (l ++ drop (at + length l) x) in
    let p = length-append (take at x) (l ++ drop (at + length l) x) in
    let q = length-append l (drop (at + length l) x) in
    let r = length-take-le at x (omega arith) in
    let s = length-drop (at + length l) x in
    take_all (length x) y (omega arith)
    ∙ sym (append_assoc (take at x) l (drop (at + length l) x))
    ∙ ap (λ (z : List ℕ). take at x ++ z ++ drop (at + length l) x) (sym (take-length l))
