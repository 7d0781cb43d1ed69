-- Fields replaced, one after the other: what stands in the field of a copy, what behind it, and when two copies are
-- equal.
-- Rests on the laws of the replacement that stand in the parameters.
use Prim.Native.Nat.{ℕ, zero, suc, ◌+◌, ◌*◌, ◌-◌, ◌<◌, ◌≤◌}
use mathlib.Core.Path.{◌≡◌, refl, sym, ◌∙◌, ap}
use mathlib.Core.Bool.{Bool}
use mathlib.Core.List.{List, [], ◌∷◌, ◌++◌}
use native.Mathlib.Omega.{arith}
use native.Mathlib.Nat.{add-zero}
use lib.ListN.{length, take, drop, get_or, length-append, length-drop}
use lib.Seq.{take_at, drop_at, drop-drop}
use Rattle.laws.specs.Blocks.{block_at}
use Rattle.paper_copy.specs.Replaced.{replaced, Each, FieldsAlike, mask}

-- the first of two joined lists of one length, and the second
pub append-heads : (a b x y : List ℕ) → length a ≡ length b → a ++ x ≡ b ++ y → a ≡ b
append-heads [] [] x y h e = refl
append-heads [] (b ∷ bs) x y h e = absurd (omega arith)
append-heads (a ∷ as') [] x y h e = absurd (omega arith)
append-heads (a ∷ as') (b ∷ bs) x y h e =
    let p : a ≡ b = cc in
    let q : as' ++ x ≡ bs ++ y = cc in
    let r : as' ≡ bs = append-heads as' bs x y (omega arith) q in
    cc

pub append-tails : (a b x y : List ℕ) → length a ≡ length b → a ++ x ≡ b ++ y → x ≡ y
append-tails [] [] x y h e = e
append-tails [] (b ∷ bs) x y h e = absurd (omega arith)
append-tails (a ∷ as') [] x y h e = absurd (omega arith)
append-tails (a ∷ as') (b ∷ bs) x y h e =
    let q : as' ++ x ≡ bs ++ y = cc in
    append-tails as' bs x y (omega arith) q

-- behind the first eleven columns
drop-next : (k : ℕ) (r : List ℕ) → drop (suc k * 11) r ≡ drop (k * 11) (drop 11 r)
drop-next k r =
    let e : suc k * 11 ≡ 11 + k * 11 = omega arith in
    ap (λ (n : ℕ). drop n r) e ∙ sym (drop-drop (k * 11) 11 r)

drop_past : (k : ℕ) (a x : List ℕ) → length a ≡ 11 → drop (suc k * 11) (a ++ x) ≡ drop (k * 11) x
drop_past k a x h = drop-next k (a ++ x) ∙ ap (drop (k * 11)) (drop_at a x 11 h)

-- a property of each field by its index
module _ {M : Type 0} (P : M → List ℕ → Type 0) (z : M) where
  pub each_of : (ms : List M) (r : List ℕ) → ((i : ℕ) → i < length ms → P (get_or ms i z) (block_at 11 r i))
      → Each P ms r
  unfolding Each
  each_of [] r h = tt
  each_of (m ∷ ms) r h =
      (h 0 (omega arith), each_of ms (drop 11 r) (λ i l. rw (drop-next i r) at (h (suc i) (omega arith))))

  pub each_at : (ms : List M) (r : List ℕ) → Each P ms r → (i : ℕ) → i < length ms
      → P (get_or ms i z) (block_at 11 r i)
  unfolding Each
  each_at [] r h i l = absurd (omega arith)
  each_at (m ∷ ms) r h zero l = h.0
  each_at (m ∷ ms) r h (suc i) l = rw (drop-next i r) (each_at ms (drop 11 r) h.1 i (omega arith))

pub length-mask : (f : ℕ → Bool) (i n : ℕ) → length (mask f i n) ≡ n
unfolding mask
length-mask f i zero = refl
length-mask f i (suc n) = ap suc (length-mask f (i + 1) n)

pub mask_at : (f : ℕ → Bool) (z : Bool) (n i k : ℕ) → k < n → get_or (mask f i n) k z ≡ f (i + k)
unfolding mask
mask_at f z zero i k h = absurd (omega arith)
mask_at f z (suc n) i zero h = rw (add-zero i)
mask_at f z (suc n) i (suc k) h =
    let e : i + 1 + k ≡ i + suc k = omega arith in
    mask_at f z n (i + 1) k (omega arith) ∙ ap f e

pub mask-same : (f g : ℕ → Bool) (i n : ℕ) → ((k : ℕ) → i ≤ k → k < i + n → f k ≡ g k)
    → mask f i n ≡ mask g i n
unfolding mask
mask-same f g i zero h = refl
mask-same f g i (suc n) h =
    rw (h i (omega arith) (omega arith), mask-same f g (i + 1) n (λ k a b. h k (omega arith) (omega arith)))

-- what the fields must satisfy, and what the replacing may then be used for
module _ {M : Type 0} (canon : M → List ℕ → List ℕ) (P : M → List ℕ → Type 0)
    (wide : (m : M) (f : List ℕ) → P m f → length (canon m f) ≡ 11) where
  pub length-copy : (ms : List M) (r : List ℕ) → length ms * 11 ≤ length r → Each P ms r
      → length (replaced canon ms r) ≡ length r
  unfolding replaced Each
  length-copy [] r h g = refl
  length-copy (m ∷ ms) r h g =
      rw (length-append, wide m (take 11 r) g.0)
      (rw (length-copy ms (drop 11 r) (simp length-drop (omega arith)) g.1) (simp length-drop (omega arith)))

  -- the field of the copy
  pub field-of-copy : (z : M) (ms : List M) (r : List ℕ) → Each P ms r → (i : ℕ) → i < length ms
      → block_at 11 (replaced canon ms r) i ≡ canon (get_or ms i z) (block_at 11 r i)
  unfolding replaced Each
  field-of-copy z [] r g i l = absurd (omega arith)
  field-of-copy z (m ∷ ms) r g zero l =
      take_at (canon m (take 11 r)) (replaced canon ms (drop 11 r)) 11 (wide m (take 11 r) g.0)
  field-of-copy z (m ∷ ms) r g (suc i) l =
      let a = canon m (take 11 r) in
      rw (drop_past i a (replaced canon ms (drop 11 r)) (wide m (take 11 r) g.0), drop-next i r)
      (field-of-copy z ms (drop 11 r) g.1 i (omega arith))

  -- behind the fields: as it was
  pub behind-copy : (ms : List M) (r : List ℕ) → Each P ms r
      → drop (length ms * 11) (replaced canon ms r) ≡ drop (length ms * 11) r
  unfolding replaced Each
  behind-copy [] r g = refl
  behind-copy (m ∷ ms) r g =
      let n = length ms in
      let a = canon m (take 11 r) in
      rw (drop_past n a (replaced canon ms (drop 11 r)) (wide m (take 11 r) g.0), drop-next n r)
      (behind-copy ms (drop 11 r) g.1)

  pub past-copy : (ms : List M) (r : List ℕ) → Each P ms r → (n : ℕ) → length ms * 11 ≤ n
      → drop n (replaced canon ms r) ≡ drop n r
  past-copy ms r g n l =
      let k = length ms * 11 in
      let e : n ≡ k + (n - k) = omega arith in
      rw (e, ← drop-drop (n - k) k (replaced canon ms r), ← drop-drop (n - k) k r, behind-copy ms r g)

  pub copy-twice : ((m : M) (f : List ℕ) → P m f → canon m (canon m f) ≡ canon m f)
      → (ms : List M) (r : List ℕ) → Each P ms r
      → replaced canon ms (replaced canon ms r) ≡ replaced canon ms r
  unfolding replaced Each
  copy-twice once [] r g = refl
  copy-twice once (m ∷ ms) r g =
      let a = canon m (take 11 r) in
      let x = replaced canon ms (drop 11 r) in
      let w : length a ≡ 11 = wide m (take 11 r) g.0 in
      rw (take_at a x 11 w, drop_at a x 11 w)
      (rw (once m (take 11 r) g.0, copy-twice once ms (drop 11 r) g.1))

  module _ (alike : M → List ℕ → List ℕ → Type 0) where
    pub alike-copy : ((m : M) (f g : List ℕ) → P m f → P m g → alike m f g → canon m f ≡ canon m g)
        → (ms : List M) (r t : List ℕ) → Each P ms r → Each P ms t → FieldsAlike alike ms r t
        → replaced canon ms r ≡ replaced canon ms t
    unfolding replaced Each FieldsAlike
    alike-copy one [] r t p q a = a
    alike-copy one (m ∷ ms) r t p q a =
        rw (one m (take 11 r) (take 11 t) p.0 q.0 a.0)
        (rw (alike-copy one ms (drop 11 r) (drop 11 t) p.1 q.1 a.1))

    pub copy-alike : ((m : M) (f g : List ℕ) → P m f → P m g → canon m f ≡ canon m g → alike m f g)
        → (ms : List M) (r t : List ℕ) → Each P ms r → Each P ms t → replaced canon ms r ≡ replaced canon ms t
        → FieldsAlike alike ms r t
    unfolding replaced Each FieldsAlike
    copy-alike one [] r t p q e = e
    copy-alike one (m ∷ ms) r t p q e =
        let a = canon m (take 11 r) in
        let b = canon m (take 11 t) in
        let x = replaced canon ms (drop 11 r) in
        let y = replaced canon ms (drop 11 t) in
        let s : length a ≡ length b = wide m (take 11 r) p.0 ∙ sym (wide m (take 11 t) q.0) in (
          one m (take 11 r) (take 11 t) p.0 q.0 (append-heads a b x y s e),
          copy-alike one ms (drop 11 r) (drop 11 t) p.1 q.1 (append-tails a b x y s e),
        )

-- alike by columns: behind the fields, and at each field
module _ {M : Type 0} (alike : M → List ℕ → List ℕ → Type 0) where
  pub alike-behind : (ms : List M) (r t : List ℕ) → FieldsAlike alike ms r t
      → drop (length ms * 11) r ≡ drop (length ms * 11) t
  unfolding FieldsAlike
  alike-behind [] r t a = a
  alike-behind (m ∷ ms) r t a =
      rw (drop-next (length ms) r, drop-next (length ms) t) (alike-behind ms (drop 11 r) (drop 11 t) a.1)

  pub alike_at : (z : M) (ms : List M) (r t : List ℕ) → FieldsAlike alike ms r t → (i : ℕ) → i < length ms
      → alike (get_or ms i z) (block_at 11 r i) (block_at 11 t i)
  unfolding FieldsAlike
  alike_at z [] r t a i l = absurd (omega arith)
  alike_at z (m ∷ ms) r t a zero l = a.0
  alike_at z (m ∷ ms) r t a (suc i) l =
      rw (drop-next i r, drop-next i t) (alike_at z ms (drop 11 r) (drop 11 t) a.1 i (omega arith))

  pub fields-alike : (z : M) (ms : List M) (r t : List ℕ) → drop (length ms * 11) r ≡ drop (length ms * 11) t
      → ((i : ℕ) → i < length ms → alike (get_or ms i z) (block_at 11 r i) (block_at 11 t i)) → FieldsAlike alike ms r t
  unfolding FieldsAlike
  fields-alike z [] r t e h = e
  fields-alike z (m ∷ ms) r t e h = (
    h 0 (omega arith),
    fields-alike z ms (drop 11 r) (drop 11 t) (rw (drop-next (length ms) r, drop-next (length ms) t) at e)
        (λ i l. rw (drop-next i r, drop-next i t) at (h (suc i) (omega arith))),
  )
