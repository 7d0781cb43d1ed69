-- Lists put into a list, each in front of the one before.
-- Assumes nothing.
use mathlib.Core.Path.{◌≡◌, refl, sym, ap, ◌∙◌}
use mathlib.Core.List.{List, [], ◌∷◌, ◌++◌, append_assoc, append-nil}
use Prim.Native.Nat.{ℕ, zero, suc, ◌+◌, ◌-◌, ◌/◌, ◌%◌, ◌<◌, ◌≤◌}
use native.Mathlib.Nat.{zero-add, add-zero}
use native.Mathlib.Numerals.{add-one}
use native.Mathlib.Omega.{arith}
use lib.ListN.{length, take, drop, set, length-append, length-take, length-drop, length-set, length-replicate}
use lib.ListN.{take-append-drop, drop_of_length-le}
use lib.Seq.{drop_at, take-set-le, set_split, length-take-le, take-append-le, take-take}
use Rattle.paper_number.specs.Grammar.{blanks, digits_text}
use Rattle.paper_canonical.specs.Closed.{digits_n, shift}
use Rattle.paper_canonical.specs.Storing.{put, put_digits}
use Rattle.paper_number.proofs.Bounds.{text-length}
use Rattle.paper_number.proofs.Reach.{text-append}
use Rattle.paper_canonical.proofs.Digits.{digits_n-length}

pub put-nothing : (l : List ℕ) (at : ℕ) → put l at [] ≡ l
unfolding put
put-nothing l at = rw add-zero (take-append-drop at l)

pub put_all : (l x : List ℕ) → length x ≡ length l → put l 0 x ≡ x
unfolding put
put_all l x h =
    let e : length l ≤ 0 + length x = omega arith in
    rw (drop_of_length-le l) (append-nil x)

-- x in front of y
put-before : (l : List ℕ) (at : ℕ) (x y : List ℕ) → at + length x ≤ length l
    → put (put l (at + length x) y) at x ≡ put l at (x ++ y)
unfolding put
put-before l at x y h =
    let n = at + length x in
    let p = take n l in
    let r = y ++ drop (n + length y) l in
    let e : length p ≡ n = length-take-le n l h in
    let t : take at (p ++ r) ≡ take at l =
    take-append-le at p r (omega arith) ∙ take-take at n l (omega arith) in
    let q : n + length y ≡ at + length (x ++ y) = omega (arith, length-append x y) in
    rw (t, drop_at p r n e, q) (simp append_assoc)

-- the same, by what each left
pub put_front : (l m r : List ℕ) (at a : ℕ) (x y : List ℕ) → m ≡ put l (at + a) y → r ≡ put m at x → length x ≡ a
    → at + a ≤ length l → r ≡ put l at (x ++ y)
put_front l m r at a x y e f n h = f ∙ rw (e, ← n) (put-before l at x y (rw n h))

pub put-length : (l : List ℕ) (at : ℕ) (x : List ℕ) → at + length x ≤ length l → length (put l at x) ≡ length l
unfolding put
put-length l at x h = simp (length-append, length-take, length-drop) (omega arith)

-- ---- one byte, blanks, digits

pub put_one : (l : List ℕ) (at b : ℕ) → at < length l → set l at b ≡ put l at (b ∷ [])
unfolding put
put_one l at b h = rw (add-one at) (set_split l at b h)

put-blanks : (l : List ℕ) (n : ℕ) → blanks n ++ drop n l ≡ put l 0 (blanks n)
unfolding put
put-blanks l n = rw (zero-add, length-replicate) refl

-- the first n places, filled one after the other
pub blanks-out : (l m : List ℕ) (n i : ℕ) → n ≤ length l → length (take n l) ≤ i → i ≤ length (take n l)
    → m ≡ blanks i ++ drop i (take n l) → m ++ drop n l ≡ put l 0 (blanks n)
blanks-out l m n i h a b e =
    let w = length-take-le n l h in
    let q : i ≡ n = omega arith in
    let z : length (take n l) ≤ n = omega arith in
    rw (e, q, drop_of_length-le (take n l), append-nil) (put-blanks l n)

drop-set : (l : List ℕ) (i a : ℕ) → i < length l → drop i (set l i a) ≡ a ∷ drop (suc i) l
drop-set l i a h =
    rw (set_split l i a h) (drop_at (take i l) (a ∷ drop (suc i) l) i (length-take-le i l (omega arith)))

put_last : (l : List ℕ) (at n a : ℕ) (x : List ℕ) → length x ≡ n → at + n < length l
    → put (set l (at + n) a) at x ≡ put l at (x ++ (a ∷ []))
unfolding put
put_last l at n a x e h =
    let q : at + length (x ++ (a ∷ [])) ≡ suc (at + n) = omega (arith, length-append x (a ∷ []), e) in
    rw (e, take-set-le at l (at + n) a (omega arith), drop-set l (at + n) a h, q) (simp append_assoc)

-- digits from the right are the digits
pub put-digits : (n : ℕ) (l : List ℕ) (at v : ℕ) → at + n ≤ length l
    → put_digits l at n v ≡ put l at (digits_text (digits_n n v))
unfolding put_digits digits_n
put-digits zero l at v h = sym (put-nothing l at)
put-digits (suc n) l at v h =
    let m = set l (at + n) (48 + v % 10) in
    let x = digits_text (digits_n n (v / 10)) in
    put-digits n m at (v / 10) (rw (length-set l (at + n) (48 + v % 10)) (omega arith))
    ∙ put_last l at n (48 + v % 10) x (text-length (digits_n n (v / 10)) ∙ digits_n-length n (v / 10)) (omega arith)
    ∙ ap (λ (y : List ℕ). put l at y) (sym (text-append (digits_n n (v / 10)) (v % 10 ∷ [])))

-- a turn of the loop that stores them, and its end
module _ (k : ℕ) (h : 0 < k) where
  more : k ≡ suc (k - 1)
  more = omega arith

  pub shift-go : (w : ℕ) → shift k w ≡ shift (k - 1) (w / 10)
  unfolding shift
  shift-go w = ap (λ (j : ℕ). shift j w) more

  pub digits-go : (l : List ℕ) (at w : ℕ)
      → put_digits l at k w ≡ put_digits (set l (at + (k - 1)) (48 + w % 10)) at (k - 1) (w / 10)
  unfolding put_digits
  digits-go l at w = ap (λ (j : ℕ). put_digits l at j w) more

pub shift-out : (k w : ℕ) → k ≤ 0 → shift k w ≡ w
unfolding shift
shift-out k w h = let e : k ≡ 0 = omega arith in rw e refl

pub digits-out : (k : ℕ) (l : List ℕ) (at w : ℕ) → k ≤ 0 → put_digits l at k w ≡ l
unfolding put_digits
digits-out k l at w h = let e : k ≡ 0 = omega arith in rw e refl
