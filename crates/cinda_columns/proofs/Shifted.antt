-- Columns that are looked at in another place: those of a part, and those behind blanks.
-- Assumes nothing.
use Prim.Native.Nat.{ℕ, zero, suc, ◌+◌, ◌-◌, ◌<◌, ◌≤◌}
use mathlib.Core.Path.{◌≡◌, refl, sym, ap, ◌∙◌}
use mathlib.Core.Bool.{Bool, true, false, cond, not}
use mathlib.Core.List.{List, ◌++◌}
use native.Mathlib.Omega.{arith}
use lib.Dec.{eqb}
use lib.ListN.{length, get_or, take, drop, length-replicate, get_or-replicate, get_or-append}
use lib.Seq.{get_or-take, get_or-drop, get_or-append-add}
use borrow.Author.Tests.{eqb-true, eqb-false, eq-eqb, ne_eqb}
use Rattle.laws.specs.Search.{first}
use Rattle.paper_number.specs.Grammar.{blanks}
use Rattle.paper_record.specs.Text.{is_blank, is_digit}
use Rattle.paper_record.specs.Columns.{columns_at}
use Rattle.paper_record.specs.Word.{filled_at}
use Rattle.paper_record.specs.System.{no_digit_at, digits_in, number_in, start_of, integer_of}

-- the first m columns of f stand in g behind the first k
abbrev Later : List ℕ → List ℕ → ℕ → ℕ → Type 0
Later g f k m = (j : ℕ) → j < m → get_or g (k + j) 0 ≡ get_or f j 0

-- ---- a search that begins k places later

first-later : (f g : ℕ → Bool) (k i n : ℕ) → ((j : ℕ) → j < i + n → f (k + j) ≡ g j)
    → first f (k + i) n ≡ k + first g i n
unfolding first
first-later f g k i zero h = refl
first-later f g k i (suc n) h =
    let z : k + i + 1 ≡ k + (i + 1) = omega arith in
    rw (h i (omega arith), z, first-later f g k (i + 1) n (λ j l. h j (omega arith)))
    (by-test (g i) (first g (i + 1) n))
  where
    by-test : (b : Bool) (x : ℕ) → cond b (k + i) (k + x) ≡ k + cond b i x
    by-test true x = refl
    by-test false x = refl

-- one that passes its first k places
first_passes : (f : ℕ → Bool) (i k n : ℕ) → ((j : ℕ) → i ≤ j → j < i + k → f j ≡ false)
    → first f i (k + n) ≡ first f (i + k) n
unfolding first
first_passes f i zero n h =
    let z : 0 + n ≡ n = omega arith in
    let y : i + 0 ≡ i = omega arith in
    rw (z, y)
first_passes f i (suc k) n h =
    let z : suc k + n ≡ suc (k + n) = omega arith in
    let y : i + 1 + k ≡ i + suc k = omega arith in
    rw (z, h i (omega arith) (omega arith))
    (rw y at (first_passes f (i + 1) k n (λ j a b. h j (omega arith) (omega arith))))

eqb-later : (k a b : ℕ) → eqb (k + a) (k + b) ≡ eqb a b
eqb-later k a b = by-test (eqb a b) refl
  where
    by-test : (t : Bool) → eqb a b ≡ t → eqb (k + a) (k + b) ≡ t
    by-test true e = let z = eqb-true a b e in eq-eqb (k + a) (k + b) (omega arith)
    by-test false e = ne_eqb (k + a) (k + b) (λ z. eqb-false a b e (omega arith))

-- ---- digits and their number

pub digits-later : (g f : List ℕ) (k i n : ℕ) → Later g f k (i + n) → digits_in g (k + i) n ≡ digits_in f i n
unfolding digits_in
digits-later g f k i n h =
    let z : k + i + n ≡ k + (i + n) = omega arith in
    rw (z, first-later (no_digit_at g) (no_digit_at f) k i n (λ j l. ap (λ (b : ℕ). not (is_digit b)) (h j l)))
    (eqb-later k (first (no_digit_at f) i n) (i + n))

pub number-later : (g f : List ℕ) (k i n : ℕ) → Later g f k (i + n) → number_in g (k + i) n ≡ number_in f i n
unfolding number_in
number-later g f k i zero h = refl
number-later g f k i (suc n) h =
    let z : k + i + n ≡ k + (i + n) = omega arith in
    rw (z, h (i + n) (omega arith), number-later g f k i n (λ j l. h j (omega arith)))

-- ---- columns of a part

part-later : (n w : ℕ) (l : List ℕ) → Later l (columns_at n w l) n w
part-later n w l j h = sym (get_or-take w (drop n l) j 0 h ∙ get_or-drop n l j 0)

pub digits-in-part : (n w : ℕ) (l : List ℕ) (i m : ℕ) → i + m ≤ w
    → digits_in (columns_at n w l) i m ≡ digits_in l (n + i) m
digits-in-part n w l i m h = sym (digits-later l (columns_at n w l) n i m (λ j a. part-later n w l j (omega arith)))

pub number-in-part : (n w : ℕ) (l : List ℕ) (i m : ℕ) → i + m ≤ w
    → number_in (columns_at n w l) i m ≡ number_in l (n + i) m
number-in-part n w l i m h = sym (number-later l (columns_at n w l) n i m (λ j a. part-later n w l j (omega arith)))

-- ---- columns behind blanks

behind-blanks : (k : ℕ) (f : List ℕ) (j : ℕ) → get_or (blanks k ++ f) (k + j) 0 ≡ get_or f j 0
behind-blanks k f j =
    let e : length (blanks k) ≡ k = length-replicate k 32 in
    rw e at (get_or-append-add (blanks k) f j 0)

in-blanks : (k : ℕ) (f : List ℕ) (j : ℕ) → j < k → get_or (blanks k ++ f) j 0 ≡ 32
in-blanks k f j h =
    let e : length (blanks k) ≡ k = length-replicate k 32 in
    get_or-append (blanks k) f 0 j (omega arith) ∙ get_or-replicate k j 32 0 h

start-later : (k w : ℕ) (f : List ℕ) → start_of (k + w) (blanks k ++ f) ≡ k + start_of w f
start-later k w f =
    let g = blanks k ++ f in
    let y : k + w - 0 ≡ k + w = omega arith in
    let z : w - 0 ≡ w = omega arith in
    let u : 0 + k ≡ k + 0 = omega arith in
    let p = first_passes (filled_at g) 0 k w (λ j a b. ap (λ (c : ℕ). not (is_blank c)) (in-blanks k f j (omega arith))) in
    rw (y, z, p, u)
    (first-later (filled_at g) (filled_at f) k 0 w (λ j l. ap (λ (c : ℕ). not (is_blank c)) (behind-blanks k f j)))

-- a whole number with more blanks in front is the same
pub integer-wider : (k w : ℕ) (f : List ℕ) → integer_of (k + w) (blanks k ++ f) ≡ integer_of w f
unfolding integer_of
integer-wider k w f =
    let g = blanks k ++ f in
    let s = start_of w f in
    let n : k + w - (k + s) ≡ w - s = omega arith in
    rw (
      start-later k w f,
      eqb-later k s w,
      n,
      digits-later g f k s (w - s) (λ j l. behind-blanks k f j),
      number-later g f k s (w - s) (λ j l. behind-blanks k f j),
    )
