-- Layouts as the code makes them, and what its numbers bear of them.
-- Assumes nothing.
use mathlib.Core.Path.{◌≡◌, refl, sym, ap, ◌∙◌, subst}
use mathlib.Core.Bool.{Bool, true, false}
use mathlib.Core.Logic.{⊎_elim}
use Prim.Native.Nat.{ℕ, suc, ◌+◌, ◌-◌, ◌*◌, ◌%◌, ◌<◌, ◌≤◌, ◌^◌}
use native.Mathlib.Nat.{sub-zero, mul-le-mul_left, mul-le-mul_right, mul-one}
use native.Mathlib.Omega.{arith}
use borrow.Author.Tests.{le-leb, lt-leb, eq-eqb, ne_eqb}
use lib.ListN.{length}
use lib.IntN.{ℤ, pos, negsuc}
use lib.Signed.{mag}
use Rattle.std.specs.Prelude.{Some}
use Rattle.paper_number.specs.declared.types.Decimal.{Decimal}
use Rattle.paper_number.specs.Value.{Normal, Value, value_of}
use Rattle.paper_number.proofs.Laws.{value_found}
use Rattle.paper_canonical.specs.declared.types.Layout.{Layout}
use Rattle.paper_canonical.specs.Closed.{plain_layout, raised_by, layout_up, layout_down, layout_of}
use Rattle.paper_number.specs.Count.{count, count_from}
use Rattle.paper_canonical.specs.Closed.{places}
use Rattle.paper_canonical.specs.Closed.{shortest, canonical_text}
use Rattle.paper_canonical.specs.Storing.{layout_columns, Sound, ReadyLayout}
use Rattle.paper_number.proofs.Tens.{ten-suc, ten-le, ten-pos, ten-lt}
use Rattle.paper_number.proofs.Count.{counts, count-pos, count-short}
use Rattle.paper_canonical.proofs.Sizes.{more-zeros, drop-zeros}
use Rattle.paper_canonical.proofs.Laid.{laid-wide}
use Rattle.paper_canonical.proofs.Shortest.{exponent, power-of-ten, each-up, each-down}
use Rattle.paper_canonical.proofs.Winner.{text-columns, above_zero}
use Rattle.paper_canonical.proofs.Numbers.{suc-less, mag-add}
use Rattle.paper_number.proofs.Count.{count-is}

-- a layout with an exponent, whose digits were counted before
abbrev pub raised_long : ℕ → ℕ → ℕ → Bool → ℕ → ℕ → Layout
raised_long whole part zeros below long exponent =
    record {
      whole = whole;
      part = part;
      zeros = zeros;
      exponent = Some (record { below = below; long = long; size = exponent });
    }

-- ---- a power of zero or more

-- the number before a power of ten has one digit less
count-before : (p : ℕ) → 3 ≤ p → p ≡ 10 ^ (count p - 1) → count (p - 1) ≡ count p - 1
count-before p h e =
    let x = counts (p - 1) (omega arith) in
    let q = power-of-ten p h x e in
    let t = ten-suc x.less in
    let s = ten-suc (suc x.less) in
    let o = ten-pos x.less in
    let c = count-is (suc x.less) p (λ k. omega arith) (omega arith) in
    omega (arith, x.same)

module _ (d p : ℕ) where
  pub up-plain : p ≤ 2 → plain_layout (d + p) 0 p ≡ layout_up d p
  unfolding layout_up
  up-plain h = rw (le-leb p 2 h) refl

  module _ (h : 2 < p) (n : ℕ) (e : n ≡ count p) where
    pub up-ten : p ≡ 10 ^ (count p - 1) → raised_long (d + 1) 0 1 false (n - 1) (p - 1) ≡ layout_up d p
    unfolding layout_up
    up-ten q =
        let l : n - 1 ≡ count (p - 1) = ap (λ (k : ℕ). k - 1) e ∙ sym (count-before p h q) in
        rw (lt-leb p 2 h, eq-eqb p (10 ^ (count p - 1)) q, l) refl

    pub up_one : (p ≡ 10 ^ (count p - 1) → ⊥) → raised_long d 0 0 false n p ≡ layout_up d p
    unfolding layout_up
    up_one q = rw (lt-leb p 2 h, ne_eqb p (10 ^ (count p - 1)) q, e) refl

-- ---- a power below zero

pub ten-count : (v : ℕ) → 10 ^ (count v - 1) * 10 ≡ 10 ^ count v
ten-count v =
    let s : count v ≡ suc (count v - 1) = omega (arith, count-pos v) in
    let t = ten-suc (count v - 1) in
    let q : 10 ^ count v ≡ 10 ^ suc (count v - 1) = ap (λ (k : ℕ). 10 ^ k) s in
    omega arith

pub most-of : (v least : ℕ) → least ≡ 10 ^ (count v - 1) → least * 10 - 1 ≡ 10 ^ count v - 1
most-of v least e = ap (λ (k : ℕ). k - 1) (rw e (ten-count v))

pub least-of : (v : ℕ) → 0 < v → 10 ^ (count v - 1) ≤ v
least-of v h = let x = counts v h in rw (x.same, suc-less x.less) x.least

module _ (d t : ℕ) where
  pub down-among : t ≤ d → plain_layout (d - t) t 0 ≡ layout_down d t
  unfolding layout_down
  down-among h = rw (le-leb t d h) refl

  pub down-behind : d < t → t ≤ d + 2 → plain_layout 0 t 0 ≡ layout_down d t
  unfolding layout_down
  down-behind h l = rw (lt-leb t d h, le-leb t (d + 2) l) refl

  module _ (h : d + 2 < t) where
    three : d + 3 ≤ t
    three = omega arith

    raised-down : raised_by (d - places d t) (places d t) 0 true (t - places d t) ≡ layout_down d t
    unfolding layout_down
    raised-down = rw (lt-leb t d (omega arith), lt-leb t (d + 2) h) refl

    module _ (n m : ℕ) (e : n ≡ count (t - d)) (q : m ≡ 10 ^ count (t - d) - 1) where
      long : n ≡ count (t - places d t)
      long = e ∙ sym (exponent d t three).long

      pub few-behind : t - m ≤ d
      few-behind = rw q (exponent d t three).few

      pub down-all : t ≤ m → raised_long d 0 0 true n t ≡ layout_down d t
      down-all l =
          let z : places d t ≡ 0 = ap (λ (k : ℕ). t - k) (sym q) ∙ (let r : t - m ≡ 0 = omega arith in r) in
          rw long
          (subst (λ (f : ℕ). raised_long d 0 0 true (count (t - f)) t ≡ raised_by (d - f) f 0 true (t - f)) (sym z)
          (rw (sub-zero d, sub-zero t) refl) ∙ raised-down)

      pub down-some : m < t → raised_long (d - (t - m)) (t - m) 0 true n m ≡ layout_down d t
      down-some l =
          let z : places d t ≡ t - m = ap (λ (k : ℕ). t - k) (sym q) in
          let b : t - (t - m) ≡ m = omega arith in
          rw long
          (subst (λ (f : ℕ). raised_long (d - (t - m)) (t - m) 0 true (count (t - f)) m
          ≡ raised_by (d - f) f 0 true (t - f)) (sym z)
          (rw b refl) ∙ raised-down)

-- ---- what the code's numbers bear

module _ (c : ℕ) (h : 0 < c) (l : c < 10 ^ 20) where
  few-digits : count c ≤ 20
  few-digits = count-short c 20 (omega arith) l

  up-sound : (p : ℕ) → p < 10 ^ 20 → Sound c (layout_up (count c) p)
  up-sound p b =
      let k = few-digits in
      each-up c h (λ (x : Layout). Sound c x) p
      (λ m f. record { whole = omega arith; part = omega arith; zeros = m; exponent = omega arith; number = f })
      (λ m x e f. record {
        whole = omega arith;
        part = omega arith;
        zeros = omega arith;
        exponent = omega (arith, count-short (p - 1) 20 (omega arith) (omega arith));
        number = f;
      })
      (λ m x e f. record {
        whole = omega arith;
        part = omega arith;
        zeros = omega arith;
        exponent = omega (arith, count-short p 20 (omega arith) b);
        number = f;
      })

  down-sound : (t : ℕ) → t < 10 ^ 20 → Sound c (layout_down (count c) t)
  down-sound t b =
      let k = few-digits in
      each-down c h (λ (x : Layout). Sound c x) t
      (λ m f. record { whole = omega arith; part = omega arith; zeros = omega arith; exponent = omega arith; number = f })
      (λ m n f. record { whole = omega arith; part = omega arith; zeros = omega arith; exponent = omega arith; number = f })
      (λ f m x n. record {
        whole = small (count c) f k;
        part = small' (count c) f k x.few;
        zeros = omega arith;
        exponent = let m = count-short (t - f) 20 (omega arith) (under t f b) in omega arith;
        number = n;
      })
    where
      small : (d f : ℕ) → d ≤ 20 → d - f ≤ 100
      small d f h = omega arith

      small' : (d f : ℕ) → d ≤ 20 → f ≤ d → f ≤ 100
      small' d f h k = omega arith

      under : (t f : ℕ) → t < 10 ^ 20 → t - f < 10 ^ 20
      under t f h = omega arith

  sound : (p : ℤ) → mag p < 10 ^ 19 → Sound c (layout_of (count c) p)
  sound (pos p) b = up-sound p (omega arith)
  sound (negsuc q) b = down-sound (suc q) (omega arith)

pub zero-layout : layout_of (count 0) (pos 0) ≡ plain_layout 1 0 0
unfolding layout_up count count_from
zero-layout = refl

zero-sound : Sound 0 (layout_of (count 0) (pos 0))
zero-sound =
    rw zero-layout
    (record { whole = omega arith; part = omega arith; zeros = omega arith; exponent = omega arith; number = omega arith })

abbrev Soundly : Decimal → Type 0
Soundly v = Sound v.coefficient (layout_of (count v.coefficient) v.power)

-- a value of 64 and 32 bits
pub value-sound : (n : Bool) (c : ℕ) (p : ℤ) → c < 2 ^ 64 → mag p < 2 ^ 31 → Soundly (value_of n c p)
value-sound n c p lc lp = by (value_of n c p) (value_found n c p)
  where
    some : (v : Decimal) → Value n c p v → (v.coefficient % 10 ≡ 0 → ⊥) → Soundly v
    some v f nz =
        let s = f.size in
        let (k, e, q) = more-zeros s.m s.n c v.coefficient nz s.numbers in
        let pw = drop-zeros p v.power s.m s.n k s.powers e in
        let h = above_zero v.coefficient nz in
        let a = mul-le-mul_left v.coefficient (ten-pos k) in
        let o = mul-one v.coefficient in
        let b = mul-le-mul_right (10 ^ k) (let r : 1 ≤ v.coefficient = h in r) in
        let few : k < 20 = ten-lt k 20 (omega arith) in
        let far : mag v.power < 10 ^ 19 = rw (← pw) (omega (arith, mag-add p k)) in
        sound v.coefficient h (omega arith) v.power far

    by : (v : Decimal) → Value n c p v → Soundly v
    by v f =
        ⊎_elim (λ nz. some v f nz) (λ e. subst (λ (u : Decimal). Soundly u) (sym e) zero-sound) f.normal

-- where the columns suffice, the number fits
pub ready : (n : Bool) (c : ℕ) (p : Layout) (w : ℕ) → w ≤ 19 → layout_columns n p ≤ w → Sound c p → ReadyLayout n c p w
unfolding layout_columns
ready n c p w h k s =
    let l : p.whole + p.part ≤ 19 = omega arith in
    let t = ten-le l in
    record { fits = k; sound = s; small = omega (arith, s.number) }

-- ---- the text of a value takes as many columns as its layout

pub text-layout : (v : Decimal) → Normal v
    → length (canonical_text v) ≡ layout_columns v.negative (layout_of (count v.coefficient) v.power)
unfolding shortest
text-layout v h =
    text-columns v h ∙ laid-wide v.negative v.coefficient (layout_of (count v.coefficient) v.power)
