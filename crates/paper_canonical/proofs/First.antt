-- No field that reads to a value other than zero is ahead of the one that is found, form by form. A rival has a digits
-- before the point and b behind it, k last zeros, and perhaps an exponent; it has the coefficient's digits at least
-- (`heavy`), and its power is the value's (`up-plain` and what stands beside it): the rest is arithmetic.
-- Assumes nothing.
use mathlib.Core.Path.{◌≡◌, refl, sym, ◌∙◌, subst}
use mathlib.Core.Bool.{Bool, true, false}
use mathlib.Core.List.{List, ◌++◌}
use mathlib.Core.Logic.{◌⊎◌, inl, inr, ⊎_elim}
use Prim.Native.Nat.{ℕ, zero, suc, ◌+◌, ◌-◌, ◌*◌, ◌^◌, ◌<◌, ◌≤◌}
use native.Mathlib.Nat.{zero-add}
use native.Mathlib.Decide.{dec_lt}
use native.Mathlib.Omega.{arith}
use lib.ListN.{length, length-append}
use lib.IntN.{ℤ, pos, negsuc}
use Rattle.paper_number.specs.Grammar.{Digits, num, sign_text, Opening, open_text, below}
use Rattle.paper_number.specs.Grammar.{Tail, plain, power, GoodTail, Field, GoodField}
use Rattle.paper_canonical.specs.Canonical.{Ahead, columns, marks_e, blanks_behind, tail_columns}
use Rattle.paper_canonical.specs.Closed.{sign_of, digits_n, plain_layout, raised_by, laid_out}
use Rattle.paper_number.specs.Count.{count}
use Rattle.paper_number.proofs.Tens.{ten-suc, ten-gap}
use Rattle.paper_number.proofs.Bounds.{num-lt}
use Rattle.paper_canonical.proofs.Digits.{num-inj, digits_n-length, digits_n-digits, digits_n-num}
use Rattle.paper_number.proofs.Count.{Counted}
use Rattle.paper_canonical.proofs.Says.{Says, weight, up-plain, up-power, down-plain, down-power}
use Rattle.paper_canonical.proofs.Ties.{Same, settle, settle-less}
use Rattle.paper_canonical.proofs.Ties.{sign-least, sign_same, open-least, open-same, same_digits}
use Rattle.paper_canonical.proofs.Laid.{laid-whole, laid-part, laid-digits, laid-num, laid-columns}

abbrev pub Beats : Field → Field → Type 0
Beats f g = Ahead f g ⊎ Same f g

module _ (n : Bool) (c : ℕ) (r : Counted (count c) c) where
  -- ---- facts of a rival
  module _ (p : ℤ) (g : Field) (good : GoodField g) (s : Says g n c p) where
    heavy : r.less + s.k < length g.whole + length g.part
    heavy =
        rw (← length-append g.whole g.part)
        (weight r.less c s.k (g.whole ++ g.part) r.least good.digits s.number)

    signs : length (sign_text (sign_of n)) ≤ length (sign_text g.sign)
    signs = sign-least g.sign n s.sense

    cols : (t : Tail) → g.tail ≡ t
        → columns g ≡ length (sign_text g.sign) + (length g.whole + (1 + (length g.part + tail_columns t)))
    unfolding columns
    cols t e = rw (← e) refl

    tail-good : (t : Tail) → g.tail ≡ t → GoodTail t
    tail-good t e = rw e at good.tail

  -- ---- a field with no exponent, w and v digits, the coefficient with j zeros
  module _ (p : ℤ) (w v j : ℕ) (fits : c * 10 ^ j < 10 ^ (w + v)) (g : Field) (good : GoodField g) (s : Says g n c p) where
    abbrev form : Field
    form = laid_out n c (plain_layout w v j)

    abbrev a : ℕ
    a = length g.whole

    abbrev b : ℕ
    b = length g.part

    plain-same : (i : ℕ) → g.tail ≡ plain i → length (sign_text g.sign) ≡ length (sign_text (sign_of n))
        → a ≡ w → b ≡ v → s.k ≡ j → (0 < i) ⊎ Same form g
    unfolding laid_out
    plain-same zero e q ea eb k =
        let d = same_digits g.whole g.part form.whole form.part good.digits
        (laid-digits n c (plain_layout w v j))
        (ea ∙ sym (laid-whole n c (plain_layout w v j))) (eb ∙ sym (laid-part n c (plain_layout w v j)))
        (s.number ∙ rw k (sym (laid-num n c (plain_layout w v j) fits))) in
        inr (record { sign = sign_same g.sign n s.sense q; whole = d.0; part = d.1; tail = e })
    plain-same (suc i) e q ea eb k = inl (omega arith)

    abbrev Against-plain : Type 0
    Against-plain = (w + v ≤ a + b) × (a + b ≡ w + v → (a ≡ w) × ((b ≡ v) × (s.k ≡ j)))

    abbrev Against-power : Opening → List ℕ → Type 0
    Against-power o ds = w + v ≤ a + (b + (length (open_text o) + length ds))

    plain_by : (t : Tail) → g.tail ≡ t → ((i : ℕ) → t ≡ plain i → Against-plain)
        → ((o : Opening) (ds : List ℕ) → t ≡ power o ds → Against-power o ds) → Beats form g
    unfolding laid_out
    plain_by (plain i) e fp fe =
        let h = fp i refl in
        let k = cols p g good s (plain i) e in
        let l = signs p g good s in
        let lc = laid-columns n c (plain_layout w v j) in
        let q : columns form ≡ columns g → a + b ≡ w + v = λ z. omega (arith, h.0) in
        settle form g (Same form g) (omega (arith, h.0)) (rw e refl) (rw e (omega arith))
        (λ z m. omega (arith, (h.1 (q z)).0, laid-whole n c (plain_layout w v j)))
        (λ z m y. let d = h.1 (q z) in
        subst (λ (t : Tail). (0 < blanks_behind t) ⊎ Same form g) (sym e)
        (plain-same i e (omega (arith, h.0)) d.0 d.1.0 d.1.1))
    plain_by (power o ds) e fp fe =
        let h = fe o ds refl in
        let k = cols p g good s (power o ds) e in
        let l = signs p g good s in
        let lc = laid-columns n c (plain_layout w v j) in
        settle-less form g (Same form g) (omega arith) (rw e (omega arith))

    plain-first : ((i : ℕ) → g.tail ≡ plain i → Against-plain)
        → ((o : Opening) (ds : List ℕ) → g.tail ≡ power o ds → Against-power o ds) → Beats form g
    plain-first fp fe = plain_by g.tail refl fp fe

  -- ---- a field with an exponent e, below zero by u
  module _ (p : ℤ) (w v j : ℕ) (fits : c * 10 ^ j < 10 ^ (w + v)) (u : Bool) (e : ℕ) (x : Counted (count e) e)
      (g : Field) (good : GoodField g) (s : Says g n c p) where
    abbrev form' : Field
    form' = laid_out n c (raised_by w v j u e)

    abbrev a' : ℕ
    a' = length g.whole

    abbrev b' : ℕ
    b' = length g.part

    abbrev Over-plain : Type 0
    Over-plain = w + (v + (1 + count e)) < a' + b'

    abbrev Over-power : Opening → List ℕ → Type 0
    Over-power o ds =
        (w + (v + count e) ≤ a' + (b' + length ds))
        × (a' + (b' + length ds) ≡ w + (v + count e)
        → (a' ≤ w) × (a' ≡ w → (b' ≡ v) × ((s.k ≡ j) × ((length ds ≡ count e) × ((num ds ≡ e) × (below o ≡ u))))))

    raised-same : (o : Opening) (ds : List ℕ) → g.tail ≡ power o ds → length (open_text o) ≡ 1 → 0 ≡ marks_e (power o ds)
        → length (sign_text g.sign) ≡ length (sign_text (sign_of n)) → Digits ds
        → a' ≡ w → (b' ≡ v) × ((s.k ≡ j) × ((length ds ≡ count e) × ((num ds ≡ e) × (below o ≡ u)))) → Same form' g
    unfolding laid_out
    raised-same o ds t lo hm ls dx ea (eb, (k, (lx, (ex, bu)))) =
        let q = raised_by w v j u e in
        let d = same_digits g.whole g.part form'.whole form'.part good.digits (laid-digits n c q)
        (ea ∙ sym (laid-whole n c q)) (eb ∙ sym (laid-part n c q)) (s.number ∙ rw k (sym (laid-num n c q fits))) in
        let y : ds ≡ digits_n (count e) e =
        num-inj ds (digits_n (count e) e) dx (digits_n-digits (count e) e) (lx ∙ sym (digits_n-length (count e) e))
        (ex ∙ sym (digits_n-num (count e) e (rw x.same x.most))) in
        record {
          sign = sign_same g.sign n s.sense ls;
          whole = d.0;
          part = d.1;
          tail = t ∙ rw (open-same o ds lo hm, bu, y) refl;
        }

    raised_by_lem : (t : Tail) → g.tail ≡ t → ((i : ℕ) → t ≡ plain i → Over-plain)
        → ((o : Opening) (ds : List ℕ) → t ≡ power o ds → Over-power o ds) → Beats form' g
    unfolding Ahead laid_out
    raised_by_lem (plain i) t fp fe =
        let z = laid-columns n c (raised_by w v j u e) in
        inl (inl (omega (arith, fp i refl, cols p g good s (plain i) t, signs p g good s)))
    raised_by_lem (power o ds) t fp fe =
        let h = fe o ds refl in
        let k = cols p g good s (power o ds) t in
        let l = signs p g good s in
        let y = open-least o in
        let z = laid-columns n c (raised_by w v j u e) in
        let f = laid-whole n c (raised_by w v j u e) in
        let dg = tail-good p g good s (power o ds) t in
        let q : columns form' ≡ columns g → a' + (b' + length ds) ≡ w + (v + count e) = λ m. omega (arith, h.0) in
        settle form' g (Same form' g) (omega (arith, h.0)) (rw t refl) (rw t (omega arith))
        (λ m r. omega (arith, (h.1 (q m)).0))
        (λ m r d. inr
        (raised-same o ds t (omega (arith, h.0)) (r ∙ rw t refl) (omega (arith, h.0)) dg.0 (d ∙ f)
        ((h.1 (q m)).1 (d ∙ f))))

    raised-first : ((i : ℕ) → g.tail ≡ plain i → Over-plain)
        → ((o : Opening) (ds : List ℕ) → g.tail ≡ power o ds → Over-power o ds) → Beats form' g
    raised-first fp fe = raised_by_lem g.tail refl fp fe

-- ---- counts of an exponent's digits, x, beside the count suc y of the one that is found; W is 10 ^ y, and Q is 10 ^ x
data Beside (x y W Q : ℕ) : Type 0 where
  short : x ≤ y → Q + 9 * (y - x) ≤ W → Beside x y W Q
  even : x ≡ suc y → Q ≡ 10 * W → Beside x y W Q
  long : suc y < x → Beside x y W Q

beside : (x y : ℕ) → Beside x y (10 ^ y) (10 ^ x)
beside x y = by (dec_lt x (suc y)) (dec_lt (suc y) x)
  where
    by : Dec (x < suc y) → Dec (suc y < x) → Beside x y (10 ^ y) (10 ^ x)
    by (yes l) d = let e : x + (y - x) ≡ y = omega arith in short (omega arith) (rw e at (ten-gap x (y - x)))
    by (no l) (yes m) = long m
    by (no l) (no m) = let e : x ≡ suc y = omega arith in even e (rw e (ten-suc y))

-- a rival of a and b digits, with k last zeros and an exponent e of x digits; the one that is found has A and B digits,
-- j last zeros and the exponent E of X digits
abbrev Over : (A B X E j a b x k e : ℕ) → Type 0
Over A B X E j a b x k e =
    (A + (B + X) ≤ a + (b + x))
    × (a + (b + x) ≡ A + (B + X) → (a ≤ A) × (a ≡ A → (b ≡ B) × ((k ≡ j) × ((x ≡ X) × (e ≡ E)))))

module _ (l k a b x y e W Q : ℕ) (heavy : l + k < a + b) (small : e < Q) (one : 1 ≤ x) (grows : 1 + 9 * y ≤ W) where
  module _ (p : ℕ) (same : k + e ≡ b + p) where
    over-ten : p ≡ 10 * W → Beside x y W Q → Over (l + 2) 0 (suc y) (p - 1) 1 a b x k e
    over-ten h (short q g) =
        (omega arith, λ t. (omega arith, λ u. (omega arith, (omega arith, (omega arith, omega arith)))))
    over-ten h (even q g) =
        (omega arith, λ t. (omega arith, λ u. (omega arith, (omega arith, (omega arith, omega arith)))))
    over-ten h (long q) =
        (omega arith, λ t. (omega arith, λ u. (omega arith, (omega arith, (omega arith, omega arith)))))

    over-up : W < p → p < 10 * W → Beside x y W Q → Over (l + 1) 0 (suc y) p 0 a b x k e
    over-up h m (short q g) =
        (omega arith, λ t. (omega arith, λ u. (omega arith, (omega arith, (omega arith, omega arith)))))
    over-up h m (even q g) =
        (omega arith, λ t. (omega arith, λ u. (omega arith, (omega arith, (omega arith, omega arith)))))
    over-up h m (long q) =
        (omega arith, λ t. (omega arith, λ u. (omega arith, (omega arith, (omega arith, omega arith)))))

  over-down : (t : ℕ) → k + t ≡ b + e → W + (l + 1) ≤ t → t < 10 * W + (l + 1) → Beside x y W Q
      → Over (l + 1 - (t - (10 * W - 1))) (t - (10 * W - 1)) (suc y) (t - (t - (10 * W - 1))) 0 a b x k e
  over-down t same h m (short q g) =
      (omega arith, λ z. (omega arith, λ u. (omega arith, (omega arith, (omega arith, omega arith)))))
  over-down t same h m (even q g) =
      (omega arith, λ z. (omega arith, λ u. (omega arith, (omega arith, (omega arith, omega arith)))))
  over-down t same h m (long q) =
      (omega arith, λ z. (omega arith, λ u. (omega arith, (omega arith, (omega arith, omega arith)))))

-- the same with what is known of the sign of the exponent
abbrev Over' : (A B X E j a b x k e : ℕ) → Type 0 → Type 0
Over' A B X E j a b x k e S =
    (A + (B + X) ≤ a + (b + x))
    × (a + (b + x) ≡ A + (B + X) → (a ≤ A) × (a ≡ A → (b ≡ B) × ((k ≡ j) × ((x ≡ X) × ((e ≡ E) × S)))))

over-with : {A B X E j a b x k e : ℕ} (S : Type 0) → S → Over A B X E j a b x k e → Over' A B X E j a b x k e S
over-with S v h =
    (h.0, λ t. ((h.1 t).0, λ u. let d = (h.1 t).1 u in (d.0, (d.1.0, (d.1.1.0, (d.1.1.1, v))))))

over-strict : {A B X a b x : ℕ} (E j k e : ℕ) (S : Type 0) → A + (B + X) < a + (b + x) → Over' A B X E j a b x k e S
over-strict E j k e S h = (omega arith, λ t. absurd (omega arith))

grows : (y : ℕ) → 1 + 9 * y ≤ 10 ^ y
grows y = rw (zero-add y) at (ten-gap 0 y)

-- ---- the forms, one by one
module _ (n : Bool) (c : ℕ) (r : Counted (count c) c) (g : Field) (good : GoodField g) where
  -- the power is p
  module _ (p : ℕ) (s : Says g n c (pos p)) where
    pub first-whole : p ≤ 2 → c * 10 ^ p < 10 ^ (count c + p + 0)
        → Beats (laid_out n c (plain_layout (count c + p) 0 p)) g
    first-whole h fits =
        let y = heavy n c r (pos p) g good s in
        plain-first n c r (pos p) (count c + p) 0 p fits g good s
        (λ i e. let k = up-plain g n c p s i e in
        (omega (arith, r.same), λ q. (omega (arith, r.same), (omega (arith, r.same), omega (arith, r.same)))))
        (λ o ds e. let d = tail-good n c r (pos p) g good s (power o ds) e in
        omega (arith, r.same, open-least o, d.1))

    -- one zero more: p is a power of ten
    pub first-ten : (x : Counted (count (p - 1)) (p - 1)) → p ≡ 10 * 10 ^ x.less
        → c * 10 ^ 1 < 10 ^ (count c + 1 + 0) → Beats (laid_out n c (raised_by (count c + 1) 0 1 false (p - 1))) g
    first-ten x h fits =
        let w = heavy n c r (pos p) g good s in
        let l : count c + 1 ≡ r.less + 2 = omega (arith, r.same) in
        raised-first n c r (pos p) (count c + 1) 0 1 fits false (p - 1) x g good s
        (λ i e. omega (arith, up-plain g n c p s i e, x.same, grows x.less))
        (λ o ds e. let d = tail-good n c r (pos p) g good s (power o ds) e in
        ⊎_elim
        (λ u. over-with (below o ≡ false) u.0
        (rw (l, x.same)
        (over-ten r.less s.k (length g.whole) (length g.part) (length ds) x.less (num ds) (10 ^ x.less)
        (10 ^ length ds) w (num-lt ds d.0) d.1 (grows x.less) p u.1 h (beside (length ds) x.less))))
        (λ u. over-strict (p - 1) 1 s.k (num ds) (below o ≡ false) (omega (arith, x.same, u.1, grows x.less)))
        (up-power g n c p s o ds e))

    pub first-up : (x : Counted (count p) p) → 3 ≤ p → 10 ^ x.less < p → c * 10 ^ 0 < 10 ^ (count c + 0)
        → Beats (laid_out n c (raised_by (count c) 0 0 false p)) g
    first-up x three h fits =
        let w = heavy n c r (pos p) g good s in
        let l : count c ≡ r.less + 1 = omega (arith, r.same) in
        let m : p < 10 * 10 ^ x.less = omega (arith, x.most, ten-suc x.less) in
        raised-first n c r (pos p) (count c) 0 0 fits false p x g good s
        (λ i e. omega (arith, up-plain g n c p s i e, x.same, grows x.less))
        (λ o ds e. let d = tail-good n c r (pos p) g good s (power o ds) e in
        ⊎_elim
        (λ u. over-with (below o ≡ false) u.0
        (rw (l, x.same)
        (over-up r.less s.k (length g.whole) (length g.part) (length ds) x.less (num ds) (10 ^ x.less)
        (10 ^ length ds) w (num-lt ds d.0) d.1 (grows x.less) p u.1 h m (beside (length ds) x.less))))
        (λ u. over-strict p 0 s.k (num ds) (below o ≡ false) (omega (arith, x.same, u.1, grows x.less)))
        (up-power g n c p s o ds e))

  -- the power is -t, t is suc q
  module _ (q : ℕ) (s : Says g n c (negsuc q)) where
    pub first-among : suc q ≤ count c → c * 10 ^ 0 < 10 ^ (count c - suc q + suc q)
        → Beats (laid_out n c (plain_layout (count c - suc q) (suc q) 0)) g
    first-among h fits =
        let w = heavy n c r (negsuc q) g good s in
        plain-first n c r (negsuc q) (count c - suc q) (suc q) 0 fits g good s
        (λ i e. let k = down-plain g n c q s i e in
        (omega (arith, r.same), λ z. (omega (arith, r.same), (omega (arith, r.same), omega (arith, r.same)))))
        (λ o ds e. omega (arith, r.same))

    -- zeros between the point and the digits
    pub first-behind : count c < suc q → suc q ≤ count c + 2 → c * 10 ^ 0 < 10 ^ (0 + suc q)
        → Beats (laid_out n c (plain_layout 0 (suc q) 0)) g
    first-behind h m fits =
        let w = heavy n c r (negsuc q) g good s in
        plain-first n c r (negsuc q) 0 (suc q) 0 fits g good s
        (λ i e. let k = down-plain g n c q s i e in
        (omega (arith, r.same), λ z. (omega (arith, r.same), (omega (arith, r.same), omega (arith, r.same)))))
        (λ o ds e. let d = tail-good n c r (negsuc q) g good s (power o ds) e in
        ⊎_elim (λ u. omega (arith, r.same, u.1)) (λ u. omega (arith, r.same, open-least o, u.1))
        (down-power g n c q s o ds e))

    -- an exponent of suc x.less digits, f digits behind the point
    pub first-down : (f : ℕ) (x : Counted (count (suc q - f)) (suc q - f))
        → count c + 3 ≤ suc q → f ≡ suc q - (10 * 10 ^ x.less - 1)
        → 10 ^ x.less + count c ≤ suc q → suc q < 10 * 10 ^ x.less + count c
        → c * 10 ^ 0 < 10 ^ (count c - f + f) → Beats (laid_out n c (raised_by (count c - f) f 0 true (suc q - f))) g
    first-down f x three pl lo hi fits =
        let w = heavy n c r (negsuc q) g good s in
        let W = 10 ^ x.less in
        let l : count c ≡ r.less + 1 = omega (arith, r.same) in
        raised-first n c r (negsuc q) (count c - f) f 0 fits true (suc q - f) x g good s
        (λ i e. long-plain (count c) f x.less (count (suc q - f)) r.less s.k (suc q)
        (length g.whole) (length g.part) W
        w three (down-plain g n c q s i e) r.same x.same lo hi pl (grows x.less))
        (λ o ds e. let d = tail-good n c r (negsuc q) g good s (power o ds) e in
        ⊎_elim
        (λ u. over-strict (suc q - f) 0 s.k (num ds) (below o ≡ true)
        (long-plain' (count c) f x.less (count (suc q - f)) r.less s.k (suc q)
        (length g.whole) (length g.part) W (num ds) (length ds)
        w three u.1 r.same x.same lo hi pl (grows x.less) d.1))
        (λ u. over-with (below o ≡ true) u.0
        (rw (l, x.same, pl)
        (over-down r.less s.k (length g.whole) (length g.part) (length ds) x.less (num ds) W
        (10 ^ length ds) w (num-lt ds d.0) d.1 (grows x.less) (suc q) u.1
        (omega (arith, r.same)) (omega (arith, r.same))
        (beside (length ds) x.less))))
        (down-power g n c q s o ds e))
      where
        long-plain : (d f y x l k t a b W : ℕ) → l + k < a + b → d + 3 ≤ t → k + t ≡ b → d ≡ suc l → x ≡ suc y
            → W + d ≤ t → t < 10 * W + d → f ≡ t - (10 * W - 1) → 1 + 9 * y ≤ W → d - f + (f + (1 + x)) < a + b
        long-plain d f y x l k t a b W w h3 e rd xs lo hi pl gr = omega arith

        long-plain' : (d f y x l k t a b W m z : ℕ) → l + k < a + b → d + 3 ≤ t → k + m + t ≡ b → d ≡ suc l
            → x ≡ suc y → W + d ≤ t → t < 10 * W + d → f ≡ t - (10 * W - 1) → 1 + 9 * y ≤ W → 1 ≤ z
            → d - f + (f + x) < a + (b + z)
        long-plain' d f y x l k t a b W m z w h3 e rd xs lo hi pl gr o = omega arith
