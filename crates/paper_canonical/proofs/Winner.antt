-- The canonical field: there is one exactly where the columns suffice, it is the closed form, and there is no other.
-- Assumes nothing.
use mathlib.Core.Path.{◌≡◌, refl, sym, ap, ◌∙◌, subst}
use mathlib.Core.Bool.{false}
use mathlib.Core.List.{[], ◌∷◌}
use mathlib.Core.Logic.{◌⊎◌, inl, inr, ⊎_elim}
use Prim.Native.Nat.{ℕ, zero, suc, ◌+◌, ◌-◌, ◌%◌, ◌<◌, ◌≤◌}
use native.Mathlib.Omega.{arith}
use lib.ListN.{length, length-append, length-replicate}
use lib.IntN.{pos}
use Rattle.paper_number.specs.declared.types.Decimal.{Decimal}
use Rattle.paper_number.specs.Grammar.{Sign, unsigned, signed, sign_text, Tail, plain, power, tail_text, Field, write}
use Rattle.paper_number.specs.Grammar.{GoodField}
use Rattle.paper_number.specs.Value.{zero_decimal, Normal, Means}
use Rattle.paper_canonical.specs.Canonical.{Fewer, Ahead, columns, tail_columns, blanks_behind, Canonical, NoField}
use Rattle.paper_canonical.specs.Closed.{digits_n, shift, layout_up, laid_out}
use Rattle.paper_number.specs.Count.{count, count_from}
use Rattle.paper_canonical.specs.Closed.{shortest, canonical_text, canonical_field}
use Rattle.paper_number.proofs.Bounds.{text-length}
use Rattle.paper_canonical.proofs.Says.{says, zero-digits}
use Rattle.paper_canonical.proofs.Ties.{Same, settle, settle-less, same_digits}
use Rattle.paper_canonical.proofs.First.{Beats}
use Rattle.paper_canonical.proofs.Shortest.{Fine, first, found}

-- ---- how long a field is

tail-length : (t : Tail) → length (tail_text t) ≡ tail_columns t + blanks_behind t
tail-length (plain k) = length-replicate k 32 ∙ omega arith
tail-length (power o ds) = rw (length-append, text-length) (omega arith)

pub write-length : (f : Field) → length (write f) ≡ f.lead + (columns f + blanks_behind f.tail)
unfolding write columns
write-length f = simp (length-append, length-replicate, text-length, tail-length) (omega arith)

-- ---- zero

abbrev nought : Field
nought = record { lead = 0; sign = unsigned; whole = 0 ∷ []; part = []; tail = plain 0 }

zero-form : shortest zero_decimal ≡ nought
unfolding shortest laid_out layout_up count count_from digits_n shift
zero-form = refl

zero-fine : Fine false 0 (pos 0) nought
zero-fine =
    record {
      good = record { digits = (omega arith, tt); some = omega arith; tail = tt };
      says = record {
        size = record { m = 0; n = 0; powers = refl; numbers = refl };
        sign = λ z. refl;
        normal = inr refl;
      };
      right = refl;
    }

no_sign : (s : Sign) → length (sign_text s) ≡ 0 → s ≡ unsigned
no_sign unsigned e = refl
no_sign (signed g) e = absurd (omega arith)

module _ (g : Field) (good : GoodField g) (h : Means g zero_decimal) where
  zero_same : (i : ℕ) → g.tail ≡ plain i → length (sign_text g.sign) ≡ 0 → length g.whole ≡ 1
      → length g.part ≡ 0 → (0 < i) ⊎ Same nought g
  zero_same zero t s a b =
      let d = same_digits g.whole g.part (0 ∷ []) [] good.digits (omega arith, tt) a b (zero-digits g h) in
      inr (record { sign = no_sign g.sign s; whole = d.0; part = d.1; tail = t })
  zero_same (suc i) t s a b = inl (omega arith)

  zero-by : (t : Tail) → g.tail ≡ t → Beats nought g
  unfolding columns
  zero-by (plain i) t =
      let l = length-append g.whole g.part in
      let k : columns nought ≤ columns g = rw t (omega (arith, good.some)) in
      settle nought g (Same nought g) k (rw t refl) (rw t (omega arith))
      (λ q m. let q' = rw t at q in omega (arith, good.some))
      (λ q m b. let q' = rw t at q in
      subst (λ (t : Tail). (0 < blanks_behind t) ⊎ Same nought g) (sym t)
      (zero_same i t (omega (arith, good.some)) b (omega (arith, good.some))))
  zero-by (power o ds) t =
      let l = length-append g.whole g.part in
      let k : columns nought ≤ columns g = rw t (omega (arith, good.some)) in
      settle-less nought g (Same nought g) k (rw t (omega arith))

-- ---- any value

pub above_zero : (c : ℕ) → (c % 10 ≡ 0 → ⊥) → 0 < c
above_zero zero nz = absurd (nz refl)
above_zero (suc c) nz = omega arith

some-fine : (v : Decimal) → (v.coefficient % 10 ≡ 0 → ⊥) → Fine v.negative v.coefficient v.power (shortest v)
unfolding shortest
some-fine v nz = found v.negative v.coefficient v.power (above_zero v.coefficient nz) nz

pub shortest-fine : (v : Decimal) → Normal v → Fine v.negative v.coefficient v.power (shortest v)
shortest-fine v h =
    ⊎_elim (λ nz. some-fine v nz)
    (λ e. subst (λ (u : Decimal). Fine u.negative u.coefficient u.power (shortest u)) (sym e)
    (rw zero-form zero-fine)) h

some_first : (v : Decimal) → (v.coefficient % 10 ≡ 0 → ⊥) → (g : Field) → GoodField g → Means g v
    → Beats (shortest v) g
unfolding shortest
some_first v nz g good m =
    first v.negative v.coefficient v.power (above_zero v.coefficient nz) g good
    (says g v.negative v.coefficient v.power nz m)

zero-first : (g : Field) → GoodField g → Means g zero_decimal → Beats (shortest zero_decimal) g
zero-first g good m = subst (λ (f : Field). Beats f g) (sym zero-form) (zero-by g good m g.tail refl)

shortest-first : (v : Decimal) → Normal v → (g : Field) → GoodField g → Means g v → Beats (shortest v) g
shortest-first v h g good m =
    ⊎_elim (λ nz. some_first v nz g good m)
    (λ e. subst (λ (u : Decimal). Beats (shortest u) g) (sym e)
    (zero-first g good (subst (λ (u : Decimal). Means g u) e m))) h

-- ---- the text, and the field of w columns

pub text-columns : (v : Decimal) → Normal v → length (canonical_text v) ≡ columns (shortest v)
unfolding canonical_text laid_out shortest
text-columns v h = write-length (shortest v) ∙ omega (arith, (shortest-fine v h).right)

-- the closed form behind as many blanks as there is room for
abbrev pub placed : ℕ → Decimal → Field
placed w v =
    record {
      lead = w - length (canonical_text v);
      sign = (shortest v).sign;
      whole = (shortest v).whole;
      part = (shortest v).part;
      tail = (shortest v).tail;
    }

pub placed-text : (w : ℕ) (v : Decimal) → write (placed w v) ≡ canonical_field w v
unfolding write canonical_field canonical_text shortest laid_out
placed-text w v = refl

ahead-columns : (f g : Field) → Ahead f g → columns f ≤ columns g
unfolding Ahead
ahead-columns f g a = ⊎_elim (λ l. omega arith) (λ e. omega (arith, e.0)) a

same-columns : (f g : Field) → Same f g → columns f ≡ columns g
unfolding columns
same-columns f g s = rw (s.sign, s.whole, s.part, s.tail) refl

beats-columns : (f g : Field) → Beats f g → columns f ≤ columns g
beats-columns f g b = ⊎_elim (λ a. ahead-columns f g a) (λ s. omega (arith, same-columns f g s)) b

module _ (w : ℕ) (v : Decimal) (h : Normal v) where
  pub field-length : length (canonical_text v) ≤ w → length (canonical_field w v) ≡ w
  unfolding canonical_field
  field-length l = simp (length-append, length-replicate) (omega arith)

  same_text : (g : Field) → length (write g) ≡ w → Same (shortest v) g → write g ≡ canonical_field w v
  unfolding write
  same_text g wg s =
      let b : blanks_behind g.tail ≡ 0 = rw s.tail (shortest-fine v h).right in
      let l : g.lead ≡ w - length (canonical_text v) =
      lead-of w g.lead (columns g) (length (canonical_text v)) (blanks_behind g.tail) (sym (write-length g) ∙ wg)
      (text-columns v h ∙ same-columns (shortest v) g s) b in
      rw (l, s.sign, s.whole, s.part, s.tail) (placed-text w v)
    where
      lead-of : (w l c d b : ℕ) → l + (c + b) ≡ w → d ≡ c → b ≡ 0 → l ≡ w - d
      lead-of w l c d b e p q = omega arith

  pub closed-wins : length (canonical_text v) ≤ w → Canonical w v (placed w v)
  unfolding columns Ahead
  closed-wins l =
      let k = shortest-fine v h in
      record {
        good = record { digits = k.good.digits; some = k.good.some; tail = k.good.tail };
        wide = ap length (placed-text w v) ∙ field-length l;
        says = record { size = k.says.size; sign = k.says.sign; normal = k.says.normal };
        first = λ g good wg e.
            ⊎_elim (λ a. inr a) (λ s. inl (same_text g wg s ∙ sym (placed-text w v))) (shortest-first v h g good e);
      }

  pub none-shorter : w < length (canonical_text v) → NoField w v
  none-shorter l g good wg e =
      omega (arith, write-length g, text-columns v h, beats-columns (shortest v) g (shortest-first v h g good e))

-- ---- no two win

fewer-never : (a b : ℕ) (R S : Type 0) → (R → S → ⊥) → Fewer a b R → Fewer b a S → ⊥
fewer-never a b R S f (inl l) (inl m) = omega arith
fewer-never a b R S f (inl l) (inr m) = omega (arith, m.0)
fewer-never a b R S f (inr l) (inl m) = omega (arith, l.0)
fewer-never a b R S f (inr l) (inr m) = f l.1 m.1

pub never_both : (f g : Field) → Ahead f g → Ahead g f → ⊥
unfolding Ahead
never_both f g a b =
    fewer-never _ _ _ _
    (fewer-never _ _ _ _
    (fewer-never _ _ _ _
    (fewer-never _ _ _ _
    (λ (p : blanks_behind f.tail < blanks_behind g.tail) (q : blanks_behind g.tail < blanks_behind f.tail). omega arith)))) a b

pub alone : (w : ℕ) (v : Decimal) (f g : Field) → Canonical w v f → Canonical w v g → write f ≡ write g
alone w v f g a b =
    ⊎_elim (λ e. sym e)
    (λ p. ⊎_elim (λ e. e) (λ q. absurd (never_both f g p q)) (b.first f a.good a.wide a.says))
    (a.first g b.good b.wide b.says)
