-- From what the code works out before it writes: the layout of a power by its size, and what is prepared.
-- Assumes nothing.
use mathlib.Core.Path.{◌≡◌, refl, sym, ap, ◌∙◌, subst}
use mathlib.Core.Bool.{Bool, true, false}
use mathlib.Core.Logic.{⊎_elim}
use Prim.Native.Nat.{ℕ, ◌%◌, ◌<◌, ◌^◌}
use native.Mathlib.Nat.{mul-pos}
use native.Mathlib.Omega.{arith}
use lib.IntN.{ℤ, pos, negsuc, ◌+ℤ◌}
use lib.Signed.{mag, lt_z}
use lib.Dec.{T}
use borrow.Author.Tests.{ltb-true}
use Rattle.std.specs.Prelude.{unsigned_abs}
use Rattle.paper_number.specs.declared.types.Decimal.{Decimal}
use Rattle.paper_number.specs.declared.types.Trim.{Trim}
use Rattle.paper_number.specs.Value.{zero_decimal, Value, trim, value_of}
use Rattle.paper_number.proofs.Laws.{value_found}
use Rattle.paper_canonical.specs.declared.types.Layout.{Layout}
use Rattle.paper_canonical.specs.declared.types.Prepared.{Prepared}
use Rattle.paper_canonical.specs.Closed.{plain_layout, layout_up, layout_down, layout_of}
use Rattle.paper_number.specs.Count.{count}
use Rattle.paper_canonical.specs.Storing.{prepared_of, Sound}
use Rattle.paper_number.proofs.Tens.{ten-pos}
use Rattle.paper_canonical.proofs.Sizes.{more-zeros}
use Rattle.paper_canonical.proofs.Winner.{above_zero}
use Rattle.paper_number.proofs.Zeros.{made-value}
use Rattle.paper_canonical.proofs.Layouts.{zero-layout, value-sound}

-- ---- the layout of a power, by its size

module _ (d : ℕ) where
  pub layout-below : (s : ℤ) → lt_z s (pos 0) ≡ true → layout_down d (unsigned_abs s) ≡ layout_of d s
  layout-below (pos n) e = absurd (omega (arith, ltb-true n 0 e))
  layout-below (negsuc n) e = refl

  pub layout-above : (s : ℤ) → lt_z s (pos 0) ≡ false → layout_up d (unsigned_abs s) ≡ layout_of d s
  layout-above (pos n) e = refl
  layout-above (negsuc n) e = absurd (subst T e tt)

-- ---- what is prepared

abbrev prepared : Bool → ℕ → Layout → Prepared
prepared n c l = record { negative = n; coefficient = c; layout = l }

zero-value : (n : Bool) (p : ℤ) → value_of n 0 p ≡ zero_decimal
zero-value n p = by (value_of n 0 p) (value_found n 0 p)
  where
    never : (v : Decimal) → Value n 0 p v → (v.coefficient % 10 ≡ 0 → ⊥) → ⊥
    never v f nz =
        let (k, e, q) = more-zeros f.size.m f.size.n 0 v.coefficient nz f.size.numbers in
        let h = mul-pos (above_zero v.coefficient nz) (ten-pos k) in
        omega arith

    by : (v : Decimal) → Value n 0 p v → v ≡ zero_decimal
    by v f = ⊎_elim (λ nz. absurd (never v f nz)) (λ e. e) f.normal

pub zero-prepared : (n : Bool) (c : ℕ) (p : ℤ) → c ≡ 0
    → prepared false 0 (plain_layout 1 0 0) ≡ prepared_of (value_of n c p)
zero-prepared n c p e =
    ap (λ (l : Layout). prepared false 0 l) (sym zero-layout)
    ∙ ap prepared_of (sym (zero-value n p) ∙ ap (λ (k : ℕ). value_of n k p) (sym e))

pub trim-prepared : (n : Bool) (c : ℕ) (p : ℤ) (t : Trim) (d : ℕ) (l : Layout) → t ≡ trim c → (c ≡ 0 → ⊥)
    → d ≡ count t.number → l ≡ layout_of d (p +ℤ pos t.zeros)
    → prepared n t.number l ≡ prepared_of (value_of n c p)
trim-prepared n c p t d l b h e q = rw (q, e) (ap prepared_of (made-value n c p (p +ℤ pos t.zeros) t b h refl))

pub prepared-sound : (n : Bool) (c : ℕ) (p : ℤ) (q : Prepared) → q ≡ prepared_of (value_of n c p) → c < 2 ^ 64
    → mag p < 2 ^ 31 → Sound q.coefficient q.layout
prepared-sound n c p q e hc hp = rw e (value-sound n c p hc hp)
