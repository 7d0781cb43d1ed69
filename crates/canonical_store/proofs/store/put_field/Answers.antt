use Prim.Native.Nat.{◌+◌, ◌-◌, ℕ}
use lib.ListN.{length}
use mathlib.Core.Path.{◌≡◌, ap}
use Rattle.canonical_parts.proofs.Filled.{filled-field}
use Rattle.canonical_parts.proofs.Filled.{column-parts}
use Rattle.canonical_parts.proofs.Once.{field_stored}
use Rattle.paper_canonical.specs.Storing.{layout_columns, one_if}
use native.Mathlib.Omega.{arith}
use Rattle.canonical_store.proofs.store.put_field.Goals as goal

pub layout_columns-requires : goal.layout_columns-requires
layout_columns-requires c =
    (c.requires.sound.whole, (c.requires.sound.part, c.requires.sound.exponent))

pub overflow_sub-lead : goal.overflow_sub-lead
overflow_sub-lead c = omega (arith, c.layout_columns.ensures, c.requires.fits)

pub overflow_add-at : goal.overflow_add-at
overflow_add-at c =
    omega (
      arith,
      c.layout_columns.ensures,
      c.sign_columns.ensures,
      c.requires.fits,
      column-parts c.args.negative c.args.p,
    )

pub with_zeros-v-requires : goal.with_zeros-v-requires
with_zeros-v-requires c = (c.requires.sound.zeros, c.requires.small)

pub overflow_add-part : goal.overflow_add-part
overflow_add-part c = omega (arith, c.requires.sound.part)

pub overflow_add-whole : goal.overflow_add-whole
overflow_add-whole c =
    omega (
      arith,
      c.requires.sound.part,
      c.requires.sound.whole,
    )

pub overflow_add-at-2 : goal.overflow_add-at-2
overflow_add-at-2 c =
    omega (
      arith,
      c.layout_columns.ensures,
      c.sign_columns.ensures,
      c.requires.fits,
      column-parts c.args.negative
          c.args.p,
    )

pub put_exponent-requires : goal.put_exponent-requires
put_exponent-requires c =
    omega (
      arith,
      c.layout_columns.ensures,
      c.sign_columns.ensures,
      c.requires.fits,
      column-parts c.args.negative
          c.args.p,
    )

pub put_body-requires : goal.put_body-requires
put_body-requires c =
    omega (
      arith,
      c.layout_columns.ensures,
      c.sign_columns.ensures,
      c.requires.fits,
      column-parts c.args.negative
          c.args.p,
      c.put_exponent.auto,
    )

pub put_sign-requires : goal.put_sign-requires
put_sign-requires c =
    omega (
      arith,
      c.layout_columns.ensures,
      c.sign_columns.ensures,
      c.requires.fits,
      column-parts
          c.args.negative
          c.args.p,
      c.put_exponent.auto,
      c.put_body.auto,
    )

pub put_blanks-requires : goal.put_blanks-requires
put_blanks-requires c =
    let c₃ = c in
    let c₂ = c₃ in
    let c₁ = c₂ in
    let s = c₁ in
    let w = s in
    let c₀ = w in
    omega (
      arith,
      w.layout_columns.ensures,
      s.sign_columns.ensures,
      c₀.requires.fits,
      column-parts c₀.args.negative c₀.args.p,
      c₁.put_exponent.auto,
      c₂.put_body.auto,
      c₃.put_sign.auto,
    )

pub returns : goal.returns
returns c =
    let c₄ = c in
    let c₃ = c₄ in
    let c₂ = c₃ in
    let c₁ = c₂ in
    let z = c₁ in
    let s = z in
    let w = s in
    let c₀ = w in
    let p = c₀.args.p in
    let n = c₀.args.negative in
    let l = c₀.args.out.now in
    let i = length l - w.layout_columns.result in
    let at = i + s.sign_columns.result in
    let lead : i ≡ length l - layout_columns n p = ap (λ (k : ℕ). length l - k) w.layout_columns.ensures in
    let signed : at ≡ i + one_if n 1 = ap (λ (k : ℕ). i + k) s.sign_columns.ensures in
    let l₁ = c₁.put_exponent.new.out in
    let l₂ = c₂.put_body.new.out in
    let l₃ = c₃.put_sign.new.out in
    let l₄ = c₄.put_blanks.new.out in
    let e₁ = c₁.put_exponent.ensures in
    let e₂ = rw z.with_zeros-v.ensures at c₂.put_body.ensures in
    let e₃ = c₃.put_sign.ensures in
    let e₄ = c₄.put_blanks.ensures in
    record {
      out_after = filled-field n c₀.args.c p l l₁ l₂ l₃ l₄ c₀.requires.fits i at lead signed e₁.out_after e₂.out_after e₃ e₄;
      out_after_2 = field_stored l l₁ l₂ l₃ l₄ (length l) n c₀.args.c p i at lead signed e₁.out_after_2 e₂.out_after_2 e₃ e₄;
    }
