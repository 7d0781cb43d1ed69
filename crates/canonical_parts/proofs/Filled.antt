-- A buffer that was filled part by part holds the field.
-- Assumes nothing.
use mathlib.Core.Path.{◌≡◌, refl, sym, ap, ◌∙◌}
use mathlib.Core.Bool.{Bool}
use mathlib.Core.List.{List, [], ◌∷◌, ◌++◌, append_assoc}
use Prim.Native.Nat.{ℕ, suc, ◌+◌, ◌-◌, ◌*◌, ◌^◌, ◌≤◌}
use native.Mathlib.Nat.{zero-add}
use native.Mathlib.Omega.{arith}
use lib.ListN.{length, length-append, length-replicate}
use Rattle.paper_number.specs.Grammar.{blanks, digits_text, sign_byte, sign_text, tail_text, write}
use Rattle.std.specs.Prelude.{Option, Some, None}
use Rattle.paper_canonical.specs.declared.types.Exponent.{Exponent}
use Rattle.paper_canonical.specs.declared.types.Layout.{Layout}
use Rattle.paper_canonical.specs.Closed.{digits_n, shift, sign_of, tail_of, laid_out}
use Rattle.paper_canonical.specs.Storing.{one_if, exponent_columns, layout_columns, put, body_text, field_text}
use Rattle.paper_canonical.proofs.Digits.{digits-wide}
use Rattle.paper_canonical.proofs.Laid.{sign-width}
use Rattle.canonical_parts.proofs.Puts.{put_front, put_all}

-- a list put at the same place under another name
moved : (l m : List ℕ) (i j : ℕ) (x : List ℕ) → m ≡ put l i x → i ≡ j → m ≡ put l j x
moved l m i j x e h = e ∙ ap (λ (k : ℕ). put l k x) h

-- ---- digits, point, digits

module _ (l l₁ l₂ l₃ : List ℕ) (at whole part v : ℕ) where
  pub filled-body : l₁ ≡ put l (at + (whole + 1)) (digits_text (digits_n part v)) → l₂ ≡ put l₁ (at + whole) (46 ∷ [])
      → l₃ ≡ put l₂ at (digits_text (digits_n whole (shift part v))) → at + (whole + (1 + part)) ≤ length l
      → l₃ ≡ put l at (body_text whole part v)
  filled-body e₁ e₂ e₃ h =
      let b = digits_text (digits_n part v) in
      let q = put_front l l₁ l₂ (at + whole) 1 (46 ∷ []) b
      (moved l l₁ (at + (whole + 1)) (at + whole + 1) b e₁ (omega arith)) e₂ refl (omega arith) in
      put_front l l₂ l₃ at whole (digits_text (digits_n whole (shift part v))) (46 ∷ b) q e₃ (digits-wide whole (shift part v))
      (omega arith)

-- ---- a sign and the digits of an exponent

pub filled-exponent : (l l₁ l₂ : List ℕ) (at : ℕ) (x : Exponent)
    → l₁ ≡ put l (at + 1) (digits_text (digits_n x.long x.size)) → l₂ ≡ put l₁ at (sign_byte x.below ∷ [])
    → at + (1 + x.long) ≤ length l → l₂ ≡ put l at (tail_text (tail_of (Some x)))
filled-exponent l l₁ l₂ at x e₁ e₂ h =
    put_front l l₁ l₂ at 1 (sign_byte x.below ∷ []) (digits_text (digits_n x.long x.size)) e₁ e₂ refl (omega arith)

-- ---- the whole field

blanks-length : (k : ℕ) → length (blanks k) ≡ k
blanks-length k = length-replicate k 32

pub tail-width : (x : Option Exponent) → length (tail_text (tail_of x)) ≡ exponent_columns x
tail-width (Some e) = ap suc (digits-wide e.long e.size) ∙ omega arith
tail-width None = refl

pub column-parts : (n : Bool) (p : Layout)
    → layout_columns n p ≡ one_if n 1 + (p.whole + (1 + (p.part + exponent_columns p.exponent)))
unfolding layout_columns
column-parts n p = refl

module _ (w C s a b t : ℕ) (h : C ≤ w) (k : C ≡ s + (a + (1 + (b + t)))) where
  room₁ : w - C + s + (a + (1 + b)) ≤ w
  room₁ = omega arith

  room₂ : w - C + s ≤ w
  room₂ = omega arith

  room₃ : w - C ≤ w
  room₃ = omega arith

  room₄ : w - C + (s + (a + (1 + b) + t)) ≡ w
  room₄ = omega arith

module _ (n : Bool) (c : ℕ) (p : Layout) (l l₁ l₂ l₃ l₄ : List ℕ) (h : layout_columns n p ≤ length l) where
  abbrev lead : ℕ
  lead = length l - layout_columns n p

  abbrev sign : List ℕ
  sign = sign_text (sign_of n)

  abbrev body : List ℕ
  body = body_text p.whole p.part (c * 10 ^ p.zeros)

  abbrev tail : List ℕ
  tail = tail_text (tail_of p.exponent)

  body-width : length body ≡ p.whole + (1 + p.part)
  body-width =
      rw (
        length-append,
        digits-wide p.whole (shift p.part (c * 10 ^ p.zeros)),
        digits-wide p.part (c * 10 ^ p.zeros),
      )
      (omega arith)

  whole-text : sign ++ (body ++ tail) ≡ write (laid_out n c p)
  unfolding write laid_out
  whole-text = simp append_assoc

  placed : l₁ ≡ put l (lead + one_if n 1 + (p.whole + (1 + p.part))) tail → l₂ ≡ put l₁ (lead + one_if n 1) body
      → l₃ ≡ put l₂ lead sign → l₄ ≡ put l₃ 0 (blanks lead) → l₄ ≡ field_text (length l) n c p
  placed e₁ e₂ e₃ e₄ =
      let C = layout_columns n p in
      let t = exponent_columns p.exponent in
      let q₂ = put_front l l₁ l₂ (lead + one_if n 1) (p.whole + (1 + p.part)) body tail e₁ e₂ body-width
      (room₁ (length l) C (one_if n 1) p.whole p.part t h (column-parts n p)) in
      let q₃ = put_front l l₂ l₃ lead (one_if n 1) sign (body ++ tail) q₂ e₃ (sign-width n)
      (room₂ (length l) C (one_if n 1) p.whole p.part t h (column-parts n p)) in
      let q₄ = put_front l l₃ l₄ 0 lead (blanks lead) (sign ++ (body ++ tail))
      (moved l l₃ lead (0 + lead) (sign ++ (body ++ tail)) q₃ (sym (zero-add lead))) e₄ (blanks-length lead)
      (rw (zero-add lead) (room₃ (length l) C (one_if n 1) p.whole p.part t h (column-parts n p))) in
      let w : length (blanks lead ++ (sign ++ (body ++ tail))) ≡ length l =
      length-append (blanks lead) (sign ++ (body ++ tail))
      ∙ rw (
        blanks-length lead,
        length-append sign (body ++ tail),
        length-append body tail,
        sign-width n,
        body-width,
        tail-width p.exponent,
      )
      (room₄ (length l) C (one_if n 1) p.whole p.part t h (column-parts n p)) in
      q₄ ∙ put_all l (blanks lead ++ (sign ++ (body ++ tail))) w ∙ ap (λ (x : List ℕ). blanks lead ++ x) whole-text

  -- by the places that the code worked out
  pub filled-field : (i at : ℕ) → i ≡ lead → at ≡ i + one_if n 1 → l₁ ≡ put l (at + (p.whole + (1 + p.part))) tail
      → l₂ ≡ put l₁ at body → l₃ ≡ put l₂ i sign → l₄ ≡ put l₃ 0 (blanks i) → l₄ ≡ field_text (length l) n c p
  filled-field i at e f e₁ e₂ e₃ e₄ =
      let g : at ≡ lead + one_if n 1 = f ∙ ap (λ (k : ℕ). k + one_if n 1) e in
      placed
      (e₁ ∙ ap (λ (k : ℕ). put l (k + (p.whole + (1 + p.part))) tail) g)
      (e₂ ∙ ap (λ (k : ℕ). put l₁ k body) g)
      (e₃ ∙ ap (λ (k : ℕ). put l₂ k sign) e)
      (e₄ ∙ ap (λ (k : ℕ). put l₃ 0 (blanks k)) e)
