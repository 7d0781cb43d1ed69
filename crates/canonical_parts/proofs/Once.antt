-- The pieces that the writer stores fill the columns and do not overlap.
-- Assumes nothing.
use mathlib.Core.Path.{◌≡◌, refl, ap, ◌∙◌}
use mathlib.Core.Bool.{Bool}
use mathlib.Core.List.{List, [], ◌∷◌, ◌++◌}
use Prim.Native.Nat.{ℕ, ◌+◌, ◌-◌, ◌*◌, ◌^◌, ◌<◌, ◌≤◌}
use native.Mathlib.Decide.{dec_lt}
use native.Mathlib.Nat.{zero-add, add-zero}
use native.Mathlib.Omega.{arith}
use borrow.Author.Tests.{lt-ltb, le-ltb, le-leb, lt-leb}
use lib.Dec.{ltb}
use lib.ListN.{length, length-replicate}
use Rattle.paper_number.specs.Grammar.{blanks, digits_text, sign_byte, sign_text}
use Rattle.std.specs.Prelude.{Option, Some, None}
use Rattle.paper_canonical.specs.declared.types.Exponent.{Exponent}
use Rattle.paper_canonical.specs.declared.types.Layout.{Layout}
use Rattle.paper_canonical.specs.Closed.{digits_n, shift, sign_of}
use Rattle.paper_canonical.specs.Storing.{put, one_if, exponent_columns, layout_columns}
use Rattle.paper_canonical.proofs.Digits.{digits-wide}
use Rattle.paper_canonical.proofs.Laid.{sign-width}
use Rattle.canonical_parts.specs.Once.{Piece, piece, exponent_pieces, body_pieces, front_pieces, pieces}
use Rattle.canonical_parts.specs.Once.{stored, times, StoredOnce}
use Rattle.canonical_parts.proofs.Filled.{column-parts}

-- ---- each column once

module _ (i : ℕ) where
  -- over each column before n lies one piece, over no other column any
  abbrev Once : List Piece → ℕ → Type 0
  Once qs n = times qs i ≡ one_if (ltb i n) 1

  nothing : Once [] 0
  unfolding times
  nothing = rw (le-ltb i 0 (omega arith)) refl

  -- a piece behind those that fill the columns before it
  behind : (at n : ℕ) (x : List ℕ) (qs : List Piece) → at + length x ≡ n → Once qs at → Once (piece at x ∷ qs) n
  unfolding times
  behind at n x qs e h = by (dec_lt i at) (dec_lt i (at + length x))
    where
      by : Dec (i < at) → Dec (i < at + length x) → Once (piece at x ∷ qs) n
      by (yes a) b = rw (h, ← e, lt-leb at i a, lt-ltb i at a, lt-ltb i (at + length x) (omega arith)) refl
      by (no a) (yes b) =
          rw (h, ← e, le-leb at i (omega arith), le-ltb i at (omega arith), lt-ltb i (at + length x) b) refl
      by (no a) (no b) =
          rw (h, ← e, le-leb at i (omega arith), le-ltb i at (omega arith), le-ltb i (at + length x) (omega arith)) refl

  front-once : (lead : ℕ) (negative : Bool) → Once (front_pieces lead negative) (lead + one_if negative 1)
  front-once lead negative =
      behind lead (lead + one_if negative 1) (sign_text (sign_of negative)) (piece 0 (blanks lead) ∷ [])
      (ap (λ (k : ℕ). lead + k) (sign-width negative))
      (behind 0 lead (blanks lead) [] (zero-add (length (blanks lead)) ∙ length-replicate lead 32) nothing)

  body-once : (at whole part v : ℕ) (qs : List Piece) → Once qs at
      → Once (body_pieces at whole part v ++ qs) (at + (whole + (1 + part)))
  body-once at whole part v qs h =
      let d = digits_text (digits_n whole (shift part v)) in
      let b = digits_text (digits_n part v) in
      behind (at + (whole + 1)) (at + (whole + (1 + part))) b (piece (at + whole) (46 ∷ []) ∷ piece at d ∷ qs)
      (ap (λ (k : ℕ). at + (whole + 1) + k) (digits-wide part v) ∙ omega arith)
      (behind (at + whole) (at + (whole + 1)) (46 ∷ []) (piece at d ∷ qs) (omega arith)
      (behind at (at + whole) d qs (ap (λ (k : ℕ). at + k) (digits-wide whole (shift part v))) h))

  exponent-once : (at : ℕ) (x : Option Exponent) (qs : List Piece) → Once qs at
      → Once (exponent_pieces at x ++ qs) (at + exponent_columns x)
  exponent-once at (Some e) qs h =
      behind (at + 1) (at + (1 + e.long)) (digits_text (digits_n e.long e.size)) (piece at (sign_byte e.below ∷ []) ∷ qs)
      (ap (λ (k : ℕ). at + 1 + k) (digits-wide e.long e.size) ∙ omega arith)
      (behind at (at + 1) (sign_byte e.below ∷ []) qs refl h)
  exponent-once at None qs h = rw (add-zero at) h

  full : (w C s a b t : ℕ) → C ≤ w → C ≡ s + (a + (1 + (b + t))) → w - C + s + (a + (1 + b)) + t ≡ w
  full w C s a b t h k = omega arith

pub stored-once : StoredOnce
unfolding pieces
stored-once w negative c p h i =
    let lead = w - layout_columns negative p in
    let at = lead + one_if negative 1 in
    let last = at + (p.whole + (1 + p.part)) in
    let t = exponent_columns p.exponent in
    let b = body_pieces at p.whole p.part (c * 10 ^ p.zeros) ++ front_pieces lead negative in
    exponent-once i last p.exponent b
    (body-once i at p.whole p.part (c * 10 ^ p.zeros) (front_pieces lead negative) (front-once i lead negative))
    ∙ ap (λ (n : ℕ). one_if (ltb i n) 1)
    (full i w (layout_columns negative p) (one_if negative 1) p.whole p.part t h (column-parts negative p))

-- ---- what the code stores are the pieces

stored-join : (l : List ℕ) (qs rs : List Piece) → stored l (qs ++ rs) ≡ stored (stored l qs) rs
unfolding stored
stored-join l [] rs = refl
stored-join l (q ∷ qs) rs = stored-join (put l q.at q.text) qs rs

pub nothing_stored : (l : List ℕ) → stored l [] ≡ l
unfolding stored
nothing_stored l = refl

pub body-stored : (l l₁ l₂ l₃ : List ℕ) (at whole part v : ℕ)
    → l₁ ≡ put l (at + (whole + 1)) (digits_text (digits_n part v)) → l₂ ≡ put l₁ (at + whole) (46 ∷ [])
    → l₃ ≡ put l₂ at (digits_text (digits_n whole (shift part v))) → l₃ ≡ stored l (body_pieces at whole part v)
unfolding stored
body-stored l l₁ l₂ l₃ at whole part v e₁ e₂ e₃ = rw (← e₁, ← e₂) e₃

pub exponent-stored : (l l₁ l₂ : List ℕ) (at : ℕ) (x : Exponent)
    → l₁ ≡ put l (at + 1) (digits_text (digits_n x.long x.size)) → l₂ ≡ put l₁ at (sign_byte x.below ∷ [])
    → l₂ ≡ stored l (exponent_pieces at (Some x))
unfolding stored
exponent-stored l l₁ l₂ at x e₁ e₂ = rw (← e₁) e₂

front-stored : (l l₁ l₂ : List ℕ) (lead : ℕ) (negative : Bool) → l₁ ≡ put l lead (sign_text (sign_of negative))
    → l₂ ≡ put l₁ 0 (blanks lead) → l₂ ≡ stored l (front_pieces lead negative)
unfolding stored
front-stored l l₁ l₂ lead negative e₁ e₂ = rw (← e₁) e₂

-- by the places that the code worked out
module _ (l l₁ l₂ l₃ l₄ : List ℕ) (w : ℕ) (negative : Bool) (c : ℕ) (p : Layout) (lead at : ℕ) where
  abbrev exponent_at : ℕ → List Piece
  exponent_at i = exponent_pieces (i + (p.whole + (1 + p.part))) p.exponent

  abbrev body_at : ℕ → List Piece
  body_at i = body_pieces i p.whole p.part (c * 10 ^ p.zeros)

  pub field_stored : lead ≡ w - layout_columns negative p → at ≡ lead + one_if negative 1
      → l₁ ≡ stored l (exponent_at at) → l₂ ≡ stored l₁ (body_at at)
      → l₃ ≡ put l₂ lead (sign_text (sign_of negative)) → l₄ ≡ put l₃ 0 (blanks lead)
      → l₄ ≡ stored l (pieces w negative c p)
  unfolding pieces
  field_stored e f e₁ e₂ e₃ e₄ =
      let es = exponent_at (lead + one_if negative 1) in
      let bs = body_at (lead + one_if negative 1) in
      let fs = front_pieces lead negative in
      let q₁ : l₁ ≡ stored l es = rw f at e₁ in
      let q₂ : l₂ ≡ stored l₁ bs = rw f at e₂ in
      rw (← e, stored-join l es (bs ++ fs), ← q₁, stored-join l₁ bs fs, ← q₂)
      (front-stored l₂ l₃ l₄ lead negative e₃ e₄)
