-- What a byte is to the reading, and what follows for the place to which it leads.
-- Assumes nothing.
use mathlib.Core.Path.{◌≡◌, refl}
use mathlib.Core.Bool.{Bool, true, false}
use Prim.Native.Nat.{ℕ, ◌+◌, ◌-◌, ◌<◌, ◌≤◌}
use native.Mathlib.Omega.{arith}
use borrow.Author.Tests.{ne_eqb, eqb-true, le-leb, leb-true}
use lib.Dec.{leb, eqb}
use Rattle.paper_number.specs.Grammar.{sign_byte}
use Rattle.paper_number.specs.Reading as R
use Rattle.paper_number.specs.Reading.{Kind, column, column_of, Scan, Bad, by_kind}

pub data Seen (b : ℕ) : Type 0 where
  a_blank : b ≡ 32 → Seen b
  a_digit : (d : ℕ) → d < 10 → b ≡ 48 + d → column_of b ≡ column R.digit d false → Seen b
  a_point : b ≡ 46 → Seen b
  a-sign : (g : Bool) → b ≡ sign_byte g → column_of b ≡ column R.sign 0 g → Seen b
  a-mark : b ≡ 69 → Seen b
  no_such : column_of b ≡ column R.other 0 false → Seen b

pub digit-column : (b : ℕ) → 48 ≤ b → b ≤ 57 → column_of b ≡ column R.digit (b - 48) false
digit-column b h l =
    rw (ne_eqb b 32 (omega arith), ne_eqb b 43 (omega arith), ne_eqb b 45 (omega arith), ne_eqb b 46 (omega arith))
    (rw (ne_eqb b 69 (omega arith), le-leb 48 b h, le-leb b 57 l) refl)

module _ (b : ℕ) where
  seen-range : (t u : Bool) → eqb b 32 ≡ false → eqb b 43 ≡ false → eqb b 45 ≡ false → eqb b 46 ≡ false
      → eqb b 69 ≡ false → leb 48 b ≡ t → leb b 57 ≡ u → Seen b
  seen-range true true p q r s v t u =
      let l : 48 ≤ b = leb-true 48 b t in
      let h : b ≤ 57 = leb-true b 57 u in
      a_digit (b - 48) (omega arith) (omega arith) (digit-column b l h)
  seen-range true false p q r s v t u = no_such (rw (p, q, r, s, v, t, u) refl)
  seen-range false u p q r s v t w = no_such (rw (p, q, r, s, v, t) refl)

  seen-five : (x₁ x₂ x₃ x₄ x₅ : Bool) → eqb b 32 ≡ x₁ → eqb b 43 ≡ x₂ → eqb b 45 ≡ x₃ → eqb b 46 ≡ x₄
      → eqb b 69 ≡ x₅ → Seen b
  seen-five true x₂ x₃ x₄ x₅ p q r s t = a_blank (eqb-true b 32 p)
  seen-five false true x₃ x₄ x₅ p q r s t = a-sign false (eqb-true b 43 q) (rw (eqb-true b 43 q) refl)
  seen-five false false true x₄ x₅ p q r s t = a-sign true (eqb-true b 45 r) (rw (eqb-true b 45 r) refl)
  seen-five false false false true x₅ p q r s t = a_point (eqb-true b 46 s)
  seen-five false false false false true p q r s t = a-mark (eqb-true b 69 t)
  seen-five false false false false false p q r s t = seen-range (leb 48 b) (leb b 57) p q r s t refl refl

  pub seen : Seen b
  seen = seen-five (eqb b 32) (eqb b 43) (eqb b 45) (eqb b 46) (eqb b 69) refl refl refl refl refl

-- what holds of each answer, the byte known, holds of the one that is chosen
module _ (Q : Scan → Type 0) (b : ℕ)
    (blank : Scan) (digit : ℕ → Scan) (point : Scan) (sign : Bool → Scan) (mark : Scan)
    (at-blank : b ≡ 32 → Q blank) (at-digit : (d : ℕ) → d < 10 → b ≡ 48 + d → Q (digit d)) (at-point : b ≡ 46 → Q point)
    (at_sign : (g : Bool) → b ≡ sign_byte g → Q (sign g)) (at_mark : b ≡ 69 → Q mark) (at_other : Q Bad) where
  by-seen : Seen b
      → Q (by_kind (column_of b).kind blank (digit (column_of b).value) point (sign (column_of b).minus) mark)
  by-seen (a_blank e) = rw e (at-blank e)
  by-seen (a_digit d l e k) = rw k (at-digit d l e)
  by-seen (a_point e) = rw e (at-point e)
  by-seen (a-sign g e k) = rw k (at_sign g e)
  by-seen (a-mark e) = rw e (at_mark e)
  by-seen (no_such k) = rw k at_other

  pub on-byte : Q (by_kind (column_of b).kind blank (digit (column_of b).value) point (sign (column_of b).minus) mark)
  on-byte = by-seen (seen b)

-- what holds of each answer at its kind holds of the one that is chosen
pub on-each : (Q : Kind → Scan → Type 0) (k : Kind) {b d p s m : Scan}
    → Q R.blank b → Q R.digit d → Q R.point p → Q R.sign s → Q R.mark m → Q R.other Bad → Q k (by_kind k b d p s m)
on-each Q R.blank b d p s m o = b
on-each Q R.digit b d p s m o = d
on-each Q R.point b d p s m o = p
on-each Q R.sign b d p s m o = s
on-each Q R.mark b d p s m o = m
on-each Q R.other b d p s m o = o

-- the value beside a column's kind is a digit
pub column-digit : (b : ℕ) → (column_of b).value < 10
column-digit b = by-seen (seen b)
  where
    by-seen : Seen b → (column_of b).value < 10
    by-seen (a_blank e) = rw e (omega arith)
    by-seen (a_digit d l e k) = rw k l
    by-seen (a_point e) = rw e (omega arith)
    by-seen (a-sign g e k) = rw k (omega arith)
    by-seen (a-mark e) = rw e (omega arith)
    by-seen (no_such k) = rw k (omega arith)
