-- The characters of a field: its columns from first to last non-blank, and no blank in a canonical text.
-- Assumes nothing.
use mathlib.Core.Path.{◌≡◌, refl, ap, ◌∙◌}
use mathlib.Core.Bool.{Bool, true, false}
use mathlib.Core.List.{List, [], ◌∷◌, ◌++◌, append-nil}
use Prim.Native.Nat.{ℕ, zero, suc, ◌+◌, ◌*◌, ◌^◌, ◌<◌, ◌≤◌}
use native.Mathlib.Nat.{le_of_suc-le-suc, not-suc-le-zero}
use native.Mathlib.Omega.{arith}
use borrow.Author.Tests.{ne_eqb}
use lib.Dec.{eqb}
use lib.ListN.{length, get_or, length-append}
use Rattle.std.specs.Prelude.{Option, Some, None}
use Rattle.paper_number.specs.declared.types.Decimal.{Decimal}
use Rattle.paper_canonical.specs.declared.types.Exponent.{Exponent}
use Rattle.paper_number.specs.Grammar.{blanks, digits_text, Sign, unsigned, signed, sign_text, by_sign, open_text}
use Rattle.paper_number.specs.Grammar.{Tail, plain, power, tail_text, GoodTail, Field, write, GoodField}
use Rattle.paper_number.specs.Value.{Normal}
use Rattle.paper_canonical.specs.Canonical.{columns, tail_columns, past_blanks, one_more, up_to_last, span}
use Rattle.paper_canonical.specs.Closed.{digits_n, shift, layout_of, sign_of, tail_of, laid_out}
use Rattle.paper_number.specs.Count.{count}
use Rattle.paper_canonical.specs.Closed.{shortest, canonical_text}
use Rattle.paper_number.proofs.Bounds.{text-length}
use Rattle.paper_canonical.proofs.Winner.{shortest-fine, text-columns}

-- ---- from first to last non-blank

skip : (n : ℕ) (x : List ℕ) → past_blanks (blanks n ++ x) ≡ past_blanks x
skip zero x = refl
skip (suc n) x = skip n x

starts : (s : Sign) (w r : List ℕ)
    → past_blanks (sign_text s ++ (digits_text w ++ (46 ∷ r))) ≡ sign_text s ++ (digits_text w ++ (46 ∷ r))
starts unsigned [] r = refl
starts unsigned (d ∷ w) r = rw (ne_eqb (48 + d) 32 (omega arith)) refl
starts (signed true) w r = refl
starts (signed false) w r = refl

more-filled : (n : ℕ) → one_more n false ≡ suc n
more-filled zero = refl
more-filled (suc n) = refl

more-behind : (n : ℕ) (t : Bool) → 0 < n → one_more n t ≡ suc n
more-behind zero t h = absurd (omega arith)
more-behind (suc n) t h = refl

-- what stands before a column that is not blank counts
ahead : (y z : List ℕ) → 0 < up_to_last z → up_to_last (y ++ z) ≡ length y + up_to_last z
ahead [] z h = omega arith
ahead (b ∷ y) z h =
    let e = ahead y z h in
    more-behind (up_to_last (y ++ z)) (eqb b 32) (omega arith) ∙ omega arith

last-blanks : (k : ℕ) → up_to_last (blanks k) ≡ 0
last-blanks zero = refl
last-blanks (suc k) = rw (last-blanks k) refl

last-text : (ds : List ℕ) (k : ℕ) → up_to_last (digits_text ds ++ blanks k) ≡ length ds
last-text [] k = last-blanks k
last-text (d ∷ ds) k = rw (last-text ds k, ne_eqb (48 + d) 32 (omega arith)) (more-filled (length ds))

last-tail : (p : List ℕ) (t : Tail) → GoodTail t → up_to_last (digits_text p ++ tail_text t) ≡ length p + tail_columns t
last-tail p (plain k) g = last-text p k ∙ omega arith
last-tail p (power o ds) g =
    let e : up_to_last (digits_text ds) ≡ length ds = rw (← append-nil (digits_text ds)) (last-text ds 0) in
    let a = ahead (open_text o) (digits_text ds) (omega (arith, g.1)) in
    ahead (digits_text p) (open_text o ++ digits_text ds) (omega (arith, g.1)) ∙ omega (arith, text-length p)

pub columns_span : (f : Field) → GoodField f → span (write f) ≡ columns f
unfolding write columns
columns_span f h =
    let r = digits_text f.part ++ tail_text f.tail in
    let e : up_to_last (46 ∷ r) ≡ suc (length f.part + tail_columns f.tail) =
    ap (λ (n : ℕ). one_more n false) (last-tail f.part f.tail h.tail)
    ∙ more-filled (length f.part + tail_columns f.tail) in
    let a = ahead (digits_text f.whole) (46 ∷ r) (omega arith) in
    ap up_to_last (skip f.lead (sign_text f.sign ++ (digits_text f.whole ++ (46 ∷ r))) ∙ starts f.sign f.whole r)
    ∙ ahead (sign_text f.sign) (digits_text f.whole ++ (46 ∷ r)) (omega arith)
    ∙ omega (arith, text-length f.whole)

-- ---- no blank

abbrev Filled : List ℕ → Type 0
Filled [] = Unit {0}
Filled (b ∷ l) = (b ≡ 32 → ⊥) × Filled l

both-filled : (a b : List ℕ) → Filled a → Filled b → Filled (a ++ b)
both-filled [] b h k = k
both-filled (x ∷ a) b h k = (h.0, both-filled a b h.1 k)

text-filled : (ds : List ℕ) → Filled (digits_text ds)
text-filled [] = tt
text-filled (d ∷ ds) = (λ e. omega arith, text-filled ds)

sign-filled : (n : Bool) → Filled (sign_text (sign_of n))
sign-filled true = (λ e. omega arith, tt)
sign-filled false = tt

exponent-filled : (s : Bool) (ds : List ℕ) → Filled (tail_text (power (by_sign 0 s) ds))
exponent-filled true ds = (λ q. omega arith, text-filled ds)
exponent-filled false ds = (λ q. omega arith, text-filled ds)

tail-filled : (x : Option Exponent) → Filled (tail_text (tail_of x))
tail-filled (Some e) = exponent-filled e.below (digits_n e.long e.size)
tail-filled None = tt

at : (l : List ℕ) → Filled l → (i : ℕ) → i < length l → get_or l i 0 ≡ 32 → ⊥
at [] f i h e = not-suc-le-zero h
at (b ∷ l) f zero h e = f.0 e
at (b ∷ l) f (suc i) h e = at l f.1 i (le_of_suc-le-suc h) e

all-filled : (v : Decimal) → Filled (canonical_text v)
unfolding canonical_text shortest laid_out write
all-filled v =
    let l = layout_of (count v.coefficient) v.power in
    let c = v.coefficient * 10 ^ l.zeros in
    let a = digits_n l.whole (shift l.part c) in
    let b = digits_n l.part c in
    let t = tail_text (tail_of l.exponent) in
    both-filled (sign_text (sign_of v.negative))
    (digits_text a ++ (46 ∷ (digits_text b ++ t)))
    (sign-filled v.negative)
    (both-filled (digits_text a) (46 ∷ (digits_text b ++ t)) (text-filled a) (
      λ e. omega arith,
      both-filled (digits_text b) t (text-filled b) (tail-filled l.exponent),
    ))

pub no-blank : (v : Decimal) (i : ℕ) → i < length (canonical_text v) → get_or (canonical_text v) i 0 ≡ 32 → ⊥
no-blank v i h e = at (canonical_text v) (all-filled v) i h e

-- ---- two characters at least

some-columns : (f : Field) → GoodField f → 2 ≤ columns f
unfolding columns
some-columns f g = omega (arith, length-append f.whole f.part, g.some)

pub two : (v : Decimal) → Normal v → 2 ≤ length (canonical_text v)
two v h = omega (arith, text-columns v h, some-columns (shortest v) (shortest-fine v h).good)
