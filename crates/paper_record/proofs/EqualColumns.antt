-- Columns that are equal, one by one and as a whole. Assumes nothing.
use Prim.Native.Nat.{ℕ, ◌<◌, ◌≤◌}
use mathlib.Core.Path.{◌≡◌, refl, sym, ap, ◌∙◌}
use mathlib.Core.Bool.{Bool, true, false}
use mathlib.Core.List.{List, [], ◌∷◌}
use native.Mathlib.Omega.{arith}
use lib.Dec.{eqb}
use lib.ListN.{length, take, get_or}
use lib.Pointwise.{pointwise, bytes_decides}
use lib.Seq.{get_or-take, ext_get_or}
use borrow.Author.Tests.{eqb-true, eq-eqb, not-false}
use Rattle.std.proofs.Common.{length-take-le}
use Rattle.laws.specs.Search.{first}
use Rattle.laws.proofs.Booleans.{differ}
use Rattle.laws.proofs.Search.{first-pass, pass-first}
use Rattle.paper_record.specs.Word.{differ_at, equal_to}

pub equal-at : (w : ℕ) (a b : List ℕ) → equal_to w a b ≡ true → (i : ℕ) → i < w → get_or a i 0 ≡ get_or b i 0
unfolding equal_to
equal-at w a b e i h =
    eqb-true (get_or a i 0) (get_or b i 0)
    (not-false (eqb (get_or a i 0) (get_or b i 0))
    (first-pass (differ_at a b) 0 w (eqb-true (first (differ_at a b) 0 w) w e ∙ omega arith) i (omega arith)
    (omega arith)))

pub at-equal : (w : ℕ) (a b : List ℕ) → ((i : ℕ) → i < w → get_or a i 0 ≡ get_or b i 0) → equal_to w a b ≡ true
unfolding equal_to
at-equal w a b h =
    eq-eqb (first (differ_at a b) 0 w) w
    (pass-first (differ_at a b) 0 w (λ k l m. rw (eq-eqb (get_or a k 0) (get_or b k 0) (h k (omega arith)))) ∙ omega arith)

-- two that are equal to a third
pub equal-both : (w : ℕ) (a b c : List ℕ) → equal_to w a c ≡ true → equal_to w b c ≡ true → equal_to w a b ≡ true
equal-both w a b c p q = at-equal w a b (λ i h. equal-at w a c p i h ∙ sym (equal-at w b c q i h))

pub equal-taken : (w : ℕ) (a : List ℕ) → equal_to w a (take w a) ≡ true
equal-taken w a = at-equal w a (take w a) (λ i h. sym (get_or-take w a i 0 h))

-- what `==` answers of the first w columns of both
pub equal-parts : (w : ℕ) (a b : List ℕ) → w ≤ length a → w ≤ length b → pointwise eqb (take w a) (take w b) ≡ equal_to w a b
equal-parts w a b h k = by_tests (pointwise eqb (take w a) (take w b)) (equal_to w a b) refl refl
  where
    long : length (take w a) ≡ length (take w b)
    long = length-take-le w a h ∙ sym (length-take-le w b k)

    whole : equal_to w a b ≡ true → take w a ≡ take w b
    whole e =
        ext_get_or 0 (take w a) (take w b) long
        (λ i l.
        let m : i < w = let z = length-take-le w a h in omega arith in
        get_or-take w a i 0 m ∙ equal-at w a b e i m ∙ sym (get_or-take w b i 0 m))

    each : take w a ≡ take w b → equal_to w a b ≡ true
    each e =
        at-equal w a b
        (λ i l.
        sym (get_or-take w a i 0 l) ∙ ap (λ (x : List ℕ). get_or x i 0) e ∙ get_or-take w b i 0 l)

    by_tests : (x y : Bool) → pointwise eqb (take w a) (take w b) ≡ x → equal_to w a b ≡ y → x ≡ y
    by_tests true true p q = refl
    by_tests true false p q = differ (sym (each ((bytes_decides (take w a) (take w b)).0 p)) ∙ q)
    by_tests false true p q = differ (sym ((bytes_decides (take w a) (take w b)).1 (whole q)) ∙ p)
    by_tests false false p q = refl
