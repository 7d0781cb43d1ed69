-- Blank and equal columns, words, units and pointers: what is computed is what is said plainly.
-- Assumes nothing.
use Prim.Native.Nat.{ℕ, zero, suc, ◌+◌, ◌-◌, ◌<◌, ◌≤◌}
use mathlib.Core.Path.{◌≡◌, refl, sym, ap, ◌∙◌}
use mathlib.Core.Bool.{Bool, true, false, not, ◌||◌}
use mathlib.Core.List.{List}
use native.Mathlib.Omega.{arith}
use native.Mathlib.Nat.{zero-add}
use lib.Dec.{eqb, leb}
use lib.ListN.{length, get_or, take, length-replicate, get_or-replicate, get_or-eq_default}
use lib.Seq.{get_or-take, length-take-le, ext_get_or}
use borrow.Author.Tests.{eqb-true, eqb-false, eq-eqb, ne_eqb, leb-true, le-leb, not-true, not-false}
use Rattle.laws.specs.Search.{first}
use Rattle.laws.proofs.Booleans.{differ, and_both, and_left, and_right, or-first, or-second, or-other}
use Rattle.laws.proofs.Counting.{first-before, first_past}
use Rattle.laws.proofs.Search.{either, first-pass, first_to, pass-first}
use Rattle.paper_number.specs.Grammar.{blanks}
use Rattle.paper_record.specs.Text.{is_blank, is_from}
use Rattle.paper_record.specs.Word.{blank_at, filled_at, filled_from, blank_to, word_end, is_word, pointer_of}
use Rattle.paper_record.specs.Faults.{bad_pointer}
use Rattle.paper_record.specs.Faults.{is_pointer, is_unit_word}
use Rattle.paper_record.specs.Plain.{Word, UnitWord, PointerOrBlank, no_pointer, a_numeral, a_letter}
use Rattle.paper_record.specs.Plain.{BlankExactly, EqualExactly, TakenExactly, WordExactly, UnitExactly}
use Rattle.paper_record.specs.Plain.{PointerExactly}
use Rattle.paper_record.proofs.EqualColumns.{equal-at, at-equal}

-- ---- a column that says something is there

pub there : (f : List ℕ) (i : ℕ) → 1 ≤ get_or f i 0 → i < length f
there f i h =
    either i (length f) (λ l. l)
    (λ l. let z : get_or f i 0 ≡ 0 = get_or-eq_default f 0 l in absurd (omega arith))

pub all_there : (w : ℕ) (f : List ℕ) → ((i : ℕ) → i < w → 1 ≤ get_or f i 0) → w ≤ length f
all_there zero f h = omega arith
all_there (suc w) f h = let l : w < length f = there f w (h w (omega arith)) in omega arith

-- ---- blank columns

pub blank-at : (w : ℕ) (f : List ℕ) → blank_to w f ≡ true → (i : ℕ) → i < w → get_or f i 0 ≡ 32
unfolding blank_to
blank-at w f e i l =
    let z : w - 0 ≡ w = omega arith in
    eqb-true (get_or f i 0) 32
    (not-false (blank_at f i)
    (first-pass (filled_at f) 0 w (eqb-true (first (filled_at f) 0 w) w (rw z at e) ∙ sym (zero-add w)) i (omega arith)
    (omega arith)))

pub at-blank : (w : ℕ) (f : List ℕ) → ((i : ℕ) → i < w → get_or f i 0 ≡ 32) → blank_to w f ≡ true
unfolding blank_to
at-blank w f h =
    let z : w - 0 ≡ w = omega arith in
    let a : first (filled_at f) 0 w ≡ 0 + w =
    pass-first (filled_at f) 0 w (λ k l m. rw (eq-eqb (get_or f k 0) 32 (h k (omega arith)))) in
    rw z (eq-eqb (first (filled_at f) 0 w) w (a ∙ zero-add w))

pub columns-blank : (w : ℕ) (f : List ℕ) → ((i : ℕ) → i < w → get_or f i 0 ≡ 32) → take w f ≡ blanks w
columns-blank w f h =
    let n : w ≤ length f = all_there w f (λ i l. let e = h i l in omega arith) in
    let m : length (take w f) ≡ w = length-take-le w f n in
    ext_get_or 0 (take w f) (blanks w) (m ∙ sym (length-replicate w 32))
    (λ i l.
    let k : i < w = omega arith in
    get_or-take w f i 0 k ∙ h i k ∙ sym (get_or-replicate w i 32 0 k))

pub blank-columns : (w : ℕ) (f : List ℕ) → take w f ≡ blanks w → (i : ℕ) → i < w → get_or f i 0 ≡ 32
blank-columns w f e i l =
    sym (get_or-take w f i 0 l) ∙ ap (λ (x : List ℕ). get_or x i 0) e ∙ get_or-replicate w i 32 0 l

pub blank-exactly : BlankExactly
blank-exactly w f = (λ e. columns-blank w f (blank-at w f e), λ b. at-blank w f (blank-columns w f b))

-- ---- equal columns

pub equal-exactly : EqualExactly
equal-exactly w a b = (equal-at w a b, at-equal w a b)

pub taken-exactly : TakenExactly
taken-exactly w a b p q = (
  λ s.
      let m : length (take w a) ≡ w = length-take-le w a p in
      ext_get_or 0 (take w a) (take w b) (m ∙ sym (length-take-le w b q))
      (λ i l.
      let k : i < w = omega arith in
      get_or-take w a i 0 k ∙ s i k ∙ sym (get_or-take w b i 0 k)),
  λ e i l. sym (get_or-take w a i 0 l) ∙ ap (λ (x : List ℕ). get_or x i 0) e ∙ get_or-take w b i 0 l,
)

-- ---- words

pub not_none : (n : ℕ) → (n ≡ 0 → ⊥) → 1 ≤ n
not_none n f = either 0 n (λ a. omega arith) (λ a. absurd (f (omega arith)))

word-said : (w : ℕ) (f : List ℕ) → is_word w f ≡ true → Word w f
unfolding is_word
word-said w f e =
    let n = word_end w f in
    let a = and_left (not (eqb n 0)) (eqb (filled_from w f n) w) e in
    let b = eqb-true (filled_from w f n) w (and_right (not (eqb n 0)) (eqb (filled_from w f n) w) e) in
    let m : n ≤ 0 + w = first_to (blank_at f) 0 w in
    let z : n + (w - n) ≡ w = omega arith in
    record {
      filled = n;
      some = not_none n (eqb-false n 0 (not-true (eqb n 0) a));
      most = omega arith;
      inside = λ i l.
          eqb-false (get_or f i 0) 32 (first-before (blank_at f) 0 w i (omega arith) l (omega arith));
      behind = λ i l k.
          eqb-true (get_or f i 0) 32
          (not-false (blank_at f i) (first-pass (filled_at f) n (w - n) (b ∙ sym z) i l (omega arith)));
    }

-- the first blank stands behind the filled columns
word-ends : (w : ℕ) (f : List ℕ) (x : Word w f) → word_end w f ≡ x.filled
word-ends w f x =
    let n = x.filled in
    let m = x.most in
    let l : n ≤ word_end w f =
    first_past (blank_at f) 0 w n (omega arith) (omega arith) (λ k a b. ne_eqb (get_or f k 0) 32 (x.inside k b)) in
    let u : word_end w f ≤ 0 + w = first_to (blank_at f) 0 w in
    either n (word_end w f)
    (λ a.
    let t = eq-eqb (get_or f n 0) 32 (x.behind n (omega arith) (omega arith)) in
    differ (sym t ∙ first-before (blank_at f) 0 w n (omega arith) a (omega arith)))
    (λ a. omega arith)

said-word : (w : ℕ) (f : List ℕ) → Word w f → is_word w f ≡ true
unfolding is_word
said-word w f x =
    let n = x.filled in
    let s = x.some in
    let m = x.most in
    let a : first (filled_at f) n (w - n) ≡ n + (w - n) =
    pass-first (filled_at f) n (w - n) (λ k l u. rw (eq-eqb (get_or f k 0) 32 (x.behind k l (omega arith)))) in
    let b : first (filled_at f) n (w - n) ≡ w = a ∙ omega arith in
    rw (word-ends w f x) (and_both (ap not (ne_eqb n 0 (λ z. omega arith))) (eq-eqb (filled_from w f n) w b))

pub word-exactly : WordExactly
word-exactly w f = (word-said w f, said-word w f)

pub unit-exactly : UnitExactly
unfolding is_unit_word
unit-exactly f = (
  λ e. record {
    word = word-said 10 f (and_left (is_word 10 f) (is_blank (pointer_of f)) e);
    eleventh = eqb-true (pointer_of f) 32 (and_right (is_word 10 f) (is_blank (pointer_of f)) e);
  },
  λ u. and_both (said-word 10 f u.word) (eq-eqb (pointer_of f) 32 u.eleventh),
)

-- ---- pointers

pointer-said : (b : ℕ) (s t : Bool) → is_blank b ≡ s → is_from "1" "9" b ≡ t → (s || is_pointer b) ≡ true
    → PointerOrBlank b
pointer-said b true t p q e = no_pointer (eqb-true b 32 p)
pointer-said b false true p q e =
    a_numeral (leb-true 49 b (and_left (leb 49 b) (leb b 57) q)) (leb-true b 57 (and_right (leb 49 b) (leb b 57) q))
pointer-said b false false p q e =
    let c = or-other (is_from "1" "9" b) (is_from "A" "Z" b) e q in
    a_letter (leb-true 65 b (and_left (leb 65 b) (leb b 90) c)) (leb-true b 90 (and_right (leb 65 b) (leb b 90) c))

said-pointer : (b : ℕ) → PointerOrBlank b → (is_blank b || is_pointer b) ≡ true
said-pointer b (no_pointer e) = or-first (is_blank b) (is_pointer b) (eq-eqb b 32 e)
said-pointer b (a_numeral p q) =
    or-second (is_blank b) (is_pointer b)
    (or-first (is_from "1" "9" b) (is_from "A" "Z" b) (and_both (le-leb 49 b p) (le-leb b 57 q)))
said-pointer b (a_letter p q) =
    or-second (is_blank b) (is_pointer b)
    (or-second (is_from "1" "9" b) (is_from "A" "Z" b) (and_both (le-leb 65 b p) (le-leb b 90 q)))

pub pointer-exactly : PointerExactly
unfolding bad_pointer
pointer-exactly f = (
  λ e.
      pointer-said (pointer_of f) (is_blank (pointer_of f)) (is_from "1" "9" (pointer_of f)) refl refl
      (not-false (is_blank (pointer_of f) || is_pointer (pointer_of f)) e),
  λ p. ap not (said-pointer (pointer_of f) p),
)
