-- The grammar is unambiguous: columns are one field at most.
--
-- A field is runs of blanks and runs of digits with other characters between them. A run ends where the first character
-- stands that is none of its own, so two fields that are written alike have the same first run and the same columns
-- behind it (`run-once`), and so on from part to part.
-- Assumes nothing.
use mathlib.Core.Path.{◌≡◌, refl, sym, ap, ◌∙◌, subst}
use mathlib.Core.Bool.{Bool, true, false, cond}
use mathlib.Core.List.{List, [], ◌∷◌, ◌++◌, append_assoc}
use Prim.Native.Nat.{ℕ, zero, suc, ◌+◌, ◌<◌, ◌≤◌}
use native.Mathlib.Omega.{arith}
use borrow.Author.Tests.{ne_eqb, le-leb}
use lib.Dec.{eqb, leb}
use lib.ListN.{length, length-replicate}
use Rattle.paper_number.specs.Grammar.{blanks, Digits, digits_text, Sign, unsigned, signed, sign_byte, sign_text, Opening}
use Rattle.paper_number.specs.Grammar.{by_sign, by_mark, by_bare, open_text, Tail, plain, power, tail_text, GoodTail, Field}
use Rattle.paper_number.specs.Grammar.{write, GoodField, Spells}

-- ---- a run, and what stands behind it

abbrev All : (ℕ → Bool) → List ℕ → Type 0
All test [] = Unit {0}
All test (b ∷ l) = (test b ≡ true) × All test l

-- the list does not go on with the run
abbrev Stops : (ℕ → Bool) → List ℕ → Type 0
Stops test [] = Unit {0}
Stops test (b ∷ l) = test b ≡ false

clash : {A : Type 0} (test : ℕ → Bool) {a b : ℕ} → a ≡ b → test a ≡ true → test b ≡ false → A
clash test {a} {b} e t f =
    let u : true ≡ false = sym t ∙ ap test e ∙ f in
    let z : ◌≡◌ {A = ℕ} 0 1 = cc in
    absurd (omega arith)

never : {A : Type 0} {b : ℕ} {l : List ℕ} → [] ≡ b ∷ l → A
never e = let z : ◌≡◌ {A = ℕ} 0 1 = cc in absurd (omega arith)

head-same : {a b : ℕ} {l r : List ℕ} → a ∷ l ≡ b ∷ r → a ≡ b
head-same e = cc

tail-same : {a b : ℕ} {l r : List ℕ} → a ∷ l ≡ b ∷ r → l ≡ r
tail-same e = cc

pub run-once : (test : ℕ → Bool) (p q x y : List ℕ) → All test p → All test q → Stops test x → Stops test y
    → p ++ x ≡ q ++ y → (p ≡ q) × (x ≡ y)
run-once test [] [] x y hp hq hx hy e = (refl, e)
run-once test [] (b ∷ q) [] y hp hq hx hy e = never e
run-once test [] (b ∷ q) (a ∷ x) y hp hq hx hy e = clash test (sym (head-same e)) hq.0 hx
run-once test (a ∷ p) [] x [] hp hq hx hy e = never (sym e)
run-once test (a ∷ p) [] x (b ∷ y) hp hq hx hy e = clash test (head-same e) hp.0 hy
run-once test (a ∷ p) (b ∷ q) x y hp hq hx hy e =
    let (f, g) = run-once test p q x y hp.1 hq.1 hx hy (tail-same e) in
    (rw (head-same e, f) refl, g)

-- ---- runs of blanks

abbrev blank : ℕ → Bool
blank b = eqb b 32

blanks-all : (k : ℕ) → All blank (blanks k)
blanks-all zero = tt
blanks-all (suc k) = (refl, blanks-all k)

blanks-once : (k j : ℕ) → blanks k ≡ blanks j → k ≡ j
blanks-once k j e = sym (length-replicate k 32) ∙ ap length e ∙ length-replicate j 32

gap-once : (k j : ℕ) (x y : List ℕ) → Stops blank x → Stops blank y → blanks k ++ x ≡ blanks j ++ y → (k ≡ j) × (x ≡ y)
gap-once k j x y hx hy e =
    let (f, g) = run-once blank (blanks k) (blanks j) x y (blanks-all k) (blanks-all j) hx hy e in
    (blanks-once k j f, g)

-- ---- runs of digits

abbrev digital : ℕ → Bool
digital b = cond (leb 48 b) (leb b 57) false

text-all : (ds : List ℕ) → Digits ds → All digital (digits_text ds)
text-all [] h = tt
text-all (d ∷ ds) h =
    let l : d < 10 = h.0 in
    (rw (le-leb 48 (48 + d) (omega arith), le-leb (48 + d) 57 (omega arith)) refl, text-all ds h.1)

digit-same : (d e : ℕ) → 48 + d ≡ 48 + e → d ≡ e
digit-same d e q = omega arith

text-once : (ds es : List ℕ) → digits_text ds ≡ digits_text es → ds ≡ es
text-once [] [] e = refl
text-once [] (b ∷ es) e = never e
text-once (a ∷ ds) [] e = never (sym e)
text-once (a ∷ ds) (b ∷ es) e = rw (digit-same a b (head-same e), text-once ds es (tail-same e)) refl

digits-once : (ds es x y : List ℕ) → Digits ds → Digits es → Stops digital x → Stops digital y
    → digits_text ds ++ x ≡ digits_text es ++ y → (ds ≡ es) × (x ≡ y)
digits-once ds es x y hd he hx hy e =
    let (f, g) = run-once digital (digits_text ds) (digits_text es) x y (text-all ds hd) (text-all es he) hx hy e in
    (text-once ds es f, g)

pub digits-right : (a b : List ℕ) → Digits (a ++ b) → Digits b
digits-right [] b h = h
digits-right (d ∷ a) b h = digits-right a b h.1

pub digits-left : (a b : List ℕ) → Digits (a ++ b) → Digits a
digits-left [] b h = tt
digits-left (d ∷ a) b h = (h.0, digits-left a b h.1)

-- ---- signs

sign_same : (g h : Bool) → sign_byte g ≡ sign_byte h → g ≡ h
sign_same false false e = refl
sign_same false true e = absurd (omega arith)
sign_same true false e = absurd (omega arith)
sign_same true true e = refl

sign_low : (g : Bool) → sign_byte g < 46
sign_low false = omega arith
sign_low true = omega arith

sign-blank : (g : Bool) → blank (sign_byte g) ≡ false
sign-blank false = refl
sign-blank true = refl

-- digits with their point hold no sign in front
no_sign : {A : Type 0} (g : Bool) (ds x y : List ℕ) → digits_text ds ++ (46 ∷ x) ≡ sign_byte g ∷ y → A
no_sign g [] x y e = let q = head-same e in absurd (omega (arith, sign_low g))
no_sign g (d ∷ ds) x y e = let q = head-same e in absurd (omega (arith, sign_low g))

sign-once : (s t : Sign) (ds es x y : List ℕ)
    → sign_text s ++ (digits_text ds ++ (46 ∷ x)) ≡ sign_text t ++ (digits_text es ++ (46 ∷ y))
    → (s ≡ t) × (digits_text ds ++ (46 ∷ x) ≡ digits_text es ++ (46 ∷ y))
sign-once unsigned unsigned ds es x y e = (refl, e)
sign-once unsigned (signed h) ds es x y e = no_sign h ds x _ e
sign-once (signed g) unsigned ds es x y e = no_sign g es y _ (sym e)
sign-once (signed g) (signed h) ds es x y e = (ap signed (sign_same g h (head-same e)), tail-same e)

digit-blank : (d : ℕ) → blank (48 + d) ≡ false
digit-blank d = ne_eqb (48 + d) 32 (λ e. omega arith)

front-stops : (s : Sign) (ds x : List ℕ) → Stops blank (sign_text s ++ (digits_text ds ++ (46 ∷ x)))
front-stops unsigned [] x = refl
front-stops unsigned (d ∷ ds) x = digit-blank d
front-stops (signed g) ds x = sign-blank g

-- ---- what opens an exponent: its blanks, then a character or two, or E and blanks

abbrev gap_of : Opening → ℕ
gap_of (by_sign k g) = k
gap_of (by_mark k g) = k
gap_of (by_bare k j) = k

abbrev after_gap : Opening → List ℕ
after_gap (by_sign k g) = sign_byte g ∷ []
after_gap (by_mark k g) = 69 ∷ sign_byte g ∷ []
after_gap (by_bare k j) = 69 ∷ blanks j

open-parts : (o : Opening) (x : List ℕ) → open_text o ++ x ≡ blanks (gap_of o) ++ (after_gap o ++ x)
open-parts (by_sign k g) x = append_assoc (blanks k) (sign_byte g ∷ []) x
open-parts (by_mark k g) x = append_assoc (blanks k) (69 ∷ sign_byte g ∷ []) x
open-parts (by_bare k j) x = append_assoc (blanks k) (69 ∷ blanks j) x

gap-stops : (o : Opening) (x : List ℕ) → Stops blank (after_gap o ++ x)
gap-stops (by_sign k g) x = sign-blank g
gap-stops (by_mark k g) x = refl
gap-stops (by_bare k j) x = refl

text-stops : (ds : List ℕ) → Stops blank (digits_text ds)
text-stops [] = tt
text-stops (d ∷ ds) = digit-blank d

-- a sign is no blank and no digit
no_bare : {A : Type 0} (g : Bool) (j : ℕ) (ds x : List ℕ) → sign_byte g ∷ x ≡ blanks j ++ digits_text ds → A
no_bare g zero [] x e = never (sym e)
no_bare g zero (d ∷ ds) x e = let q = head-same e in absurd (omega (arith, sign_low g))
no_bare g (suc j) ds x e = clash blank (sym (head-same e)) refl (sign-blank g)

no-mark : {A : Type 0} (g : Bool) {x y : List ℕ} → sign_byte g ∷ x ≡ 69 ∷ y → A
no-mark g e = let q = head-same e in absurd (omega (arith, sign_low g))

after-once : (o p : Opening) (ds es : List ℕ) → gap_of o ≡ gap_of p
    → after_gap o ++ digits_text ds ≡ after_gap p ++ digits_text es
    → (o ≡ p) × (ds ≡ es)
after-once (by_sign k g) (by_sign j h) ds es q e =
    (rw (q, sign_same g h (head-same e)) refl, text-once ds es (tail-same e))
after-once (by_sign k g) (by_mark j h) ds es q e = no-mark g e
after-once (by_sign k g) (by_bare j i) ds es q e = no-mark g e
after-once (by_mark k g) (by_sign j h) ds es q e = no-mark h (sym e)
after-once (by_mark k g) (by_mark j h) ds es q e =
    let r = tail-same e in
    (rw (q, sign_same g h (head-same r)) refl, text-once ds es (tail-same r))
after-once (by_mark k g) (by_bare j i) ds es q e = no_bare g i es _ (tail-same e)
after-once (by_bare k i) (by_sign j h) ds es q e = no-mark h (sym e)
after-once (by_bare k i) (by_mark j h) ds es q e = no_bare h i ds _ (sym (tail-same e))
after-once (by_bare k i) (by_bare j l) ds es q e =
    let (f, g) = gap-once i l (digits_text ds) (digits_text es) (text-stops ds) (text-stops es) (tail-same e) in
    (rw (q, f) refl, text-once ds es g)

power-once : (o p : Opening) (ds es : List ℕ) → open_text o ++ digits_text ds ≡ open_text p ++ digits_text es
    → power o ds ≡ power p es
power-once o p ds es e =
    let (f, g) =
    gap-once (gap_of o) (gap_of p) (after_gap o ++ digits_text ds) (after_gap p ++ digits_text es)
    (gap-stops o (digits_text ds)) (gap-stops p (digits_text es))
    (sym (open-parts o (digits_text ds)) ∙ e ∙ open-parts p (digits_text es)) in
    let (q, r) = after-once o p ds es f g in
    rw (q, r) refl

-- ---- the tail

all_right : (test : ℕ → Bool) (p q : List ℕ) → All test (p ++ q) → All test q
all_right test [] q h = h
all_right test (b ∷ p) q h = all_right test p q h.1

-- an exponent has a digit, which is no blank
no_power : {A : Type 0} (k : ℕ) (o : Opening) (ds : List ℕ) → 1 ≤ length ds → blanks k ≡ open_text o ++ digits_text ds → A
no_power k o [] l e = absurd (omega arith)
no_power k o (d ∷ ds) l e =
    let h = all_right blank (open_text o) (digits_text (d ∷ ds)) (subst (λ (x : List ℕ). All blank x) e (blanks-all k)) in
    clash blank {a = 48 + d} refl h.0 (digit-blank d)

tail-once : (t u : Tail) → GoodTail t → GoodTail u → tail_text t ≡ tail_text u → t ≡ u
tail-once (plain k) (plain j) ht hu e = ap plain (blanks-once k j e)
tail-once (plain k) (power p es) ht hu e = no_power k p es hu.1 e
tail-once (power o ds) (plain j) ht hu e = no_power j o ds ht.1 (sym e)
tail-once (power o ds) (power p es) ht hu e = power-once o p ds es e

open-stops : (o : Opening) (x : List ℕ) → Stops digital (open_text o ++ x)
open-stops (by_sign zero false) x = refl
open-stops (by_sign zero true) x = refl
open-stops (by_sign (suc k) g) x = refl
open-stops (by_mark zero g) x = refl
open-stops (by_mark (suc k) g) x = refl
open-stops (by_bare zero j) x = refl
open-stops (by_bare (suc k) j) x = refl

tail-stops : (t : Tail) → Stops digital (tail_text t)
tail-stops (plain zero) = tt
tail-stops (plain (suc k)) = refl
tail-stops (power o ds) = open-stops o (digits_text ds)

-- ---- the field

same-field : {k j : ℕ} {s t : Sign} {a b c d : List ℕ} {u v : Tail} → k ≡ j → s ≡ t → a ≡ b → c ≡ d → u ≡ v
    → ◌≡◌ {A = Field} (record { lead = k; sign = s; whole = a; part = c; tail = u })
    (record { lead = j; sign = t; whole = b; part = d; tail = v })
same-field e f g h i = rw (e, f, g, h, i) refl

write-once : (f g : Field) → GoodField f → GoodField g → write f ≡ write g → f ≡ g
unfolding write
write-once f g hf hg e =
    let x = digits_text f.part ++ tail_text f.tail in
    let y = digits_text g.part ++ tail_text g.tail in
    let (a, e₁) =
    gap-once f.lead g.lead (sign_text f.sign ++ (digits_text f.whole ++ (46 ∷ x)))
    (sign_text g.sign ++ (digits_text g.whole ++ (46 ∷ y)))
    (front-stops f.sign f.whole x) (front-stops g.sign g.whole y) e in
    let (b, e₂) = sign-once f.sign g.sign f.whole g.whole x y e₁ in
    let (c, e₃) =
    digits-once f.whole g.whole (46 ∷ x) (46 ∷ y)
    (digits-left f.whole f.part hf.digits) (digits-left g.whole g.part hg.digits) refl refl e₂ in
    let (d, e₄) =
    digits-once f.part g.part (tail_text f.tail) (tail_text g.tail)
    (digits-right f.whole f.part hf.digits) (digits-right g.whole g.part hg.digits)
    (tail-stops f.tail) (tail-stops g.tail) (tail-same e₃) in
    same-field a b c d (tail-once f.tail g.tail hf.tail hg.tail e₄)

pub once : {l : List ℕ} {f g : Field} → Spells l f → Spells l g → f ≡ g
once {l} {f} {g} s t = write-once f g s.good t.good (s.same ∙ sym t.same)
