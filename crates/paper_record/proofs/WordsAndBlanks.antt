-- A word is not blank, so it differs from a blank place; and a blank field has no pointer.
-- Assumes nothing.
use Prim.Native.Nat.{ℕ, ◌-◌, ◌<◌}
use mathlib.Core.Path.{◌≡◌, sym, ◌∙◌, refl}
use mathlib.Core.Bool.{Bool, true, false, cond, not}
use mathlib.Core.List.{List}
use native.Mathlib.Omega.{arith}
use native.Mathlib.Nat.{zero-add}
use lib.Dec.{eqb}
use lib.ListN.{get_or}
use borrow.Author.Tests.{eqb-true, eqb-false, ne_eqb, not-false}
use Rattle.laws.specs.Search.{first}
use Rattle.laws.proofs.Booleans.{and_left}
use Rattle.laws.proofs.Search.{first-pass}
use Rattle.paper_record.specs.Text.{is_blank}
use Rattle.paper_record.specs.Word.{blank_at, filled_at, blank_to, equal_to, is_word, word_end, filled_from, pointer_of}

filled-first : (f : List ℕ) → is_word 10 f ≡ true → blank_at f 0 ≡ false
unfolding is_word first
filled-first f e = by-test (blank_at f 0) refl (and_left (not (eqb (word_end 10 f) 0))
    (eqb (filled_from 10 f (word_end 10 f)) 10) e)
  where
    by-test : (b : Bool) → blank_at f 0 ≡ b → not (eqb (cond b 0 (first (blank_at f) 1 9)) 0) ≡ true → b ≡ false
    by-test true q h = sym h
    by-test false q h = refl

pub word_blank : (f : List ℕ) → is_word 10 f ≡ true → blank_to 10 f ≡ false
unfolding blank_to first
word_blank f e = rw (filled-first f e)

blank-first : (w : ℕ) (g : List ℕ) → 0 < w → blank_to w g ≡ true → blank_at g 0 ≡ true
unfolding blank_to
blank-first w g l e =
    let z : w - 0 ≡ w = omega arith in
    not-false (blank_at g 0)
    (first-pass (filled_at g) 0 w (eqb-true (first (filled_at g) 0 w) w (rw z at e) ∙ sym (zero-add w)) 0 (omega arith)
    (omega arith))

differ-first : (f g : List ℕ) → blank_at f 0 ≡ false → blank_at g 0 ≡ true → eqb (get_or f 0 0) (get_or g 0 0) ≡ false
differ-first f g a b =
    let x = eqb-false (get_or f 0 0) 32 a in
    let y = eqb-true (get_or g 0 0) 32 b in
    ne_eqb (get_or f 0 0) (get_or g 0 0) (λ e. x (e ∙ y))

-- a word is no blank place
pub word-differs : (f g : List ℕ) → is_word 10 f ≡ true → blank_to 10 g ≡ true → equal_to 10 f g ≡ false
unfolding equal_to first
word-differs f g a b = rw (differ-first f g (filled-first f a) (blank-first 10 g (omega arith) b))

pub heading-differs : (f g : List ℕ) → is_word 10 f ≡ true → blank_to 11 g ≡ true → equal_to 11 f g ≡ false
unfolding equal_to first
heading-differs f g a b = rw (differ-first f g (filled-first f a) (blank-first 11 g (omega arith) b))

-- the eleventh column of a blank field is blank
pub blank-pointer : (g : List ℕ) (p : ℕ) → blank_to 11 g ≡ true → is_blank p ≡ false → eqb p (pointer_of g) ≡ false
unfolding blank_to
blank-pointer g p e h =
    let w =
    not-false (blank_at g 10)
    (first-pass (filled_at g) 0 11 (eqb-true (first (filled_at g) 0 11) 11 e) 10 (omega arith) (omega arith)) in
    let x = eqb-true (get_or g 10 0) 32 w in
    ne_eqb p (pointer_of g) (λ q. eqb-false p 32 h (q ∙ x))
