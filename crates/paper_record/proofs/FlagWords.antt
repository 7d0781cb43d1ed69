-- The words FLAG and DECAY-FLAG: by their columns, and by the letter that they start with.
-- Assumes nothing.
use Prim.Native.Nat.{ℕ}
use mathlib.Core.Path.{◌≡◌, refl, sym, ◌∙◌}
use mathlib.Core.Bool.{Bool, true, false, ◌||◌}
use mathlib.Core.Logic.{◌↔◌}
use mathlib.Core.List.{List, []}
use native.Mathlib.Omega.{arith}
use borrow.Author.Tests.{eq-eqb}
use lib.Dec.{eqb}
use lib.ListN.{get_or}
use Rattle.laws.specs.Search.{first}
use Rattle.laws.proofs.Booleans.{differ, or_left, or_right}
use Rattle.paper_record.specs.Text.{text}
use Rattle.paper_record.specs.Word.{equal_to}
use Rattle.paper_record.specs.Same.{SameColumns}
use Rattle.paper_record.proofs.EqualColumns.{equal-at, at-equal}
use Rattle.paper_record.specs.Flags.{is_flag, is_decay_flag, is_flag_heading}

-- ---- by their columns

word-columns : (f w : List ℕ) → (equal_to 10 f w ≡ true) ↔ SameColumns 10 f w
word-columns f w = (equal-at 10 f w, at-equal 10 f w)

pub flag-columns : (f : List ℕ) → (is_flag f ≡ true) ↔ SameColumns 10 f (text "FLAG      ")
unfolding is_flag
flag-columns f = word-columns f (text "FLAG      ")

pub decay-columns : (f : List ℕ) → (is_decay_flag f ≡ true) ↔ SameColumns 10 f (text "DECAY-FLAG")
unfolding is_decay_flag
decay-columns f = word-columns f (text "DECAY-FLAG")

pub either-word : (f : List ℕ) → is_flag_heading f ≡ (is_flag f || is_decay_flag f)
unfolding is_flag_heading
either-word f = refl

-- ---- by their first letters

pub no-columns : is_flag_heading [] ≡ false
unfolding is_flag_heading is_flag is_decay_flag equal_to first
no-columns = refl

other_word : (f w : List ℕ) (letter : ℕ) → get_or w 0 0 ≡ letter → eqb (get_or f 0 0) letter ≡ false
    → equal_to 10 f w ≡ false
other_word f w letter e n = by-test (equal_to 10 f w) refl
  where
    by-test : (b : Bool) → equal_to 10 f w ≡ b → b ≡ false
    by-test true q = differ (sym (eq-eqb (get_or f 0 0) letter (equal-at 10 f w q 0 (omega arith) ∙ e)) ∙ n)
    by-test false q = refl

-- neither F nor D
pub no-letter : (f : List ℕ) → (eqb (get_or f 0 0) 70 || eqb (get_or f 0 0) 68) ≡ false → is_flag_heading f ≡ false
unfolding is_flag_heading is_flag is_decay_flag
no-letter f e =
    let a = eqb (get_or f 0 0) 70 in
    let b = eqb (get_or f 0 0) 68 in
    rw (
      other_word f (text "FLAG      ") 70 refl (or_left a b e),
      other_word f (text "DECAY-FLAG") 68 refl (or_right a b e),
    )
