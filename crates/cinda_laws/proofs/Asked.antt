-- The question for a line: what is answered, and that nothing else is.
-- Assumes nothing.
use Prim.Native.Nat.{ℕ, ◌-◌}
use mathlib.Core.Path.{◌≡◌, refl, sym, ap, ◌∙◌}
use mathlib.Core.Bool.{Bool, true, false}
use mathlib.Core.List.{List}
use native.Mathlib.Omega.{arith}
use lib.Dec.{eqb}
use borrow.Author.Tests.{eqb-true, eqb-false, ne_eqb, le-leb}
use Rattle.laws.proofs.Booleans.{differ, and_both}
use Rattle.paper_cinda.specs.declared.types.CindaNo.{CindaNo}
use Rattle.paper_cinda.specs.declared.types.LinesAnswer.{LinesAnswer}
use Rattle.paper_cinda.specs.declared.types.Line.{Line}
use Rattle.paper_cinda.specs.declared.types.LineAnswer.{LineAnswer}
use Rattle.paper_cinda.specs.Layout.{lines_count}
use Rattle.paper_cinda.specs.Check.{check_of}
use Rattle.paper_cinda.specs.Apart.{line_of, has_line, asked_for, line_asked}
use Rattle.paper_cinda.proofs.Lines.{line-there}
use Rattle.cinda_laws.specs.Said.{WholeLines, the_line, told, LinesSaid, by_none, EachGood}
use Rattle.cinda_laws.specs.Apart.{LineSays, blank_line, answered, HasLine, LineAnswered, lines_refused, no_such_line}
use Rattle.cinda_laws.specs.Apart.{a_line, AskedSays, AskedAlone}
use Rattle.cinda_laws.proofs.Lines.{lines-count, one-count, lines-first, lines-alone}
use Rattle.cinda_laws.proofs.Answers.{good-exactly}
use Rattle.cinda_laws.proofs.Apart.{line-said, one_line}

module _ (s : List ℕ) (n : CindaNo) where
  -- ---- by the tests

  abbrev pub good_test : Bool
  good_test = eqb (check_of s).number 0

  abbrev here : List ℕ
  here = the_line s (n.0 - 1)

  refused-answer : good_test ≡ false → line_asked s n ≡ answered (check_of s) blank_line
  unfolding line_asked asked_for
  refused-answer e = rw (e, e) refl

  no-line-answer : good_test ≡ true → has_line s n ≡ false → line_asked s n ≡ answered (told 34 0 0) blank_line
  unfolding line_asked asked_for
  no-line-answer e h = rw (e, h) refl

  line-answer : good_test ≡ true → has_line s n ≡ true → line_asked s n ≡ answered (told 0 0 0) (line_of here)
  unfolding line_asked asked_for
  line-answer e h = rw (e, h) refl

  -- ---- what they say

  pub has-line : WholeLines s → has_line s n ≡ true → HasLine s n
  has-line w e =
      let c = lines-count s w in
      let t = line-there s n e in
      let f = t.from_one in
      let m = t.to_last in
      record { whole = w; from = omega arith; to = omega arith }

  pub line-has : HasLine s n → has_line s n ≡ true
  line-has h =
      let c = lines-count s h.whole in
      let m = h.to in
      and_both (le-leb 1 n.0 h.from) (le-leb n.0 (lines_count s) (omega arith))

  pub lines-good : good_test ≡ true → EachGood s
  lines-good e = (good-exactly s).0 (record { good = eqb-true (check_of s).number 0 e })

  pub said-none : good_test ≡ true → LinesSaid s (told 0 0 0)
  said-none e = let g = lines-good e in by_none g.whole g.each

  pub none_said : LinesSaid s (told 0 0 0) → good_test ≡ true
  none_said h = rw (← lines-alone s (told 0 0 0) h) refl

  -- the line in hand is good
  line-here : good_test ≡ true → HasLine s n → LineSays here (line_of here)
  line-here e h =
      let a = h.from in
      let b = h.to in
      let g = lines-good e in
      let c = one-count s h.whole g.whole in
      line-said here (g.each (n.0 - 1) (omega arith))

  -- ---- what is answered

  asked : (b c : Bool) → good_test ≡ b → has_line s n ≡ c → LineAnswered s n (line_asked s n)
  asked false c e h =
      rw (refused-answer e) (lines_refused (check_of s) (lines-first s) (eqb-false (check_of s).number 0 e))
  asked true false e h =
      rw (no-line-answer e h) (no_such_line (said-none e) (λ x. differ (sym (line-has x) ∙ h)))
  asked true true e h =
      let y = has-line (lines-good e).whole h in
      rw (line-answer e h) (a_line (line_of here) (said-none e) y (line-here e y))

  pub no_line : WholeLines s → (HasLine s n → ⊥) → (c : Bool) → has_line s n ≡ c → has_line s n ≡ false
  no_line w h true e = absurd (h (has-line w e))
  no_line w h false e = e

  alone : {a : LineAnswer} → LineAnswered s n a → a ≡ line_asked s n
  alone (lines_refused a h z) =
      let same : a ≡ check_of s = lines-alone s a h in
      let e : good_test ≡ false = rw (← same) (ne_eqb a.number 0 z) in
      rw (refused-answer e) (ap (λ (x : LinesAnswer). answered x blank_line) same)
  alone (no_such_line h z) =
      let e = none_said h in
      sym (no-line-answer e (no_line (lines-good e).whole z (has_line s n) refl))
  alone (a_line x h w y) =
      let e = none_said h in
      rw (line-answer e (line-has w))
      (ap (λ (x : Line). answered (told 0 0 0) x) (one_line here x (line_of here) y (line-here e w)))

pub asked-says : AskedSays
asked-says s n = asked s n (eqb (check_of s).number 0) (has_line s n) refl refl

pub asked-alone : AskedAlone
asked-alone s n a h = alone s n h
