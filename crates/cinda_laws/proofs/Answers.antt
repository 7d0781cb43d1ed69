-- Good lines, and the answers that there are.
-- Assumes nothing.
use Prim.Native.Nat.{ℕ, ◌+◌, ◌≤◌}
use mathlib.Core.Path.{◌≡◌, refl, sym, ap}
use mathlib.Core.Bool.{Bool, true, false, cond}
use mathlib.Core.List.{List}
use native.Mathlib.Omega.{arith}
use lib.Dec.{eqb, leb}
use lib.ListN.{length}
use borrow.Author.Tests.{le-leb}
use Rattle.laws.proofs.Booleans.{and_both}
use Rattle.paper_record.specs.Text.{within}
use Rattle.paper_record.proofs.Within.{within-bounds}
use Rattle.paper_cinda.specs.declared.types.LinesAnswer.{LinesAnswer}
use Rattle.paper_cinda.specs.Check.{check_of, GoodLines}
use Rattle.paper_cinda.specs.Apart.{has_line, asked_for}
use Rattle.paper_cinda.specs.Back.{written}
use Rattle.cinda_laws.specs.Wrong.{Wrong, by_end, by_character, by_operation, by_zed, by_mass, by_isomer, by_block}
use Rattle.cinda_laws.specs.Wrong.{by_sequence, by_least, by_greatest, by_date}
use Rattle.cinda_laws.specs.Said.{LinesSaid, by_length, by_line, by_none, EachGood, GoodExactly}
use Rattle.cinda_laws.specs.Said.{AnswerOf, good, length_refused, line_refused, AnswersOf, LinesBounds, BoundsOf}
use Rattle.cinda_laws.specs.Said.{told, AskedBounds, WrittenBounds}
use Rattle.cinda_laws.proofs.Lines.{lines-first, lines-alone}

-- ---- the numbers and columns of what is wrong

record Placed (n k : ℕ) : Type 0 where
  number-from : 71 ≤ n
  number-to : n ≤ 77
  column_from : 1 ≤ k
  column_to : k ≤ 126

within-placed : (n k : ℕ) → within 71 77 n ≡ true → within 1 126 k ≡ true → Placed n k
within-placed n k p q =
    let (a, b) = within-bounds 71 77 n p in
    let (c, d) = within-bounds 1 126 k q in
    record { number-from = a; number-to = b; column_from = c; column_to = d }

wrong-placed : (l : List ℕ) {n k : ℕ} → Wrong l n k → Placed n k
wrong-placed l (by_end h) = within-placed 71 126 refl refl
wrong-placed l (by_character c low high h) =
    within-placed 72 c refl (and_both (le-leb 1 c low) (le-leb c 126 (omega arith)))
wrong-placed l (by_operation h) = within-placed 73 1 refl refl
wrong-placed l (by_zed h) = within-placed 74 2 refl refl
wrong-placed l (by_mass h) = within-placed 74 5 refl refl
wrong-placed l (by_isomer h) = within-placed 74 8 refl refl
wrong-placed l (by_block h) = within-placed 75 34 refl refl
wrong-placed l (by_sequence h) = within-placed 75 38 refl refl
wrong-placed l (by_least h) = within-placed 76 42 refl refl
wrong-placed l (by_greatest h) = within-placed 76 49 refl refl
wrong-placed l (by_date h) = within-placed 77 80 refl refl

-- ---- good lines

module _ (s : List ℕ) where
  said-good : {a : LinesAnswer} → LinesSaid s a → a.number ≡ 0 → EachGood s
  said-good (by_length h) e = absurd (omega arith)
  said-good (by_line i n k w l h x) e = let p = (wrong-placed _ x.wrong).number-from in absurd (omega arith)
  said-good (by_none w h) e = record { whole = w; each = h }

  good-said : EachGood s → GoodLines s
  good-said g = record { good = sym (ap (λ (a : LinesAnswer). a.number) (lines-alone s _ (by_none g.whole g.each))) }

  said-answer : {a : LinesAnswer} → LinesSaid s a → AnswerOf a
  said-answer (by_length h) = length_refused
  said-answer (by_line i n k w l h x) =
      let p = wrong-placed _ x.wrong in
      let m = w.most in
      line_refused n (i + 1) k p.number-from p.number-to (omega arith) (omega arith) p.column_from p.column_to
  said-answer (by_none w h) = good

pub good-exactly : GoodExactly
good-exactly s = (λ g. said-good s (lines-first s) g.good, good-said s)

-- ---- the answers

pub answers_of : AnswersOf
answers_of s = said-answer s (lines-first s)

pub answer-bounds : {a : LinesAnswer} → AnswerOf a → LinesBounds a
answer-bounds good = record { number = omega arith; line = omega arith; column = omega arith }
answer-bounds length_refused = record { number = omega arith; line = omega arith; column = omega arith }
answer-bounds (line_refused n i k a b c d e f) = record { number = b; line = d; column = f }

pub bounds_of : BoundsOf
bounds_of s = answer-bounds (answers_of s)

-- a number of a call with neither line nor column, or what is answered of the lines
either-bounds : (s : List ℕ) (a b : Bool) (n m : ℕ) → n ≤ 77 → m ≤ 77
    → LinesBounds (cond a (cond b (told n 0 0) (told m 0 0)) (check_of s))
either-bounds s true true n m p q = record { number = p; line = omega arith; column = omega arith }
either-bounds s true false n m p q = record { number = q; line = omega arith; column = omega arith }
either-bounds s false b n m p q = bounds_of s

pub asked-bounds : AskedBounds
unfolding asked_for
asked-bounds s n = either-bounds s (eqb (check_of s).number 0) (has_line s n) 0 34 (omega arith) (omega arith)

pub written-bounds : WrittenBounds
unfolding written
written-bounds s room =
    either-bounds s (eqb (check_of s).number 0) (leb (length s) room) 0 37 (omega arith) (omega arith)
