-- What is answered of lines is the first in the order, and nothing else is.
-- Assumes nothing.
use Rattle.std.specs.Prelude.{Ok, Err}
use Prim.Native.Nat.{ℕ, zero, suc, ◌+◌, ◌/◌, ◌%◌, ◌<◌}
use mathlib.Core.Path.{◌≡◌, refl, sym, subst, ◌∙◌}
use mathlib.Core.Bool.{Bool, true, false, cond}
use mathlib.Core.List.{List}
use native.Mathlib.Omega.{arith}
use lib.Dec.{eqb, leb}
use lib.ListN.{length}
use borrow.Author.Tests.{eq-eqb, ne_eqb, le-leb}
use Rattle.laws.specs.Turns.{Turn, after, run}
use Rattle.laws.specs.Walk.{walk}
use Rattle.laws.specs.Blocks.{blocks}
use Rattle.laws.proofs.Blocks.{run-walk}
use Rattle.laws.proofs.Booleans.{differ}
use Rattle.paper_faults.specs.Fault.{Finding, Checked}
use Rattle.paper_faults.specs.Least.{Least, Nothing}
use Rattle.paper_faults.specs.First.{NoneBefore, Foremost}
use Rattle.paper_faults.proofs.Least as L
use Rattle.paper_faults.proofs.FaultSaid.{first-nothing}
use Rattle.paper_faults.proofs.First.{nothing-next, none_found, one-first}
use Rattle.paper_faults.proofs.Found.{least-found, least_first, nothing-found, found_nothing, found-least}
use Rattle.paper_cinda.specs.declared.types.LinesAnswer.{LinesAnswer}
use Rattle.paper_cinda.specs.Layout.{lines_count}
use Rattle.paper_cinda.specs.Rules.{findings, line_fault}
use Rattle.paper_cinda.specs.Check.{good_length, said_of, on_fault, line_turn, all_passed, check_of}
use Rattle.cinda_laws.specs.Wrong.{NothingWrong, GoodLine}
use Rattle.cinda_laws.specs.Said.{WholeLines, the_line, WrongFirst, told, LinesSaid, by_length, by_line, by_none}
use Rattle.cinda_laws.specs.Said.{LinesFirst, LinesAlone}
use Rattle.paper_cinda.proofs.Rising.{findings-rise}
use Rattle.paper_cinda.proofs.Lines.{whole-lines}
use Rattle.cinda_laws.proofs.Wrongs.{found-exactly, good-line-exactly}

-- ---- "70 length (none, not whole lines, too many)"

lines_of : (s : List ℕ) → good_length (length s) ≡ true → WholeLines s
lines_of s e =
    let w = whole-lines (length s) e in
    let a = w.some in
    let b = w.most in
    record { many = length s / 126; some = omega arith; most = omega arith; wide = w.whole }

lines-whole : (s : List ℕ) → WholeLines s → good_length (length s) ≡ true
unfolding good_length
lines-whole s w =
    let n : ℕ = length s in
    let a = w.some in
    let b = w.most in
    let c = w.wide in
    let x : eqb n 0 ≡ false = ne_eqb n 0 (λ z. omega arith) in
    let y : eqb (n % 126) 0 ≡ true = eq-eqb (n % 126) 0 (omega arith) in
    let z : leb n 2520000 ≡ true = le-leb n 2520000 (omega arith) in
    rw (x, y, z) refl

-- so many lines there are
pub lines-count : (s : List ℕ) (w : WholeLines s) → lines_count s ≡ w.many
lines-count s w = let c = w.wide in omega arith

pub one-count : (s : List ℕ) (v w : WholeLines s) → v.many ≡ w.many
one-count s v w = sym (lines-count s v) ∙ lines-count s w

-- ---- one line

module _ (l : List ℕ) where
  nothing-wrong : Nothing (findings l) → NothingWrong l
  nothing-wrong h n k w = nothing-found (findings l) n k h ((found-exactly l n k).1 w)

  wrong-nothing : NothingWrong l → Nothing (findings l)
  wrong-nothing h = found_nothing (findings l) (λ n k f. h n k ((found-exactly l n k).0 f))

  least-wrong : (n k : ℕ) → Least (findings l) n k → WrongFirst l n k
  least-wrong n k x =
      record {
        wrong = (found-exactly l n k).0 (least-found (findings l) n k x);
        first = λ m c w. least_first (findings l) n k m c x ((found-exactly l m c).1 w);
      }

  wrong-least : (n k : ℕ) → WrongFirst l n k → Least (findings l) n k
  wrong-least n k x =
      found-least (findings l) (findings-rise l) n k ((found-exactly l n k).1 x.wrong)
      (λ m c f. x.first m c ((found-exactly l m c).0 f))

-- ---- line by line

-- what the rules find on the line with the index i
abbrev found_on : List ℕ → ℕ → List Finding
found_on s i = findings (the_line s i)

module _ (s : List ℕ) (whole : WholeLines s) where
  abbrev turn_at : Unit {0} → ℕ → Turn (Unit {0}) LinesAnswer
  turn_at u i = line_turn u i (the_line s i)

  all-good : NoneBefore (found_on s) (lines_count s) → LinesSaid s (told 0 0 0)
  all-good h =
      let c = lines-count s whole in
      by_none whole (λ j l. (good-line-exactly (the_line s j)).1 (nothing-wrong (the_line s j) (h j (omega arith))))

  foremost-said : (i n k : ℕ) → Foremost (found_on s) (lines_count s) i n k → LinesSaid s (told n (i + 1) k)
  foremost-said i n k f =
      let c = lines-count s whole in
      let l = f.there in
      by_line i n k whole (omega arith) (λ j h. nothing-wrong (the_line s j) (f.earlier j h))
      (least-wrong (the_line s i) n k f.least)

  -- the turn at the line with the index i, before m others
  one_more : (m i : ℕ) → i < lines_count s → NoneBefore (found_on s) i
      → (NoneBefore (found_on s) (i + 1) → LinesSaid s (run turn_at all_passed tt (i + 1) m))
      → LinesSaid s (run turn_at all_passed tt i (suc m))
  unfolding run line_turn line_fault
  one_more m i l h next = by-fault (line_fault (the_line s i)) refl
    where
      by-fault : (x : Checked) → line_fault (the_line s i) ≡ x
          → LinesSaid s (after (on_fault i x) (λ u. run turn_at all_passed u (i + 1) m))
      by-fault (Ok u) e =
          next (nothing-next (found_on s) i h (first-nothing (found_on s i) (findings-rise (the_line s i)) e))
      by-fault (Err fault) e =
          foremost-said i fault.number fault.column
          (record {
            there = l;
            earlier = h;
            least = L.first-least 70 (found_on s i) (findings-rise (the_line s i)) fault.number fault.column e;
          })

  first-from : (m i : ℕ) → i + m ≡ lines_count s → NoneBefore (found_on s) i
      → LinesSaid s (run turn_at all_passed tt i m)
  unfolding run
  first-from zero i e h = all-good (λ j l. h j (omega arith))
  first-from (suc m) i e h = one_more m i (omega arith) h (first-from m (i + 1) (omega arith))

pub lines-first : LinesFirst
unfolding check_of
lines-first s = by-test (good_length (length s)) refl
  where
    by-test : (b : Bool) → good_length (length s) ≡ b
        → LinesSaid s (cond b (walk line_turn all_passed tt 0 (blocks 126 (lines_count s) s)) (said_of 70))
    by-test true e =
        subst (LinesSaid s) (run-walk line_turn all_passed 126 s (lines_count s) tt)
        (first-from s (lines_of s e) (lines_count s) 0 (omega arith) (λ j l. absurd (omega arith)))
    by-test false e = by_length (λ w. differ (sym (lines-whole s w) ∙ e))

-- ---- and nothing else is

module _ (s : List ℕ) where
  said-foremost : (i n k : ℕ) (w : WholeLines s) → i < w.many → ((j : ℕ) → j < i → NothingWrong (the_line s j))
      → WrongFirst (the_line s i) n k → Foremost (found_on s) (lines_count s) i n k
  said-foremost i n k w l none x =
      let c = lines-count s w in
      record {
        there = omega arith;
        earlier = λ j h. wrong-nothing (the_line s j) (none j h);
        least = wrong-least (the_line s i) n k x;
      }

  none_said : (w : WholeLines s) → ((j : ℕ) → j < w.many → GoodLine (the_line s j)) → NoneBefore (found_on s) (lines_count s)
  none_said w each j l =
      let c = lines-count s w in
      wrong-nothing (the_line s j) ((good-line-exactly (the_line s j)).0 (each j (omega arith)))

  -- a line that is wrong first is not one of lines that are good
  not-both : {X : Type 0} (i n k : ℕ) → Foremost (found_on s) (lines_count s) i n k → NoneBefore (found_on s) (lines_count s) → X
  not-both i n k f none = absurd (none_found (found_on s) i n k f (lines_count s) f.there none)

  one_answer : (a b : LinesAnswer) → LinesSaid s a → LinesSaid s b → a ≡ b
  one_answer a b (by_length h) (by_length g) = refl
  one_answer a b (by_length h) (by_line j m c w l e x) = absurd (h w)
  one_answer a b (by_length h) (by_none w e) = absurd (h w)
  one_answer a b (by_line i n k v l e x) (by_length g) = absurd (g v)
  one_answer a b (by_line i n k v l e x) (by_line j m c w o f y) =
      let (z, (p, q)) = one-first (found_on s) i n k j m c (said-foremost i n k v l e x) (said-foremost j m c w o f y) in
      rw (z, p, q) refl
  one_answer a b (by_line i n k v l e x) (by_none w f) = not-both i n k (said-foremost i n k v l e x) (none_said w f)
  one_answer a b (by_none v e) (by_length g) = absurd (g v)
  one_answer a b (by_none v e) (by_line j m c w l f y) = not-both j m c (said-foremost j m c w l f y) (none_said v e)
  one_answer a b (by_none v e) (by_none w f) = refl

pub lines-alone : LinesAlone
lines-alone s a h = one_answer s a (check_of s) h (lines-first s)
