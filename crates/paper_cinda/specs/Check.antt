-- What is answered of lines (document 02, M-113): "70 first, then line by line, lowest number, then leftmost column [..],
-- named with the line; then 34 no such line, 37 buffer shorter than the lines." A good file of lines is answered by 0.
use Rattle.paper_faults.specs.Fault.{Checked}
use Rattle.std.specs.Prelude.{ℕ, ◌+◌, ◌*◌, ◌%◌, ◌≡◌, Bool, false, cond, List, eqb, leb, length, Ok, Err}
use Rattle.laws.specs.Turns.{Turn, go, out}
use Rattle.laws.specs.Walk.{walk}
use Rattle.paper_cinda.specs.declared.types.LinesAnswer.{LinesAnswer}
use Rattle.paper_cinda.specs.Layout.{LINE, MOST-CINDA, lines_in}
use Rattle.paper_cinda.specs.Rules.{line_fault}

-- "70 length (none, not whole lines, too many)"
unfoldable pub good_length : ℕ → Bool
good_length bytes = cond (eqb bytes 0) false (cond (eqb (bytes % LINE) 0) (leb bytes (MOST-CINDA * LINE)) false)

-- a number with a line and a column beside it
abbrev pub said_at : ℕ → ℕ → ℕ → LinesAnswer
said_at number line column = record { number = number; line = record { 0 = line }; column = column }

-- and with none
abbrev pub said_of : ℕ → LinesAnswer
said_of number = said_at number 0 0

-- a line is passed, or its fault is the answer; lines are numbered from 1
abbrev pub on_fault : ℕ → Checked → Turn (Unit {0}) LinesAnswer
on_fault i (Ok _) = go tt
on_fault i (Err fault) = out (said_at fault.number (i + 1) fault.column)

unfoldable pub line_turn : Unit {0} → ℕ → List ℕ → Turn (Unit {0}) LinesAnswer
line_turn u i l = on_fault i (line_fault l)

abbrev pub all_passed : Unit {0} → LinesAnswer
all_passed u = said_of 0

unfoldable pub check_of : List ℕ → LinesAnswer
check_of s = cond (good_length (length s)) (walk line_turn all_passed tt 0 (lines_in s)) (said_of 70)

-- good lines
pub record GoodLines (s : List ℕ) : Type 0 where
  pub good : (check_of s).number ≡ 0
