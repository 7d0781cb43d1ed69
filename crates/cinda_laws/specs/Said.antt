-- What is answered of lines (document 02, M-113): "70 first, then line by line, lowest number, then leftmost column [..],
-- named with the line". Said first and alone: what the definitions of paper_cinda compute is so, and nothing else is.
use Rattle.std.specs.Prelude.{ℕ, ◌+◌, ◌*◌, ◌<◌, ◌≤◌, ◌≡◌, ◌↔◌, List, length, take, drop}
use Rattle.paper_faults.specs.Least.{Before}
use Rattle.paper_cinda.specs.declared.types.CindaNo.{CindaNo}
use Rattle.paper_cinda.specs.declared.types.LinesAnswer.{LinesAnswer}
use Rattle.paper_cinda.specs.Check.{check_of, GoodLines}
use Rattle.paper_cinda.specs.Apart.{asked_for}
use Rattle.paper_cinda.specs.Back.{written}
use Rattle.cinda_laws.specs.Wrong.{Wrong, NothingWrong, GoodLine}

-- "125 columns and a line feed", "up to 20,000 lines", and not none
pub record WholeLines (s : List ℕ) : Type 0 where
  pub many : ℕ
  pub some : 1 ≤ many
  pub most : many ≤ 20000
  pub wide : length s ≡ many * 126

-- the line with the index i: each before it has 126 bytes
abbrev pub the_line : List ℕ → ℕ → List ℕ
the_line s i = take 126 (drop (i * 126) s)

-- the number n at the column k is wrong with the line, and comes before all else that is
pub record WrongFirst (l : List ℕ) (n k : ℕ) : Type 0 where
  pub wrong : Wrong l n k
  pub first : (m c : ℕ) → Wrong l m c → Before n k m c

-- a number, a line and a column
abbrev pub told : ℕ → ℕ → ℕ → LinesAnswer
told n i k = record { number = n; line = record { 0 = i }; column = k }

-- lines are numbered from 1
pub data LinesSaid (s : List ℕ) : LinesAnswer → Type 0 where
  by_length : (WholeLines s → ⊥) → LinesSaid s (told 70 0 0)
  by_line : (i n k : ℕ) (whole : WholeLines s) → i < whole.many → ((j : ℕ) → j < i → NothingWrong (the_line s j))
      → WrongFirst (the_line s i) n k → LinesSaid s (told n (i + 1) k)
  by_none : (whole : WholeLines s) → ((j : ℕ) → j < whole.many → GoodLine (the_line s j)) → LinesSaid s (told 0 0 0)

abbrev pub LinesFirst : Type 0
LinesFirst = (s : List ℕ) → LinesSaid s (check_of s)

abbrev pub LinesAlone : Type 0
LinesAlone = (s : List ℕ) (a : LinesAnswer) → LinesSaid s a → a ≡ check_of s

-- lines are good exactly where they are whole and each is good
pub record EachGood (s : List ℕ) : Type 0 where
  pub whole : WholeLines s
  pub each : (j : ℕ) → j < whole.many → GoodLine (the_line s j)

abbrev pub GoodExactly : Type 0
GoodExactly = (s : List ℕ) → GoodLines s ↔ EachGood s

-- ---- the answers there are: 0, 70 with neither line nor column, 71 to 77 with both

pub data AnswerOf : LinesAnswer → Type 0 where
  good : AnswerOf (told 0 0 0)
  length_refused : AnswerOf (told 70 0 0)
  line_refused : (n i k : ℕ) → 71 ≤ n → n ≤ 77 → 1 ≤ i → i ≤ 20000 → 1 ≤ k → k ≤ 126 → AnswerOf (told n i k)

abbrev pub AnswersOf : Type 0
AnswersOf = (s : List ℕ) → AnswerOf (check_of s)

-- so small are its numbers
pub record LinesBounds (a : LinesAnswer) : Type 0 where
  pub number : a.number ≤ 77
  pub line : a.line.0 ≤ 20000
  pub column : a.column ≤ 126

abbrev pub BoundsOf : Type 0
BoundsOf = (s : List ℕ) → LinesBounds (check_of s)

-- and those of the calls that answer 34 or 37 behind it
abbrev pub AskedBounds : Type 0
AskedBounds = (s : List ℕ) (n : CindaNo) → LinesBounds (asked_for s n)

abbrev pub WrittenBounds : Type 0
WrittenBounds = (s : List ℕ) (room : ℕ) → LinesBounds (written s room)
