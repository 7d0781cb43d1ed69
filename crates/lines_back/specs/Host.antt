-- What a host does with the word and the arrays of a call about lines: the answer that they say.
use Rattle.std.specs.Prelude.{ℕ, ◌+◌, ◌*◌, ◌/◌, ◌%◌, ◌^◌, cond, List, eqb, get_or}
use Rattle.paper_number.specs.declared.types.FieldRead.{FieldRead}
use Rattle.paper_cinda.specs.declared.types.LinesAnswer.{LinesAnswer}
use Rattle.paper_cinda.specs.declared.types.Mass.{Mass}
use Rattle.paper_cinda.specs.declared.types.Mass.TheVariants.{Number, Many}
use Rattle.paper_cinda.specs.declared.types.Line.{Line}
use Rattle.paper_cinda.specs.declared.types.LineAnswer.{LineAnswer}
use Rattle.paper_cinda.specs.declared.types.Piece.{Piece}
use Rattle.paper_cinda.specs.declared.types.Piece.TheVariants.{Whole, Reaction, Quantity, Institute, Reference, Comment}
use Rattle.paper_cinda.specs.declared.types.PieceAnswer.{PieceAnswer}
use Rattle.paper_cinda.specs.Apart.{no_line}
use Rattle.exports_values.specs.Values.{value_in}

-- ---- a word

unfoldable pub said_in : ℕ → LinesAnswer
said_in w =
    record { number = w % 2 ^ 8; line = record { 0 = w / 2 ^ 24 % 2 ^ 24 }; column = w / 2 ^ 16 % 2 ^ 8 }

-- ---- a word and three arrays: a line

abbrev pub mass_in : List ℕ → Mass
mass_in xs = cond (eqb (get_or xs 3 0) 1) Many (Number (get_or xs 2 0))

abbrev pub energy_in : List ℕ → FieldRead
energy_in xs = record { reading = value_in xs; digits = get_or xs 4 0 }

abbrev pub line_in : List ℕ → List ℕ → List ℕ → Line
line_in xs least greatest =
    record {
      operation = get_or xs 0 0;
      z = get_or xs 1 0;
      mass = mass_in xs;
      isomer = get_or xs 4 0;
      area = get_or xs 5 0;
      block = get_or xs 6 0;
      sequence = get_or xs 7 0;
      work = get_or xs 8 0;
      reader = get_or xs 9 0;
      least = energy_in least;
      greatest = energy_in greatest;
      hierarchy = get_or xs 10 0;
      kind = get_or xs 11 0;
      year = get_or xs 12 0;
      month = get_or xs 13 0;
    }

unfoldable pub line_answer_in : ℕ → List ℕ → List ℕ → List ℕ → LineAnswer
line_answer_in w xs least greatest =
    record { answer = said_in w; line = cond (eqb (said_in w).number 0) (line_in xs least greatest) no_line }

-- ---- a word and an array: a piece

-- which of the six it is
abbrev pub piece_number : Piece → ℕ
piece_number Whole = 0
piece_number Reaction = 1
piece_number Quantity = 2
piece_number Institute = 3
piece_number Reference = 4
piece_number Comment = 5

unfoldable pub piece_answer_in : ℕ → List ℕ → Piece → PieceAnswer
piece_answer_in w xs p =
    record {
      answer = said_in w;
      first = cond (eqb (said_in w).number 0) (get_or xs (2 * piece_number p) 0) 0;
      length = cond (eqb (said_in w).number 0) (get_or xs (2 * piece_number p + 1) 0) 0;
    }
