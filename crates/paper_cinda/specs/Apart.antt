-- A line taken apart (document 02, M-113: "Check and take apart up to 20,000 lines"): its numbers, and its single characters
-- as they are. Of an energy beside its value the count of digits as the author wrote them (M-104).
use Rattle.std.specs.Prelude.{ℕ, ◌-◌, Bool, cond, ◌&&◌, List, eqb, leb}
use Rattle.paper_number.specs.declared.types.FieldRead.{FieldRead}
use Rattle.paper_number.specs.declared.types.Reading.TheVariants.{Blank}
use Rattle.paper_number.specs.Digits.{field_read}
use Rattle.paper_record.specs.System.{integer_of, number_of, number_in}
use Rattle.paper_cinda.specs.declared.types.CindaNo.{CindaNo}
use Rattle.paper_cinda.specs.declared.types.LinesAnswer.{LinesAnswer}
use Rattle.paper_cinda.specs.declared.types.Mass.{Mass}
use Rattle.paper_cinda.specs.declared.types.Mass.TheVariants.{Number, Many}
use Rattle.paper_cinda.specs.declared.types.Line.{Line}
use Rattle.paper_cinda.specs.declared.types.LineAnswer.{LineAnswer}
use Rattle.paper_cinda.specs.Layout.{column_of, columns_in, energy_at, lines_count, line_at}
use Rattle.paper_cinda.specs.Rules.{is_many}
use Rattle.paper_cinda.specs.Check.{said_of, check_of}

-- the number of an integer in w columns from column k on
abbrev pub integer_at : List ℕ → ℕ → ℕ → ℕ
integer_at l k w = number_of (integer_of w (columns_in l k w))

-- A, or many
abbrev pub mass_of : List ℕ → Mass
mass_of l = cond (is_many l) Many (Number (integer_at l 5 3))

unfoldable pub line_of : List ℕ → Line
line_of l =
    record {
      operation = column_of l 1;
      z = integer_at l 2 3;
      mass = mass_of l;
      isomer = column_of l 8;
      area = column_of l 34;
      block = integer_at l 35 3;
      sequence = integer_at l 38 2;
      work = column_of l 40;
      reader = column_of l 41;
      least = field_read (energy_at l 42);
      greatest = field_read (energy_at l 49);
      hierarchy = column_of l 56;
      kind = column_of l 57;
      year = number_in l 79 4;
      month = number_in l 83 2;
    }

-- document 01's manner for each case of A: 0 and 1 where it is many
pub record MassAnswer : Type 0 where
  pub number : ℕ
  pub many : ℕ

abbrev pub mass_answer : Mass → MassAnswer
mass_answer (Number n) = record { number = n; many = 0 }
mass_answer Many = record { number = 0; many = 1 }

-- ---- the question for a line

-- a refused one is zeros and blanks
abbrev pub no_energy : FieldRead
no_energy = record { reading = Blank; digits = 0 }

abbrev pub no_line : Line
no_line =
    record {
      operation = 32;
      z = 0;
      mass = Number 0;
      isomer = 32;
      area = 32;
      block = 0;
      sequence = 0;
      work = 32;
      reader = 32;
      least = no_energy;
      greatest = no_energy;
      hierarchy = 32;
      kind = 32;
      year = 0;
      month = 0;
    }

-- lines are numbered from 1
abbrev pub has_line : List ℕ → CindaNo → Bool
has_line s n = leb 1 n.0 && leb n.0 (lines_count s)

-- 70 to 77 where the lines are refused, with line and column; "then 34 no such line"
unfoldable pub asked_for : List ℕ → CindaNo → LinesAnswer
asked_for s n = cond (eqb (check_of s).number 0) (cond (has_line s n) (said_of 0) (said_of 34)) (check_of s)

unfoldable pub line_asked : List ℕ → CindaNo → LineAnswer
line_asked s n =
    record {
      answer = asked_for s n;
      line = cond (eqb (asked_for s n).number 0) (line_of (line_at s (n.0 - 1))) no_line;
    }
