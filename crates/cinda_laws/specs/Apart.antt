-- What a line says, in plain words (document 02, M-113: "take apart"; document 000, ch. 10), and what is answered to the
-- question for a line: what the definitions of paper_cinda compute is so, and nothing else is.
use Rattle.std.specs.Prelude.{ℕ, ◌-◌, ◌≤◌, ◌≡◌, List}
use Rattle.paper_number.specs.declared.types.FieldRead.{FieldRead}
use Rattle.paper_number.specs.declared.types.Reading.TheVariants.{Blank}
use Rattle.paper_number.specs.Grammar.{Field, Spells}
use Rattle.paper_number.specs.Value.{Says}
use Rattle.paper_number.specs.Digits.{DigitsWritten}
use Rattle.paper_record.specs.Plain.{DigitsSay, CountSays}
use Rattle.paper_cinda.specs.declared.types.CindaNo.{CindaNo}
use Rattle.paper_cinda.specs.declared.types.LinesAnswer.{LinesAnswer}
use Rattle.paper_cinda.specs.declared.types.Mass.{Mass}
use Rattle.paper_cinda.specs.declared.types.Mass.TheVariants.{Number, Many}
use Rattle.paper_cinda.specs.declared.types.Line.{Line}
use Rattle.paper_cinda.specs.declared.types.LineAnswer.{LineAnswer}
use Rattle.paper_cinda.specs.Apart.{line_of, line_asked}
use Rattle.cinda_laws.specs.Plain.{in_column, in_columns, ManyHeld}
use Rattle.cinda_laws.specs.Wrong.{GoodLine}
use Rattle.cinda_laws.specs.Said.{WholeLines, the_line, told, LinesSaid}

-- ---- its parts

-- 999 where columns 5-7 hold MNY, elsewhere the integer
pub data ZedSays (l : List ℕ) : ℕ → Type 0 where
  of_many : ManyHeld l → ZedSays l 999
  of_one : (m : ℕ) → (ManyHeld l → ⊥) → CountSays 3 (in_columns l 2 3) m → ZedSays l m

pub data MassSays (l : List ℕ) : Mass → Type 0 where
  many : ManyHeld l → MassSays l Many
  one : (m : ℕ) → (ManyHeld l → ⊥) → CountSays 3 (in_columns l 5 3) m → MassSays l (Number m)

-- the digits that the author wrote; what is no number field has none
pub data WrittenSays (f : List ℕ) : ℕ → Type 0 where
  spelt : (g : Field) (n : ℕ) → Spells f g → DigitsWritten g n → WrittenSays f n
  unspelt : ((g : Field) → Spells f g → ⊥) → WrittenSays f 0

pub record EnergySays (f : List ℕ) (x : FieldRead) : Type 0 where
  pub value : Says f x.reading
  pub written_digits : WrittenSays f x.digits

-- ---- the line

pub record LineSays (l : List ℕ) (x : Line) : Type 0 where
  pub operation_is : x.operation ≡ in_column l 1
  pub z_is : ZedSays l x.z
  pub mass_is : MassSays l x.mass
  pub isomer_is : x.isomer ≡ in_column l 8
  pub area_is : x.area ≡ in_column l 34
  pub block_is : CountSays 3 (in_columns l 35 3) x.block
  pub sequence_is : CountSays 2 (in_columns l 38 2) x.sequence
  pub work_is : x.work ≡ in_column l 40
  pub reader_is : x.reader ≡ in_column l 41
  pub least_is : EnergySays (in_columns l 42 7) x.least
  pub greatest_is : EnergySays (in_columns l 49 7) x.greatest
  pub hierarchy_is : x.hierarchy ≡ in_column l 56
  pub kind_is : x.kind ≡ in_column l 57
  pub year_is : DigitsSay l 79 4 x.year
  pub month_is : DigitsSay l 83 2 x.month

-- a good line says what is computed of it, and no line says two things
abbrev pub LineSaid : Type 0
LineSaid = (l : List ℕ) → GoodLine l → LineSays l (line_of l)

abbrev pub OneLine : Type 0
OneLine = (l : List ℕ) (x y : Line) → LineSays l x → LineSays l y → x ≡ y

-- ---- the question for a line

-- beside a refusal: zeros and blanks
abbrev pub blank_energy : FieldRead
blank_energy = record { reading = Blank; digits = 0 }

abbrev pub blank_line : Line
blank_line =
    record {
      operation = 32;
      z = 0;
      mass = Number 0;
      isomer = 32;
      area = 32;
      block = 0;
      sequence = 0;
      work = 32;
      reader = 32;
      least = blank_energy;
      greatest = blank_energy;
      hierarchy = 32;
      kind = 32;
      year = 0;
      month = 0;
    }

abbrev pub answered : LinesAnswer → Line → LineAnswer
answered a x = record { answer = a; line = x }

-- "then 34 no such line": lines are numbered from 1
pub record HasLine (s : List ℕ) (n : CindaNo) : Type 0 where
  pub whole : WholeLines s
  pub from : 1 ≤ n.0
  pub to : n.0 ≤ whole.many

pub data LineAnswered (s : List ℕ) (n : CindaNo) : LineAnswer → Type 0 where
  lines_refused : (a : LinesAnswer) → LinesSaid s a → (a.number ≡ 0 → ⊥) → LineAnswered s n (answered a blank_line)
  no_such_line : LinesSaid s (told 0 0 0) → (HasLine s n → ⊥) → LineAnswered s n (answered (told 34 0 0) blank_line)
  a_line : (x : Line) → LinesSaid s (told 0 0 0) → HasLine s n → LineSays (the_line s (n.0 - 1)) x
      → LineAnswered s n (answered (told 0 0 0) x)

abbrev pub AskedSays : Type 0
AskedSays = (s : List ℕ) (n : CindaNo) → LineAnswered s n (line_asked s n)

abbrev pub AskedAlone : Type 0
AskedAlone = (s : List ℕ) (n : CindaNo) (a : LineAnswer) → LineAnswered s n a → a ≡ line_asked s n
