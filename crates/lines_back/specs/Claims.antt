-- What is claimed of the words and arrays of calls about lines: they say all of the answer, for all bytes and whatever the
-- arrays held. Each type is that of a law in proofs/Back, under the law's name.
use Rattle.std.specs.Prelude.{ℕ, ◌≡◌, List}
use Rattle.paper_entry.specs.declared.types.Answer.{Answer}
use Rattle.paper_cinda.specs.declared.types.CindaNo.{CindaNo}
use Rattle.paper_cinda.specs.declared.types.LinesAnswer.{LinesAnswer}
use Rattle.paper_cinda.specs.declared.types.Piece.{Piece}
use Rattle.paper_cinda.specs.Check.{check_of}
use Rattle.paper_cinda.specs.Apart.{asked_for, line_asked}
use Rattle.paper_cinda.specs.Pieces.{piece_asked}
use Rattle.paper_cinda.specs.Back.{written}
use Rattle.exports_words.specs.Words.{answer_word}
use Rattle.exports_lines.specs.Lines.{lines_word, numbers_stored, energy_stored}
use Rattle.exports_lines.specs.Pieces.{pieces_stored}
use Rattle.lines_back.specs.Host.{said_in, line_answer_in, piece_answer_in}

-- an answer about lines as one about an entry: the line in the record's place, no refusal of an entry and no ordinal
abbrev pub as_answer : LinesAnswer → Answer
as_answer a =
    record {
      number = a.number;
      refusal = 0;
      «record» = record { 0 = a.line.0 };
      column = a.column;
      ordinal = 0;
    }

-- the word has its numbers where every call's word has them
abbrev pub WordAlike : Type 0
WordAlike = (a : LinesAnswer) → lines_word a ≡ answer_word (as_answer a)

abbrev pub CheckBack : Type 0
CheckBack = (s : List ℕ) → said_in (lines_word (check_of s)) ≡ check_of s

abbrev pub LineBack : Type 0
LineBack =
    (s numbers least greatest : List ℕ) (n : CindaNo)
    → let a = line_asked s n in
    line_answer_in (lines_word a.answer) (numbers_stored numbers a) (energy_stored least a.answer a.line.least)
    (energy_stored greatest a.answer a.line.greatest)
    ≡ a

-- each of the six
abbrev pub PieceBack : Type 0
PieceBack =
    (s before : List ℕ) (n : CindaNo) (p : Piece)
    → piece_answer_in (lines_word (asked_for s n)) (pieces_stored before s n) p ≡ piece_asked s n p

abbrev pub WrittenBack : Type 0
WrittenBack = (s : List ℕ) (room : ℕ) → said_in (lines_word (written s room)) ≡ written s room
