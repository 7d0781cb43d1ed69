-- Demand 2 of the mission, whole, sentence by sentence. Each statement has its place below: in `number` and `canonical`
-- (specs/Claims, Marked), `record` (specs/Plain), `good` (specs/Claims), `entry` (specs/First), `refusal_table`
-- (specs/Listed, TextFaults, HeadingFaults, FlagFaults), `inside` (specs/Inside, Placed), `answered_tables`
-- (specs/Tables, Passages) or this crate (specs/Writing). `judge_of`, `value_asked`, `heading_asked`, `unit_asked`,
-- `passage_asked`, `read_field`, `read_number` and `written` are what the calls promise to answer, and `bytes` is what the
-- writer leaves in the buffer.
use Rattle.paper_number.specs.Claims.{SaysExactly, SpeltOnce, ValueFound, ValueOne, ElevenRead, OthersRefused}
use Rattle.paper_canonical.specs.Claims.{BestOne, ClosedForm, ColumnsSpan}
use Rattle.paper_canonical.specs.Marked.{MarkedRight}
use Rattle.paper_record.specs.Plain.{NumberExactly}
use Rattle.entry_walk.specs.First.{RefusedFirst, FirstAlone}
use Rattle.refusal_table.specs.Listed.{RefusalsListed, LengthFirst}
use Rattle.refusal_table.specs.TextFaults.{TenSaid, ElevenSaid, TenExactly, ElevenExactly}
use Rattle.refusal_table.specs.HeadingFaults.{ThirteenSaid, FourteenSaid, RepeatedRefused, LostRefused}
use Rattle.refusal_table.specs.FlagFaults.{SeventeenSaid, FlagRefused, OverFields}
use Rattle.good.specs.Claims.{AcceptedExactly, GoodAccepted}
use Rattle.inside.specs.Inside.{PassageAnswered, OnePassage}
use Rattle.inside.specs.Placed.{ValuePlaced, HeadingPlaced, UnitPlaced}
use Rattle.answered_tables.specs.Tables.{ValueOfTable, HeadingOfTable, UnitOfTable}
use Rattle.answered_tables.specs.Passages.{PassageOfBib}
use Rattle.demand2.specs.Writing.{WrittenSo, WrittenAlone, OneWins, RefusedExactly}

pub record Demand2 : Type 0 where
  -- "An entry is accepted exactly when it meets the record, nesting, count, pointer and number rules of the EXFOR
  -- manuals as document 01 gives them;": `GoodBytes` (good), which docs/GOOD.md follows sentence by sentence; words,
  -- counts, dates, pointers and values by `Plain` (record), with no search and no reading in it
  pub accepted_exactly : AcceptedExactly
  -- "otherwise the refusal is the first in its order.", and no other verdict is
  pub refused_first : RefusedFirst
  pub first_alone : FirstAlone
  -- and every refusal stands in the paper's table: its number, the kind of its record, its column
  pub refusals_listed : RefusalsListed
  pub length_first : LengthFirst
  -- what is wrong at a record refused with 10, 11, 13, 14 or 17, over the records before it; and nothing that is wrong
  -- so passes
  pub ten_said : TenSaid
  pub eleven_said : ElevenSaid
  pub ten_exactly : TenExactly
  pub eleven_exactly : ElevenExactly
  pub thirteen_said : ThirteenSaid
  pub fourteen_said : FourteenSaid
  pub repeated_refused : RepeatedRefused
  pub lost_refused : LostRefused
  pub seventeen_said : SeventeenSaid
  pub flag_refused : FlagRefused
  -- the heading over a value is that of its column: the record's place in its line, six columns each, tells it
  pub over_fields : OverFields
  -- "An accepted entry comes with its totals as counted there,": the sums over the parts of the good entry, whichever
  -- way the bytes are taken for one
  pub totals : GoodAccepted
  -- "non-blank numbers": what is counted as a number is a number field by the grammar
  pub numbers : NumberExactly
  -- "and each question is answered from the place it names.": a value, a heading and a unit from the cell of that line
  -- and column in the entry's own table, a passage from the records under its keyword; the place in the bytes by the
  -- judge's walk
  pub value_of_table : ValueOfTable
  pub heading_of_table : HeadingOfTable
  pub unit_of_table : UnitOfTable
  pub passage_of_bib : PassageOfBib
  pub value_placed : ValuePlaced
  pub heading_placed : HeadingPlaced
  pub unit_placed : UnitPlaced
  pub passage_placed : PassageAnswered
  pub one_passage : OnePassage
  -- "A number field reads as the exact decimal there defined.": what the grammar and the equation of a value say,
  -- "blank is said as blank", malformed where it is neither; and nothing else
  pub says_exactly : SaysExactly
  -- columns are one field at most; digits, sign and power have a value, and one only
  pub one_field : SpeltOnce
  pub a_value : ValueFound
  pub one_value : ValueOne
  -- "40 not eleven bytes"
  pub eleven : ElevenRead
  pub not_eleven : OthersRefused
  -- "Writing a decimal into eleven columns gives its one canonical field,": of all bytes that read to the decimal it
  -- comes first, and no two do
  pub written_so : WrittenSo
  pub written_alone : WrittenAlone
  pub one_best : BestOne
  -- "That exactly one field wins is proved." (document 01), of every value that columns read to; the closed form, which
  -- the canonical copy is made of, is that field
  pub one_wins : OneWins
  pub closed_form : ClosedForm
  -- "fewest columns from first to last non-blank": they are counted by the parts of a field as in its bytes
  pub columns_span : ColumnsSpan
  -- "and is refused exactly when no such field reads back as that decimal."
  pub refused_exactly : RefusedExactly
  -- "The marked numbers are proved in a single table under a single statement" (document 01)
  pub marked_right : MarkedRight
