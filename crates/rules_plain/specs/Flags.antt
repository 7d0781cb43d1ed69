-- What is wrong at a value under FLAG or DECAY-FLAG for refusal 17 (document 02, M-105): said over the records that
-- stand before it, its words and codes with no offset in bytes and no search. Which heading stands over it
-- (`over_field`) goes by the columns that judging has counted; `OverFields` (refusal_table, FlagFaults) tells that
-- column plainly, by the record's place in its line.
--
-- The code follows `rule17` (paper_rules, Flags), which computes over the bytes of these records. That it finds exactly
-- the values that are said here is stated below (`FlagsExactly`), and of one value by its test (`FlagWrongExactly`,
-- `FlagFitsExactly`).
use Rattle.std.specs.Prelude.{ℕ, ◌<◌, ◌≤◌, ◌≡◌, true, false, List, ◌++◌, ◌↔◌, ◌⊎◌, eqb, pos, length}
use Rattle.laws.specs.Members.{any_of}
use Rattle.paper_record.specs.Text.{text}
use Rattle.paper_record.specs.Fields.{field_at, fields_of}
use Rattle.paper_number.specs.declared.types.Decimal.{Decimal}
use Rattle.paper_number.specs.declared.types.Reading.TheVariants.{Number}
use Rattle.paper_number.specs.Reading.{read_field}
use Rattle.paper_number.specs.Value.{value_of}
use Rattle.paper_number.specs.WholeClaims.{Raised}
use Rattle.paper_record.specs.Same.{SameColumns}
use Rattle.paper_record.specs.PlainFlags.{Code}
use Rattle.paper_rules.specs.declared.types.Track.{Track}
use Rattle.paper_rules.specs.State.{Seen}
use Rattle.paper_rules.specs.Record.{Record}
use Rattle.paper_rules.specs.Codes.{codes_of}
use Rattle.paper_rules.specs.Flags.{column_over, flag_fault, rule17}
use Rattle.rules_plain.specs.Places.{bib_place, bib_text, cell}
use Rattle.rules_plain.specs.Texts.{NoKeyword, earlier}
use Rattle.rules_plain.specs.Repeated.{RecordsBefore, SeenBefore, Finds}

-- ---- words

-- the keyword FLAG, and a heading with that word; the eleventh column, a pointer's, plays no part
abbrev pub FlagWord : List ℕ → Type 0
FlagWord f = SameColumns 10 f (text "FLAG      ")

-- "FLAG or DECAY-FLAG"
pub data FlagHeading (h : List ℕ) : Type 0 where
  flag : FlagWord h → FlagHeading h
  decay_flag : SameColumns 10 h (text "DECAY-FLAG") → FlagHeading h

-- ---- codes

-- the record with the index q of these text records is under FLAG: that keyword stands on it or before it, and no other
-- between them
pub record UnderFlag (rs : List Record) (q : ℕ) : Type 0 where
  pub keyword : ℕ
  pub no_later : keyword ≤ q
  pub named : FlagWord (bib_place (earlier rs keyword))
  pub none_between : (m : ℕ) → keyword < m → m ≤ q → NoKeyword (earlier rs m)

-- "A code is an opening parenthesis in column 12, digits, a point, a closing parenthesis, under FLAG": one says n
pub record CodeAmong (rs : List Record) (n : ℕ) : Type 0 where
  pub at : ℕ
  pub there : at < length rs
  pub under : UnderFlag rs at
  pub code : Code (bib_text (earlier rs at)) n

-- "in this subentry or 001"
abbrev pub CodeMet : RecordsBefore → ℕ → Type 0
CodeMet b n = CodeAmong b.bib n ⊎ CodeAmong b.bib001 n

-- ---- 17, "an exponent there, or a FLAG value without code"

-- the decimal of a whole number
abbrev pub whole_value : ℕ → Decimal
whole_value n = value_of false n (pos 0)

-- a value f under the heading h, with these codes
pub data WrongFlag (Met : ℕ → Type 0) (h f : List ℕ) : Type 0 where
  -- "A non-blank FLAG or DECAY-FLAG value .. must have no exponent."
  raised : FlagHeading h → Raised f → WrongFlag Met h f
  -- "it matches by exact value": a number, and no code is equal to it
  no_code : FlagWord h → (v : Decimal) → read_field f ≡ Number v → ((n : ℕ) → Met n → v ≡ whole_value n → ⊥)
      → WrongFlag Met h f

-- and what is right there: "numbers under a FLAG heading must be repeated as codes"
pub record FlagFits (Met : ℕ → Type 0) (h f : List ℕ) : Type 0 where
  pub no_exponent : FlagHeading h → Raised f → ⊥
  pub coded : FlagWord h → (v : Decimal) → read_field f ≡ Number v → (n : ℕ) × Met n × (v ≡ whole_value n)

-- the heading over the field k of a value record: that of its column, as judging counts it
abbrev pub over_field : RecordsBefore → Track → ℕ → List ℕ
over_field b t k = cell b.table (column_over t k)

-- ---- that the test of one value says this

-- a search among these codes meets exactly the numbers n of which Met holds
abbrev pub CodesAre : List ℕ → (ℕ → Type 0) → Type 0
CodesAre codes Met = (n : ℕ) → (any_of (eqb n) codes ≡ true) ↔ Met n

-- at fault, over the bytes of both BIBs, where it is wrong
abbrev pub FlagWrongExactly : (ℕ → Type 0) → Type 0
FlagWrongExactly Met =
    (bib bib001 h f : List ℕ) → CodesAre (codes_of bib ++ codes_of bib001) Met
    → (flag_fault bib bib001 h f ≡ true) ↔ WrongFlag Met h f

-- and not at fault where it fits
abbrev pub FlagFitsExactly : (ℕ → Type 0) → Type 0
FlagFitsExactly Met =
    (bib bib001 h f : List ℕ) → CodesAre (codes_of bib ++ codes_of bib001) Met
    → (flag_fault bib bib001 h f ≡ false) ↔ FlagFits Met h f

-- ---- that the rule finds exactly these

abbrev pub FlagsExactly : Type 0
FlagsExactly =
    (s : Seen) (t : Track) (b : RecordsBefore) (r : Record) → SeenBefore s b
    → Finds (rule17 s t (fields_of r)) t (λ k. WrongFlag (CodeMet b) (over_field b t k) (field_at r k))
