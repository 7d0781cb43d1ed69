-- How lines, answers and files are compared: in all that they say, but for the count of digits of an energy. Document 02,
-- M-104, of that count: "From then on the claim that the canonical copy answers alike leaves this count out".
use Rattle.std.specs.Prelude.{ℕ, ◌+◌, ◌%◌, ◌<◌, ◌≡◌, ◌↔◌, List, length, get_or}
use Rattle.paper_number.specs.declared.types.Decimal.{Decimal}
use Rattle.paper_number.specs.declared.types.Reading.{Reading}
use Rattle.paper_number.specs.declared.types.Reading.TheVariants.{Blank, Number}
use Rattle.paper_number.specs.Reading.{read_field}
use Rattle.paper_cinda.specs.declared.types.Line.{Line}
use Rattle.paper_cinda.specs.declared.types.LineAnswer.{LineAnswer}
use Rattle.paper_cinda.specs.Layout.{LINE, energy_at, lines_count, line_at}

-- ---- where energies stand: columns 42-48 and 49-55

-- the column k is the first of an energy
pub data IsEnergy (k : ℕ) : Type 0 where
  a_least : k ≡ 42 → IsEnergy k
  a_greatest : k ≡ 49 → IsEnergy k

-- what the energy in column k of the line with the index i reads to
abbrev pub read_at : List ℕ → ℕ → ℕ → Reading
read_at s i k = read_field (energy_at (line_at s i) k)

-- the byte p of lines stands in no energy; its column is p % LINE + 1
pub data Outside (p : ℕ) : Type 0 where
  before_energies : p % LINE + 1 < 42 → Outside p
  behind_energies : 55 < p % LINE + 1 → Outside p

-- ---- lines taken apart, and the answers to a question for one

pub record SameLine (x y : Line) : Type 0 where
  pub operation : x.operation ≡ y.operation
  pub z : x.z ≡ y.z
  pub mass : x.mass ≡ y.mass
  pub isomer : x.isomer ≡ y.isomer
  pub area : x.area ≡ y.area
  pub block : x.block ≡ y.block
  pub sequence : x.sequence ≡ y.sequence
  pub work : x.work ≡ y.work
  pub reader : x.reader ≡ y.reader
  pub least : x.least.reading ≡ y.least.reading
  pub greatest : x.greatest.reading ≡ y.greatest.reading
  pub hierarchy : x.hierarchy ≡ y.hierarchy
  pub kind : x.kind ≡ y.kind
  pub year : x.year ≡ y.year
  pub month : x.month ≡ y.month

pub record SameAsked (x y : LineAnswer) : Type 0 where
  pub answer : x.answer ≡ y.answer
  pub line : SameLine x.line y.line

-- ---- two files: "equal outside energies, blank in the same ones and equal in decimals"

pub record SameLines (s t : List ℕ) : Type 0 where
  pub long : length s ≡ length t
  pub outside : (p : ℕ) → p < length s → Outside p → get_or s p 0 ≡ get_or t p 0
  pub blanks : (i k : ℕ) → i < lines_count s → IsEnergy k → (read_at s i k ≡ Blank) ↔ (read_at t i k ≡ Blank)
  pub decimals : (i k : ℕ) → i < lines_count s → IsEnergy k → (v w : Decimal)
      → read_at s i k ≡ Number v → read_at t i k ≡ Number w → v ≡ w
