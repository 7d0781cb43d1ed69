-- Flags and their codes (document 02, M-105):
--
--   "Document 001, VI.5 says numbers under a FLAG heading must be repeated as codes under the keyword FLAG. A code is
--   an opening parenthesis in column 12, digits, a point, a closing parenthesis, under FLAG in this subentry or 001; it
--   matches by exact value. A non-blank FLAG or DECAY-FLAG value, in COMMON or DATA, must have no exponent."
use Rattle.std.specs.Prelude.{ℕ, ◌<◌, ◌∷◌}
use Rattle.laws.specs.Walk.{All}
use Rattle.paper_record.specs.PlainFlags.{Code}
use Rattle.rules_plain.specs.Places.{Some, bib_place, bib_text, cell}
use Rattle.rules_plain.specs.Flags.{FlagWord, FlagFits}
use Rattle.good.specs.Parts.{Keyword, Bib, Table, Section, present, absent}
use Rattle.good.specs.Tables.{columns_of}

-- a code that says n stands under this keyword, and the keyword is FLAG
pub record CodeUnder (n : ℕ) (k : Keyword) : Type 0 where
  pub named : FlagWord (bib_place k.first)
  pub code : Some (λ r. Code (bib_text r) n) (k.first ∷ k.more)

-- a BIB has the code n; NOBIB has none
abbrev pub CodeIn : Section Bib → ℕ → Type 0
CodeIn (present b) n = Some (CodeUnder n) b.keywords
CodeIn (absent r) n = ⊥

-- in every line, each value fits the heading of its column
abbrev pub FlagsFit : (ℕ → Type 0) → Table → Type 0
FlagsFit Met t =
    All (λ row. (c : ℕ) → c < columns_of t → FlagFits Met (cell t.headings c) (cell row c)) t.lines

abbrev pub FlagsOfPart : (ℕ → Type 0) → Section Table → Type 0
FlagsOfPart Met (present t) = FlagsFit Met t
FlagsOfPart Met (absent r) = Unit {0}
