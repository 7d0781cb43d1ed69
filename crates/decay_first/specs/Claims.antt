-- What is to be proved of the first met of 50 and 51, as statements.
use Rattle.std.specs.Prelude.{◌≡◌, List, ◌⊎◌, ◌↔◌, ℕ, ◌+◌}
use Rattle.paper_decay.specs.Records.{said, scan_records, Records}
use Rattle.paper_decay.specs.Laid.{CodeLaid}
use Rattle.paper_decay_run.specs.Text.{filled_text, text_to}
use Rattle.decay_first.specs.Faults.{LastFilled, Fault50, Fault51}

-- ---- "rest of the record blank": a record's text is its columns 12 up to the last that is filled

abbrev pub TextPlain : Type 0
TextPlain =
    (s : List ℕ) (i column : ℕ) → Records s i (i + 1) → LastFilled s i column → filled_text s i ≡ text_to s i column

-- ---- "the first met of 50 [..] and 51": each exactly where the paper has it

abbrev pub MetFirst : Type 0
MetFirst =
    (s : List ℕ) (from past : ℕ) → Records s from past → (at column : ℕ)
    → ((scan_records s from past ≡ said 50 at column) ↔ Fault50 s from past at column)
    × ((scan_records s from past ≡ said 51 at column) ↔ Fault51 s from past at column)

-- ---- one of the three comes of any records, and at one place alone

pub data Fault (s : List ℕ) (from past number at column : ℕ) : Type 0 where
  fifty : number ≡ 50 → Fault50 s from past at column → Fault s from past number at column
  fifty_one : number ≡ 51 → Fault51 s from past at column → Fault s from past number at column

pub record Faulty (s : List ℕ) (from past : ℕ) : Type 0 where
  pub number : ℕ
  pub at : ℕ
  pub column : ℕ
  pub fault : Fault s from past number at column

pub record Alone (s : List ℕ) (from past : ℕ) : Type 0 where
  pub some : CodeLaid s from past ⊎ Faulty s from past
  pub apart : CodeLaid s from past → Faulty s from past → ⊥
  pub once : (a b : Faulty s from past) → (a.number ≡ b.number) × ((a.at ≡ b.at) × (a.column ≡ b.column))

abbrev pub MetAlone : Type 0
MetAlone = (s : List ℕ) (from past : ℕ) → Records s from past → Alone s from past
