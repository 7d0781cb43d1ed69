-- What is to be proved of runs, as statements.
use Rattle.std.specs.Prelude.{◌≡◌, List, [], ℕ, ◌-◌, ◌≤◌, length}
use Rattle.paper_decay.specs.Records.{scan_records, Records}
use Rattle.paper_decay.specs.Laid.{Laid, texts_of}
use Rattle.paper_decay.specs.Code.{Code, write, Good}
use Rattle.paper_decay.specs.Fields.{run_of}
use Rattle.paper_decay_run.specs.Text.{code_text}
use Rattle.paper_decay_run.specs.Run.{run_piece, run_text, run_records}

-- the characters that are taken from the records are the code's: nothing of a break, and nothing behind the code
abbrev pub TextRight : Type 0
TextRight =
    (s : List ℕ) (from past : ℕ) → Records s from past → (scan_records s from past).number ≡ 0 → (c : Code) → Good c
    → Laid (texts_of s from past) (write c) → code_text s from (scan_records s from past) ≡ write c

-- field by field, the run of a code's characters is the code's run
abbrev pub RunRight : Type 0
RunRight = (c : Code) → Good c → run_text (write c) ≡ run_of c

-- record by record too
abbrev pub RecordsRun : Type 0
RecordsRun =
    (s : List ℕ) (from past : ℕ) → Records s from past → (scan_records s from past).number ≡ 0
    → run_records 0 s from ((scan_records s from past).at - from) (scan_records s from past).column
    ≡ run_text (code_text s from (scan_records s from past))

-- whatever the characters are, no run is longer
abbrev pub RunShorter : Type 0
RunShorter = (place : ℕ) (l : List ℕ) → length (run_piece place l) ≤ length l
