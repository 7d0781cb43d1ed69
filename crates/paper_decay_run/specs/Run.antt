-- The run of a code (document 02, M-106): "numbers save the flag by their canonical field's characters, the rest as it
-- was". Here of any characters, field by field; that of a code's characters it is the code's own run is the law
-- `run-right`.
use Rattle.std.specs.Prelude.{cond, List, [], ◌∷◌, ◌++◌, map, ℕ, zero, suc, ◌+◌, ◌-◌, eqb, leb, length, take, drop}
use Rattle.paper_decay.specs.Code.{split}
use Rattle.paper_decay.specs.Fields.{number_of, unit_of, cut_at, canonical_number}
use Rattle.paper_decay_run.specs.Text.{filled_text, text_to}

-- ---- a field

-- "numbers [..] have at most eleven characters"; what is no number stays
unfoldable pub run_number : List ℕ → List ℕ
run_number l = cond (leb (length l) 11) (canonical_number l) l

-- by the field's place, as the scan counts them: 0 flag and nuclide, 1 half-life, 2 types, 3 energies, 4 abundance
unfoldable pub run_said : ℕ → List ℕ → List ℕ
run_said place l =
    cond (eqb place 1) (run_number (number_of l) ++ unit_of l)
    (cond (eqb place 3) (split 47 (map run_number (cut_at 47 l)))
    (cond (eqb place 4) (run_number l) l))

-- the blanks at the beginning of a field
unfoldable pub lead_of : List ℕ → ℕ
lead_of [] = 0
lead_of (b ∷ l) = cond (eqb b 32) (lead_of l + 1) 0

unfoldable pub run_field : ℕ → List ℕ → List ℕ
run_field place l = take (lead_of l) l ++ run_said place (drop (lead_of l) l)

-- ---- the fields between the commas

-- "Groups go by position": types, energies and abundance over and over
abbrev pub next_field : ℕ → ℕ
next_field place = cond (eqb place 4) 2 (place + 1)

abbrev pub run_fields : ℕ → List (List ℕ) → List (List ℕ)
run_fields place [] = []
run_fields place (f ∷ fs) = run_field place f ∷ run_fields (next_field place) fs

-- the place behind them
abbrev pub field_behind : ℕ → List (List ℕ) → ℕ
field_behind place [] = place
field_behind place (f ∷ fs) = field_behind (next_field place) fs

-- the last character is a comma or the closing parenthesis, and belongs to no field
abbrev pub without_last : List ℕ → List ℕ
without_last l = take (length l - 1) l

abbrev pub last_of : List ℕ → List ℕ
last_of l = drop (length l - 1) l

abbrev pub fields_in : List ℕ → List (List ℕ)
fields_in l = cut_at 44 (without_last l)

unfoldable pub run_piece : ℕ → List ℕ → List ℕ
run_piece place l = split 44 (run_fields place (fields_in l)) ++ last_of l

-- the run of a code's characters
unfoldable pub run_text : List ℕ → List ℕ
run_text l = run_piece 0 l

-- ---- record by record, as the code does; `records-run` says that it is the same

unfoldable pub run_records : ℕ → List ℕ → ℕ → ℕ → ℕ → List ℕ
run_records place s i zero column = run_piece place (text_to s i column)
run_records place s i (suc k) column =
    run_piece place (filled_text s i)
    ++ run_records (field_behind place (fields_in (filled_text s i))) s (i + 1) k column
