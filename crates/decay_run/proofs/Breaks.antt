-- The run of a code that breaks, record by record: what is stored of the next record, and what is left.
-- Assumes nothing.
use Prim.Native.Nat.{ℕ, ◌+◌, ◌-◌, ◌*◌, ◌<◌, ◌≤◌}
use mathlib.Core.Path.{◌≡◌, refl, sym}
use mathlib.Core.List.{List, ◌++◌}
use native.Mathlib.Omega.{arith}
use lib.ListN.{length, drop, length-take}
use lib.Seq.{take-take}
use Rattle.laws.proofs.Search.{less}
use Rattle.paper_decay.specs.Records.{text_at, filled_to}
use Rattle.paper_decay_run.specs.Text.{filled_text, text_to}
use Rattle.paper_decay_run.specs.Run.{run_piece, field_behind, fields_in, run_records}
use Rattle.paper_decay_run.proofs.Shorter.{run-shorter}
use Rattle.decay_numbers.proofs.Words.{between}

-- ---- the columns of a record

pub text-whole : (s : List ℕ) (i : ℕ) → between s (i * 81 + 11) (i * 81 + 11 + 55) ≡ text_at s i
text-whole s i = let z : i * 81 + 11 + 55 - (i * 81 + 11) ≡ 55 = omega arith in rw z refl

pub text-part : (s : List ℕ) (i column : ℕ) → column ≤ 66
    → between s (i * 81 + 11) (i * 81 + column) ≡ text_to s i column
text-part s i column h =
    let z : i * 81 + column - (i * 81 + 11) ≡ column - 11 = omega arith in
    rw z (sym (take-take (column - 11) 55 (drop (i * 81 + 11) s) (omega arith)))

-- no more is stored of it
pub record-few : (place : ℕ) (s : List ℕ) (i : ℕ) → length (run_piece place (filled_text s i)) ≤ 55
record-few place s i =
    let a = run-shorter place (filled_text s i) in
    let b = length-take (filled_to (text_at s i)) (text_at s i) in
    let c = length-take 55 (drop (i * 81 + 11) s) in
    omega arith

-- ---- the records up to the last

pub records-next : (place : ℕ) (s : List ℕ) (i last column : ℕ) → i < last
    → run_records place s i (last - i) column
    ≡ run_piece place (filled_text s i)
    ++ run_records (field_behind place (fields_in (filled_text s i))) s (i + 1) (last - (i + 1)) column
unfolding run_records
records-next place s i last column h = rw (less i last h) refl

pub records-last : (place : ℕ) (s : List ℕ) (last column : ℕ)
    → run_records place s last (last - last) column ≡ run_piece place (text_to s last column)
unfolding run_records
records-last place s last column = let z : last - last ≡ 0 = omega arith in rw z refl
