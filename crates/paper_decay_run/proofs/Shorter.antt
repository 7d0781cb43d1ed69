-- No run is longer than what it is the run of, whatever the characters are.
-- Assumes nothing.
use mathlib.Core.Path.{◌≡◌, refl, ap}
use mathlib.Core.Bool.{Bool, true, false, cond}
use mathlib.Core.List.{List, [], ◌∷◌, ◌++◌, map}
use Prim.Native.Nat.{ℕ, zero, suc, ◌+◌, ◌-◌, ◌*◌, ◌≤◌}
use native.Mathlib.Omega.{arith}
use lib.Dec.{eqb, leb}
use lib.ListN.{length, take, drop, length-append, length-take, take-append-drop}
use Rattle.paper_number.specs.declared.types.Reading.{Reading}
use Rattle.paper_number.specs.declared.types.Reading.TheVariants.{Blank, Number, Refused}
use Rattle.paper_number.specs.Reading.{read_field}
use Rattle.paper_canonical.proofs.Laws.{number_fits}
use Rattle.paper_decay.specs.Code.{split}
use Rattle.paper_decay.specs.Records.{text_at, filled_to}
use Rattle.paper_decay.specs.Fields.{number_of, unit_of, front, cut_at, canonical_by, canonical_number}
use Rattle.paper_decay_run.specs.Text.{filled_text, filled_texts, text_to}
use Rattle.paper_decay_run.specs.Run.{run_number, run_said, lead_of, run_field, next_field, run_fields, field_behind}
use Rattle.paper_decay_run.specs.Run.{fields_in, without_last, last_of, run_piece, run_records}
use Rattle.paper_decay_run.specs.Claims.{RunShorter}
use Rattle.paper_decay_run.proofs.Cutting.{split-cut}

-- ---- a number

canonical-shorter : (l : List ℕ) → length (canonical_number l) ≤ length l
unfolding canonical_number
canonical-shorter l = by-reading (read_field l) refl
  where
    by-reading : (r : Reading) → read_field l ≡ r → length (canonical_by r l) ≤ length l
    by-reading Blank e = omega arith
    by-reading (Number v) e = number_fits l v e
    by-reading (Refused n) e = omega arith

pub number-shorter : (l : List ℕ) → length (run_number l) ≤ length l
unfolding run_number
number-shorter l = by-few (leb (length l) 11)
  where
    by-few : (t : Bool) → length (cond t (canonical_number l) l) ≤ length l
    by-few true = canonical-shorter l
    by-few false = omega arith

-- ---- words, each no longer than another

abbrev Shorters : List (List ℕ) → List (List ℕ) → Type 0
Shorters [] [] = Unit {0}
Shorters [] (w ∷ ws) = ⊥
Shorters (v ∷ vs) [] = ⊥
Shorters (v ∷ vs) (w ∷ ws) = (length v ≤ length w) × Shorters vs ws

split-shorter : (c : ℕ) (vs ws : List (List ℕ)) → Shorters vs ws → length (split c vs) ≤ length (split c ws)
split-shorter c [] [] h = omega arith
split-shorter c [] (w ∷ ws) h = absurd h
split-shorter c (v ∷ vs) [] h = absurd h
split-shorter c (v ∷ []) (w ∷ []) h = h.0
split-shorter c (v ∷ []) (w ∷ x ∷ ws) h = absurd h.1
split-shorter c (v ∷ y ∷ vs) (w ∷ []) h = absurd h.1
split-shorter c (v ∷ y ∷ vs) (w ∷ x ∷ ws) h =
    let a = h.0 in
    let b = split-shorter c (y ∷ vs) (x ∷ ws) h.1 in
    let p = length-append v (c ∷ split c (y ∷ vs)) in
    let q = length-append w (c ∷ split c (x ∷ ws)) in
    omega arith

-- the words of a text
cut-shorter : (c : ℕ) (vs : List (List ℕ)) (l : List ℕ) → Shorters vs (cut_at c l) → length (split c vs) ≤ length l
cut-shorter c vs l h =
    let a = split-shorter c vs (cut_at c l) h in
    let e : length (split c (cut_at c l)) ≡ length l = ap length (split-cut c l) in
    omega arith

-- ---- a field

all-shorter : (ws : List (List ℕ)) → Shorters (map run_number ws) ws
all-shorter [] = tt
all-shorter (w ∷ ws) = (number-shorter w, all-shorter ws)

-- of two parts of a text
parts-shorter : (n : ℕ) (l a b : List ℕ) → length a ≤ length (take n l) → length b ≤ length (drop n l)
    → length (a ++ b) ≤ length l
parts-shorter n l a b h k =
    let p = length-append a b in
    let q = length-append (take n l) (drop n l) in
    let e : length (take n l ++ drop n l) ≡ length l = ap length (take-append-drop n l) in
    omega arith

pub said-shorter : (place : ℕ) (l : List ℕ) → length (run_said place l) ≤ length l
unfolding run_said
said-shorter place l = by_place (eqb place 1) (eqb place 3) (eqb place 4)
  where
    by_place : (p q r : Bool)
        → length (cond p (run_number (number_of l) ++ unit_of l) (cond q (split 47 (map run_number (cut_at 47 l))) (cond r (run_number l) l)))
        ≤ length l
    by_place true q r = parts-shorter (front l) l (run_number (number_of l)) (unit_of l) (number-shorter (number_of l)) (omega arith)
    by_place false true r = cut-shorter 47 (map run_number (cut_at 47 l)) l (all-shorter (cut_at 47 l))
    by_place false false true = number-shorter l
    by_place false false false = omega arith

pub field-shorter : (place : ℕ) (l : List ℕ) → length (run_field place l) ≤ length l
unfolding run_field
field-shorter place l =
    let n = lead_of l in
    parts-shorter n l (take n l) (run_said place (drop n l)) (omega arith) (said-shorter place (drop n l))

-- ---- fields

fields-shorter : (place : ℕ) (fs : List (List ℕ)) → Shorters (run_fields place fs) fs
fields-shorter place [] = tt
fields-shorter place (f ∷ fs) = (field-shorter place f, fields-shorter (next_field place) fs)

pub run-shorter : RunShorter
unfolding run_piece
run-shorter place l =
    parts-shorter (length l - 1) l (split 44 (run_fields place (fields_in l))) (last_of l)
    (cut-shorter 44 (run_fields place (fields_in l)) (without_last l) (fields-shorter place (fields_in l))) (omega arith)

-- ---- records

pub records-shorter : (k place : ℕ) (s : List ℕ) (i column : ℕ)
    → length (run_records place s i k column) ≤ length (filled_texts s i k ++ text_to s (i + k) column)
unfolding run_records
records-shorter zero place s i column =
    let z : i + 0 ≡ i = omega arith in rw z (run-shorter place (text_to s i column))
records-shorter (suc k) place s i column =
    let l = filled_text s i in
    let n = field_behind place (fields_in l) in
    let a = run-shorter place l in
    let b = records-shorter k n s (i + 1) column in
    let m = filled_texts s (i + 1) k in
    let z : i + 1 + k ≡ i + suc k = omega arith in
    let e : length (m ++ text_to s (i + 1 + k) column) ≡ length (m ++ text_to s (i + suc k) column) =
    ap (λ (j : ℕ). length (m ++ text_to s j column)) z in
    let p = length-append (run_piece place l) (run_records n s (i + 1) k column) in
    let q = length-append (l ++ m) (text_to s (i + suc k) column) in
    let r = length-append l m in
    let t = length-append m (text_to s (i + suc k) column) in
    omega arith

-- 55 columns a record
few-taken : (n : ℕ) (l : List ℕ) → length (take n l) ≤ length l
few-taken n l = let e = length-take n l in omega arith

text-few : (s : List ℕ) (i : ℕ) → length (text_at s i) ≤ 55
text-few s i = let e = length-take 55 (drop (i * 81 + 11) s) in omega arith

pub texts-few : (k : ℕ) (s : List ℕ) (i j column : ℕ) → length (filled_texts s i k ++ text_to s j column) ≤ k * 55 + 55
texts-few zero s i j column =
    let a : length (text_to s j column) ≤ length (text_at s j) = few-taken (column - 11) (text_at s j) in
    let b = text-few s j in
    omega arith
texts-few (suc k) s i j column =
    let m = filled_texts s (i + 1) k in
    let t = text_to s j column in
    let a = few-taken (filled_to (text_at s i)) (text_at s i) in
    let b = text-few s i in
    let c = texts-few k s (i + 1) j column in
    let p = length-append (filled_text s i ++ m) t in
    let q = length-append (filled_text s i) m in
    let r = length-append m t in
    omega arith

pub records-few : (k place : ℕ) (s : List ℕ) (i column : ℕ) → length (run_records place s i k column) ≤ k * 55 + 55
records-few k place s i column =
    let a = records-shorter k place s i column in
    let b = texts-few k s i (i + k) column in
    omega arith
