-- The run of a text between commas: what is stored of the next field, what is left behind it, and the place of the next.
-- Assumes nothing.
use Prim.Native.Nat.{ℕ, ◌+◌, ◌-◌, ◌<◌, ◌≤◌}
use mathlib.Core.Path.{◌≡◌, refl}
use mathlib.Core.List.{List, [], ◌∷◌, ◌++◌}
use native.Mathlib.Omega.{arith}
use lib.ListN.{length, drop, length-append}
use Rattle.paper_decay.specs.Code.{split}
use Rattle.paper_decay.specs.Fields.{cut_at}
use Rattle.paper_decay_run.specs.Run.{run_field, next_field, run_fields, field_behind, without_last, last_of, run_piece}
use Rattle.paper_decay_run.proofs.Shorter.{run-shorter}
use Rattle.decay_words.proofs.Cutting.{cut-some, end_of}
use Rattle.decay_numbers.proofs.Words.{between, split-more, word-last, word_next, word-ends}
use Rattle.decay_run.proofs.Halves.{front-part, rest_part}

abbrev pub run_between : ℕ → List ℕ → List ℕ
run_between place l = split 44 (run_fields place (cut_at 44 l))

abbrev pub place_behind : ℕ → List ℕ → ℕ
place_behind place l = field_behind place (cut_at 44 l)

-- as many as there are
fields-long : (place : ℕ) (fs : List (List ℕ)) → length (run_fields place fs) ≡ length fs
fields-long place [] = refl
fields-long place (f ∷ fs) = let e = fields-long (next_field place) fs in omega arith

module _ (place : ℕ) (l : List ℕ) (start past : ℕ) (low : start ≤ length l) (found : past ≡ end_of 44 l start) where
  pub fields-last : past ≡ length l → run_between place (drop start l) ≡ run_field place (between l start past)
  fields-last e = rw (word-last 44 l start past low found e) refl

  pub place-last : past ≡ length l → place_behind place (drop start l) ≡ next_field place
  place-last e = rw (word-last 44 l start past low found e) refl

  pub fields-next : past < length l
      → run_between place (drop start l)
      ≡ run_field place (between l start past)
      ++ (between l past (past + 1) ++ run_between (next_field place) (drop (past + 1) l))
  fields-next h =
      let fs = cut_at 44 (drop (past + 1) l) in
      let n = fields-long (next_field place) fs in
      let k = cut-some 44 (drop (past + 1) l) in
      rw (word_next 44 l start past low found h, word-ends 44 l start past low found h)
      (split-more 44 (run_field place (between l start past)) (run_fields (next_field place) fs) (omega arith))

  pub place-next : past < length l
      → place_behind place (drop start l) ≡ place_behind (next_field place) (drop (past + 1) l)
  place-next h = rw (word_next 44 l start past low found h) refl

-- ---- the last character belongs to no field

pub piece-parts : (place : ℕ) (l : List ℕ) (k : ℕ) → k ≡ length l - 1
    → length (run_between place (between l 0 k)) + length (between l k (length l)) ≤ length l
unfolding run_piece
piece-parts place l k e =
    let n = length-append (run_between place (without_last l)) (last_of l) in
    let h = run-shorter place l in
    rw (front-part l k, rest_part l k, e) (omega arith)
