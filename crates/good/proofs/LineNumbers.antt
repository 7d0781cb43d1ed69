-- A line has a number exactly when its numbers, counted, are at least one. Assumes nothing.
use Prim.Native.Nat.{ℕ, zero, suc, ◌+◌, ◌<◌, ◌≤◌}
use mathlib.Core.Path.{◌≡◌, refl, sym, ◌∙◌}
use mathlib.Core.Bool.{Bool, true, false, cond}
use mathlib.Core.List.{List, [], ◌∷◌}
use native.Mathlib.Omega.{arith}
use Rattle.laws.specs.Search.{how_many}
use Rattle.laws.specs.Walk.{All}
use Rattle.laws.proofs.Booleans.{differ}
use Rattle.laws.proofs.Counting.{none-many}
use Rattle.laws.proofs.Search.{either}
use Rattle.paper_record.proofs.PlainValues.{number-exactly}
use Rattle.rules_plain.specs.Places.{cell}
use Rattle.good.specs.Parts.{Record}
use Rattle.good.specs.Tables.{is_number, numbers_in_line, HasNumber}

-- a place that meets a test
record Some (t : ℕ → Bool) (n : ℕ) : Type 0 where
  place : ℕ
  below : place < n
  holds : t place ≡ true

many-some : (t : ℕ → Bool) (n : ℕ) → 1 ≤ how_many t 0 n → Some t n
unfolding how_many
many-some t zero h = absurd (omega arith)
many-some t (suc n) h =
    let z : 0 + n ≡ n = omega arith in
    by-test (t n) refl (rw z at h) (λ k. many-some t n k)
  where
    by-test : (b : Bool) → t n ≡ b → 1 ≤ how_many t 0 n + cond b 1 0 → (1 ≤ how_many t 0 n → Some t n)
        → Some t (suc n)
    by-test true q h rest = record { place = n; below = omega arith; holds = q }
    by-test false q h rest =
        let s = rest (omega arith) in
        let l = s.below in
        record { place = s.place; below = omega arith; holds = s.holds }

some-many : (t : ℕ → Bool) (n c : ℕ) → c < n → t c ≡ true → 1 ≤ how_many t 0 n
some-many t n c l e =
    either 0 (how_many t 0 n) (λ a. omega arith) (λ a. differ (sym e ∙ none-many t n (omega arith) c l))

counted_has : (n : ℕ) (row : List Record) → 1 ≤ numbers_in_line n row → HasNumber n row
unfolding numbers_in_line
counted_has n row h =
    let s = many-some (is_number row) n h in
    record {
      column = s.place;
      used = s.below;
      number = (number-exactly (cell row s.place)).0 s.holds;
    }

has-counted : (n : ℕ) (row : List Record) → HasNumber n row → 1 ≤ numbers_in_line n row
unfolding numbers_in_line
has-counted n row h =
    some-many (is_number row) n h.column h.used ((number-exactly (cell row h.column)).1 h.number)

-- ---- all lines of a table

pub counted-lines : (n : ℕ) (rows : List (List Record)) → All (λ row. 1 ≤ numbers_in_line n row) rows
    → All (HasNumber n) rows
counted-lines n [] h = tt
counted-lines n (row ∷ rows) h = (counted_has n row h.0, counted-lines n rows h.1)

pub lines-counted : (n : ℕ) (rows : List (List Record)) → All (HasNumber n) rows
    → All (λ row. 1 ≤ numbers_in_line n row) rows
lines-counted n [] h = tt
lines-counted n (row ∷ rows) h = (has-counted n row h.0, lines-counted n rows h.1)
