-- Rows one behind the other, as numbers and back; and the first row with a number.
-- Assumes nothing.
use Prim.Native.Nat.{ℕ, zero, suc, ◌+◌, ◌*◌, ◌/◌, ◌%◌, ◌<◌}
use mathlib.Core.Path.{◌≡◌, refl, ap, ◌∙◌}
use mathlib.Core.Bool.{Bool, true, false, cond}
use mathlib.Core.List.{List, [], ◌∷◌, ◌++◌}
use native.Mathlib.Nat.{le_of_suc-le-suc, not-suc-le-zero, mul-div_cancel, mul-mod_left, zero-lt-suc, add-zero}
use native.Mathlib.Omega.{arith}
use lib.ListN.{length, get_or}
use Rattle.laws.specs.Search.{first}
use Rattle.paper_questions.specs.declared.types.Row.{Row}
use Rattle.paper_index.specs.Rows.{row_numbers, rows_for}
use Rattle.paper_index.specs.ByIndex.{row_in}

module _ (row : ℕ → Row) where
  -- five numbers to a row
  pub rows-length : (ns : List ℕ) → length (rows_for row ns) ≡ length ns * 5
  unfolding rows_for
  rows-length [] = refl
  rows-length (n ∷ ns) = omega (arith, rows-length ns)

  pub rows-count : (ns : List ℕ) → length (rows_for row ns) / 5 ≡ length ns
  rows-count ns = ap (λ (m : ℕ). m / 5) (rows-length ns) ∙ mul-div_cancel (length ns) (zero-lt-suc 4)

  pub rows_whole : (ns : List ℕ) → length (rows_for row ns) % 5 ≡ 0
  rows_whole ns = ap (λ (m : ℕ). m % 5) (rows-length ns) ∙ mul-mod_left (length ns) 5

  pub rows_append : (ns ms : List ℕ) → rows_for row (ns ++ ms) ≡ rows_for row ns ++ rows_for row ms
  unfolding rows_for
  rows_append [] ms = refl
  rows_append (n ∷ ns) ms = ap (λ (l : List ℕ). row_numbers (row n) ++ l) (rows_append ns ms)

  -- one row more
  pub rows-one : (ns : List ℕ) (n : ℕ) → rows_for row (ns ++ (n ∷ [])) ≡ rows_for row ns ++ row_numbers (row n)
  unfolding rows_for
  rows-one ns n = rows_append ns (n ∷ [])

-- ---- the row that has so many before it

none-shift : (i : ℕ) → suc i * 5 ≡ suc (suc (suc (suc (suc (i * 5)))))
none-shift i = omega arith

some-shift : (i k : ℕ) → suc i * 5 + k ≡ suc (suc (suc (suc (suc (i * 5 + k)))))
some-shift i k = omega arith

module _ (x : Row) (l : List ℕ) (i : ℕ) where
  at-number : get_or (row_numbers x ++ l) (suc i * 5) 0 ≡ get_or l (i * 5) 0
  at-number = ap (λ (m : ℕ). get_or (row_numbers x ++ l) m 0) (none-shift i)

  at-record : (k : ℕ) → get_or (row_numbers x ++ l) (suc i * 5 + k) 0 ≡ get_or l (i * 5 + k) 0
  at-record k = ap (λ (m : ℕ). get_or (row_numbers x ++ l) m 0) (some-shift i k)

  row-behind : row_in (row_numbers x ++ l) (suc i) ≡ row_in l i
  row-behind =
      λ j. record {
        number = at-number j;
        first = record { 0 = at-record 1 j };
        bib = record { 0 = at-record 2 j };
        common = record { 0 = at-record 3 j };
        «data» = record { 0 = at-record 4 j };
      }

pub rows_at : (row : ℕ → Row) (ns : List ℕ) (i : ℕ) → i < length ns → row_in (rows_for row ns) i ≡ row (get_or ns i 0)
unfolding rows_for
rows_at row [] i h = absurd (not-suc-le-zero h)
rows_at row (n ∷ ns) zero h = refl
rows_at row (n ∷ ns) (suc i) h =
    row-behind (row n) (rows_for row ns) i ∙ rows_at row ns i (le_of_suc-le-suc h)

-- rows that are the same for each of the numbers
pub rows_same : (f g : ℕ → Row) (ns : List ℕ) → ((k : ℕ) → k < length ns → f (get_or ns k 0) ≡ g (get_or ns k 0))
    → rows_for f ns ≡ rows_for g ns
unfolding rows_for
rows_same f g [] h = refl
rows_same f g (n ∷ ns) h =
    rw (h 0 (omega arith), rows_same f g ns (λ k l. h (suc k) (omega arith)))
