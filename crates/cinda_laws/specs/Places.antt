-- The places that paper_cinda's definitions name (Layout) are the plain ones: columns counted from 1, seven of them for an
-- energy, and lines of 126 bytes.
use Rattle.std.specs.Prelude.{ℕ, ◌≡◌, List}
use Rattle.paper_cinda.specs.Layout.{column_of, columns_in, energy_at, lines_count, line_at}
use Rattle.cinda_laws.specs.Plain.{in_column, in_columns}
use Rattle.cinda_laws.specs.Said.{WholeLines, the_line}

pub record LayoutPlain : Type 0 where
  pub column : (l : List ℕ) (k : ℕ) → column_of l k ≡ in_column l k
  pub columns : (l : List ℕ) (k w : ℕ) → columns_in l k w ≡ in_columns l k w
  pub energy : (l : List ℕ) (k : ℕ) → energy_at l k ≡ in_columns l k 7
  pub line : (s : List ℕ) (i : ℕ) → line_at s i ≡ the_line s i
  pub count : (s : List ℕ) (w : WholeLines s) → lines_count s ≡ w.many
