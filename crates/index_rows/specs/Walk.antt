-- The rows of an entry on the way over its records.
use Rattle.std.specs.Prelude.{ℕ, List}
use Rattle.paper_entry.specs.Contexts.{context_at}
use Rattle.paper_questions.specs.Located.{row_at}
use Rattle.paper_index.specs.Rows.{opened_to, rows_for}

-- the number of the subentry in hand before the record with the index i
abbrev pub in_hand : List ℕ → ℕ → ℕ
in_hand s i = (context_at s i).track.subentry.number

-- the rows of all that were opened so far, each as it is noted up to there
abbrev pub rows_to : List ℕ → ℕ → List ℕ
rows_to s i = rows_for (λ m. row_at s m i) (opened_to s i)
