-- The rows of an accepted entry's index, and the row that is found in it.
-- Assumes nothing.
use Prim.Native.Nat.{ℕ, ◌*◌, ◌/◌, ◌<◌, ◌≤◌}
use mathlib.Core.Path.{◌≡◌, sym, ap, ◌∙◌}
use mathlib.Core.Bool.{false}
use mathlib.Core.List.{List}
use native.Mathlib.Omega.{arith}
use native.Mathlib.Nat.{zero-add}
use borrow.Author.Tests.{eqb-true, eq-eqb}
use lib.ListN.{length, get_or}
use Rattle.laws.proofs.Booleans.{differ}
use Rattle.laws.proofs.Search.{either, first_to, first-pass}
use Rattle.paper_entry.specs.declared.types.Verdict.{Verdict}
use Rattle.paper_entry.specs.Judging.{Accepted}
use Rattle.entry_walk.proofs.AcceptedWalk.{walked}
use Rattle.paper_questions.specs.declared.types.Row.{Row}
use Rattle.paper_questions.specs.Located.{row_of}
use Rattle.paper_questions.proofs.FoundRow.{found-row}
use Rattle.inside.proofs.RowWalked.{number-of}
use Rattle.paper_index.specs.Rows.{opened_to, index_of}
use Rattle.paper_index.specs.Making.{rows_in}
use Rattle.paper_index.specs.ByIndex.{row_in, has_row, rows_before}
use Rattle.paper_index.specs.Claims.{IndexLength}
use Rattle.laws.proofs.Counting.{first_holds}
use Rattle.paper_index.proofs.RowLists.{rows-length, rows-count, rows_whole, rows_at}
use Rattle.index_rows.specs.Index.{number_of_row, IndexRises, IndexRows, OpensWith, EveryOpened, IndexWhole, RowFound}
use Rattle.index_rows.proofs.Totals.{judge-totals}
use Rattle.index_rows.proofs.Opened.{opened-length, opened-by, number-opened, numbers-rise}

-- ---- how many rows

pub index-whole : IndexWhole
unfolding index_of
index-whole s = rows_whole (row_of s) (opened_to s (length s / 81))

pub index-count : (s : List ℕ) → length (index_of s) / 5 ≡ length (opened_to s (length s / 81))
unfolding index_of
index-count s = rows-count (row_of s) (opened_to s (length s / 81))

pub opened-total : (s : List ℕ) → Accepted s → length (opened_to s (length s / 81)) ≡ rows_in s
opened-total s a =
    opened-length s (length s / 81) ∙ sym (ap (λ (v : Verdict). v.totals.subentries) (judge-totals s a))

five-times : (a b c : ℕ) → a ≡ b * 5 → b ≡ c → a ≡ 5 * c
five-times a b c e f = omega arith

pub index-length : IndexLength
unfolding index_of
index-length s a =
    five-times _ _ _ (rows-length (row_of s) (opened_to s (length s / 81))) (opened-total s a)

-- ---- each row

row_number : (s : List ℕ) (n : ℕ) → Accepted s → (row_of s n).number ≡ n
row_number s n a = ap (λ (x : Row). x.number) (found-row s n a) ∙ number-of s n (length s / 81)

module _ (s : List ℕ) (a : Accepted s) where
  abbrev numbers : List ℕ
  numbers = opened_to s (length s / 81)

  index_at : (i : ℕ) → i < length numbers → row_in (index_of s) i ≡ row_of s (get_or numbers i 0)
  unfolding index_of
  index_at i h = rows_at (row_of s) numbers i h

  number_at : (i : ℕ) → i < length numbers → number_of_row s i ≡ get_or numbers i 0
  number_at i h = ap (λ (x : Row). x.number) (index_at i h) ∙ row_number s _ a

  own_row : (i : ℕ) → i < length numbers → row_in (index_of s) i ≡ row_of s (number_of_row s i)
  own_row i h = index_at i h ∙ ap (row_of s) (sym (number_at i h))

pub index-rows : IndexRows
index-rows s a i h = let e = opened-total s a in own_row s a i (omega arith)

pub index-rises : IndexRises
index-rises s a i j h l =
    let e = opened-total s a in
    rw (number_at s a i (omega arith), number_at s a j (omega arith))
    (numbers-rise s (length s / 81) (walked s a) (omega arith) (length s / 81) (omega arith) i j h (omega arith))

-- ---- the row that is found

module _ (s : List ℕ) (a : Accepted s) (n : ℕ) where
  abbrev before : ℕ
  before = rows_before (index_of s) n

  -- it has that number
  found_number : before < length (index_of s) / 5 → number_of_row s before ≡ n
  unfolding rows_before
  found_number h =
      eqb-true _ _ (first_holds (has_row (index_of s) n) 0 (length (index_of s) / 5) (omega arith))

  none_has : before ≡ length (index_of s) / 5 → (k : ℕ) → k < length (index_of s) / 5 → number_of_row s k ≡ n → ⊥
  unfolding rows_before
  none_has h k l e =
      let f : has_row (index_of s) n k ≡ false =
      first-pass (has_row (index_of s) n) 0 (length (index_of s) / 5) (h ∙ sym (zero-add _)) k (omega arith) (omega arith) in
      differ (sym (eq-eqb (number_of_row s k) n e) ∙ f)

  before-upto : before ≤ length (index_of s) / 5
  unfolding rows_before
  before-upto = let h = first_to (has_row (index_of s) n) 0 (length (index_of s) / 5) in omega arith

pub row-found : RowFound
row-found s a n h =
    let e = index-count s in
    own_row s a (rows_before (index_of s) n) (omega arith) ∙ ap (row_of s) (found_number s a n h)

pub every-opened : EveryOpened
every-opened s a n i x =
    let e = index-count s in
    let (k, l, f) = number-opened s (length s / 81) i x.there x.role in
    either (rows_before (index_of s) n) (length (index_of s) / 5) (λ b. b)
    (λ b.
    let u = before-upto s a n in
    absurd (none_has s a n (omega arith) k (omega arith) (number_at s a k l ∙ f ∙ x.bears)))

-- and is opened by a record
pub found-opened : (s : List ℕ) → Accepted s → (n : ℕ) → rows_before (index_of s) n < length (index_of s) / 5
    → (i : ℕ) × OpensWith s n i
found-opened s a n h =
    let e = index-count s in
    let x = opened-by s (length s / 81) (rows_before (index_of s) n) (omega arith) in
    let m = number_at s a (rows_before (index_of s) n) (omega arith) in
    (x.index, record { there = x.before; role = x.role; bears = x.bears ∙ sym m ∙ found_number s a n h })
