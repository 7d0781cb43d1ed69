-- Rule 17 on a record of values and along its row, over the bytes that judging has kept: no value is at fault under the
-- heading of its column. What that says of codes and numbers is in FlagParts.
-- Assumes nothing.
use Prim.Native.Nat.{ℕ, ◌+◌, ◌-◌, ◌*◌, ◌/◌, ◌<◌, ◌≤◌}
use mathlib.Core.Path.{◌≡◌, refl, sym, ◌∙◌, ap}
use mathlib.Core.Bool.{false}
use mathlib.Core.List.{List, [], ◌∷◌, ◌++◌}
use native.Mathlib.Omega.{arith}
use lib.ListN.{length, length-append}
use Rattle.laws.specs.Blocks.{joined}
use Rattle.laws.specs.Walk.{All}
use Rattle.laws.proofs.Search.{either}
use Rattle.paper_record.specs.Fields.{field_at, fields_of}
use Rattle.paper_rules.specs.State.{Context, used}
use Rattle.paper_rules.specs.Record.{field_column}
use Rattle.paper_rules.specs.Earlier.{heading_at}
use Rattle.paper_rules.specs.Flags.{column_over, flag_fault, flag_fault_at, rule17}
use Rattle.paper_faults.proofs.NoColumns.{where-none, none-where}
use Rattle.rules_plain.specs.Places.{cell}
use Rattle.rules_plain.proofs.Rows.{cell-here, cell-there}
use Rattle.good.specs.Parts.{Record}
use Rattle.good.proofs.Rowwise.{RowFine}
use Rattle.good.proofs.Cells.{field-at, few, few-used, few-least, few-below, below-few}

-- ---- what is kept

-- the bytes that a value is held against: the text records of this BIB and of that of 001, and the heading records of
-- the table in hand
pub record Kept : Type 0 where
  pub bib : List ℕ
  pub bib001 : List ℕ
  pub table : List ℕ

abbrev pub kept_of : List ℕ → List ℕ → List Record → Kept
kept_of bib bib001 rows = record { bib = bib; bib001 = bib001; table = joined rows }

pub record Keeps (c : Context) (kept : Kept) : Type 0 where
  pub bib : c.seen.bib ≡ kept.bib
  pub bib001 : c.seen.bib001 ≡ kept.bib001
  pub table : c.seen.table ≡ kept.table

-- the value f is not at fault in the column m
unfoldable pub FitsAt : Kept → ℕ → List ℕ → Type 0
FitsAt kept m f = flag_fault kept.bib kept.bib001 (heading_at kept.table m) f ≡ false

fits-as : (kept : Kept) (m n : ℕ) (f g : List ℕ) → m ≡ n → f ≡ g → FitsAt kept m f → FitsAt kept n g
fits-as kept m n f g p q h = rw (p, q) at h

-- ---- a record of values

-- no used field is at fault; `before` are the records of the row before this one
abbrev pub FlagsOn : Kept → ℕ → List Record → Record → Type 0
FlagsOn kept rest before r = (j : ℕ) → j < 6 → j < rest → FitsAt kept (length before * 6 + j) (field_at r j)

-- the judge counts a column from those that are left, the definition from the records before
over : (columns left b j : ℕ) → b * 6 + left ≡ columns → (columns - left) / 6 * 6 + j ≡ b * 6 + j
over columns left b j p = omega arith

module _ (kept : Kept) (c : Context) (rest : ℕ) (before : List Record) (r : Record)
    (left : c.track.table.rest ≡ rest)
    (place : length before * 6 + c.track.table.rest ≡ c.track.table.columns) (keeps : Keeps c kept) where
  tested : (j : ℕ) → j < 6 → flag_fault_at c.seen c.track (fields_of r) j
      ≡ flag_fault kept.bib kept.bib001 (heading_at kept.table (length before * 6 + j)) (field_at r j)
  tested j l =
      let q : column_over c.track j ≡ length before * 6 + j =
      over c.track.table.columns c.track.table.rest (length before) j place in
      rw (keeps.bib, keeps.bib001, keeps.table, q, field-at r j l) refl

  pub rule-flags : rule17 c.seen c.track (fields_of r) ≡ [] → FlagsOn kept rest before r
  unfolding rule17 FitsAt
  rule-flags e j l a =
      sym (tested j l)
      ∙ where-none (flag_fault_at c.seen c.track (fields_of r)) field_column (used c.track) e j
      (rw (few-used c.track rest left) (few-below rest j l a))

  pub flags-rule : FlagsOn kept rest before r → rule17 c.seen c.track (fields_of r) ≡ []
  unfolding rule17 FitsAt
  flags-rule f =
      none-where (flag_fault_at c.seen c.track (fields_of r)) field_column (used c.track)
      (λ j l.
      let q : j < few rest = rw (few-used c.track rest left) at l in
      let s = few-least rest in
      let m : j < 6 = omega arith in
      tested j m ∙ f j m (below-few rest j q))

-- ---- a row, column by column

there-place : (before : List Record) (r : Record) (c : ℕ) → 6 ≤ c
    → length (before ++ (r ∷ [])) * 6 + (c - 6) ≡ length before * 6 + c
there-place before r c l = let n = length-append before (r ∷ []) in omega arith

module _ (kept : Kept) (Fine : ℕ → List Record → ℕ → Record → Type 0) (count : ℕ → Record → ℕ)
    (flags : (rest : ℕ) (before : List Record) (m : ℕ) (r : Record) → Fine rest before m r
    → FlagsOn kept rest before r) where
  pub row-flags : (rest : ℕ) (before : List Record) (m : ℕ) (rs : List Record) → RowFine Fine count rest before m rs
      → (c : ℕ) → c < length rs * 6 → c < rest → FitsAt kept (length before * 6 + c) (cell rs c)
  unfolding RowFine
  row-flags rest before m [] h c l u = absurd (omega arith)
  row-flags rest before m (r ∷ rs) h c l u =
      either c 6
      (λ a. fits-as kept (length before * 6 + c) (length before * 6 + c) (field_at r c) (cell (r ∷ rs) c) refl
      (sym (cell-here r rs c a)) (flags rest before m r h.0 c a u))
      (λ a. fits-as kept (length (before ++ (r ∷ [])) * 6 + (c - 6)) (length before * 6 + c) (cell rs (c - 6))
      (cell (r ∷ rs) c) (there-place before r c a) (sym (cell-there r rs c a))
      (row-flags (rest - 6) (before ++ (r ∷ [])) (m + count rest r) rs h.1 (c - 6) (omega arith) (omega arith)))

-- the first record of a row, and those behind it
module _ (kept : Kept) (rest : ℕ) (before : List Record) (r : Record) (rs : List Record)
    (fit : (c : ℕ) → c < length (r ∷ rs) * 6 → c < rest → FitsAt kept (length before * 6 + c) (cell (r ∷ rs) c)) where
  pub flags-here : FlagsOn kept rest before r
  flags-here j l a =
      fits-as kept (length before * 6 + j) (length before * 6 + j) (cell (r ∷ rs) j) (field_at r j) refl
      (cell-here r rs j l) (fit j (omega arith) a)

  pub flags-there : (c : ℕ) → c < length rs * 6 → c < rest - 6
      → FitsAt kept (length (before ++ (r ∷ [])) * 6 + c) (cell rs c)
  flags-there c l a =
      let e : c + 6 - 6 ≡ c = omega arith in
      fits-as kept (length before * 6 + (c + 6)) (length (before ++ (r ∷ [])) * 6 + c) (cell (r ∷ rs) (c + 6))
      (cell rs c)
      (sym (there-place before r (c + 6) (omega arith)) ∙ ap (λ (x : ℕ). length (before ++ (r ∷ [])) * 6 + x) e)
      (cell-there r rs (c + 6) (omega arith) ∙ ap (cell rs) e) (fit (c + 6) (omega arith) (omega arith))

-- ---- the lines of a table

-- no value of n columns is at fault
abbrev pub LinesFit : Kept → ℕ → List (List Record) → Type 0
LinesFit kept n rows = All (λ row. (x : ℕ) → x < n → FitsAt kept x (cell row x)) rows
