-- A line of values, column by column: the judge goes over its records exactly when each value is good and fits the
-- heading of its column, and a line of DATA has a number.
-- Assumes nothing.
use Prim.Native.Nat.{ℕ, ◌+◌, ◌-◌, ◌*◌, ◌<◌, ◌≤◌}
use mathlib.Core.Path.{◌≡◌, refl, sym, ◌∙◌, ap}
use mathlib.Core.Bool.{Bool, true, false}
use mathlib.Core.Logic.{◌↔◌}
use mathlib.Core.List.{List, [], ◌∷◌, ◌++◌}
use native.Mathlib.Omega.{arith}
use lib.ListN.{length}
use borrow.Author.Tests.{le-leb, lt-leb}
use Rattle.laws.proofs.Booleans.{differ}
use Rattle.laws.proofs.Counting.{many-same, many-split}
use Rattle.laws.specs.Search.{how_many}
use Rattle.paper_record.specs.Places.{records_for}
use Rattle.paper_record.specs.Numbers.{form_at, says_number}
use Rattle.paper_rules.specs.State.{Context, used}
use Rattle.rules_plain.specs.Places.{cell}
use Rattle.rules_plain.proofs.Rows.{cell-here, cell-there}
use Rattle.good.specs.Parts.{Record}
use Rattle.good.specs.Marks.{Following}
use Rattle.good.specs.Tables.{GoodValue, BlankValue, is_number, numbers_in_line, GoodValues}
use Rattle.good.proofs.Runs.{Run}
use Rattle.good.proofs.Systems.{identification_in}
use Rattle.good.proofs.RowPlaces.{RowAt, NoEnd}
use Rattle.good.proofs.Rows.{values, role_for}
use Rattle.good.proofs.Rowwise.{RowFine, count_row}
use Rattle.good.proofs.Cells.{few, fine-used, fine-unused, cells-here, used-there, unused-there}
use Rattle.good.proofs.FlagsByColumn.{Kept, Keeps, FitsAt, row-flags, flags-here, flags-there}
use Rattle.good.proofs.Values.{number_at, count, LineFine, run-values}

-- the numbers counted record by record are those of the line, counted over its columns
pub count-numbers : (rest : ℕ) (rs : List Record) → length rs ≡ records_for rest
    → count_row count rest rs ≡ numbers_in_line rest rs
unfolding count_row numbers_in_line how_many
count-numbers rest [] l = let z : rest ≡ 0 = omega arith in rw z
count-numbers rest (r ∷ []) l =
    let a : rest ≤ 6 = omega arith in
    short a
  where
    short : rest ≤ 6 → how_many (number_at r) 0 (few rest) + 0 ≡ how_many (is_number (r ∷ [])) 0 rest
    short a =
        let e : how_many (number_at r) 0 rest ≡ how_many (is_number (r ∷ [])) 0 rest =
        many-same (number_at r) (is_number (r ∷ [])) rest
        (λ k l. ap (λ (f : List ℕ). says_number (form_at f)) (sym (cell-here r [] k (omega arith)))) in
        rw (le-leb rest 6 a) (omega arith)
count-numbers rest (r ∷ r' ∷ rs) l =
    let a : 6 < rest = omega arith in
    let z : rest ≡ 6 + (rest - 6) = omega arith in
    let h = count-numbers (rest - 6) (r' ∷ rs) (omega arith) in
    long a z h
  where
    long : 6 < rest → rest ≡ 6 + (rest - 6) → count_row count (rest - 6) (r' ∷ rs) ≡ numbers_in_line (rest - 6) (r' ∷ rs)
        → count rest r + count_row count (rest - 6) (r' ∷ rs) ≡ numbers_in_line rest (r ∷ r' ∷ rs)
    long a z h =
        let e : how_many (number_at r) 0 6 ≡ how_many (is_number (r ∷ r' ∷ rs)) 0 6 =
        many-same (number_at r) (is_number (r ∷ r' ∷ rs)) 6
        (λ k l. ap (λ (f : List ℕ). says_number (form_at f)) (sym (cell-here r (r' ∷ rs) k l))) in
        let f : numbers_in_line (rest - 6) (r' ∷ rs) ≡ how_many (λ k. is_number (r ∷ r' ∷ rs) (6 + k)) 0 (rest - 6) =
        many-same (is_number (r' ∷ rs)) (λ k. is_number (r ∷ r' ∷ rs) (6 + k)) (rest - 6)
        (λ k l. ap (λ (f : List ℕ). says_number (form_at f)) (sym (later k))) in
        let s = many-split (is_number (r ∷ r' ∷ rs)) 6 (rest - 6) in
        rw (lt-leb rest 6 a) (ap (λ (x : ℕ). x + count_row count (rest - 6) (r' ∷ rs)) e
        ∙ ap (λ (x : ℕ). how_many (is_number (r ∷ r' ∷ rs)) 0 6 + x) (h ∙ f) ∙ sym s
        ∙ ap (λ (x : ℕ). how_many (is_number (r ∷ r' ∷ rs)) 0 x) (sym z))
      where
        later : (k : ℕ) → cell (r ∷ r' ∷ rs) (6 + k) ≡ cell (r' ∷ rs) k
        later k = let y : 6 + k - 6 ≡ k = omega arith in
            cell-there r (r' ∷ rs) (6 + k) (omega arith) ∙ ap (cell (r' ∷ rs)) y

-- a line of DATA that is fine record by record has a number: its last record says so
row-has-number : (kept : Kept) (rest : ℕ) (before : List Record) (m : ℕ) (rs : List Record) → 1 ≤ rest
    → length rs ≡ records_for rest
    → RowFine (LineFine true kept) count rest before m rs → 1 ≤ m + count_row count rest rs
unfolding RowFine count_row
row-has-number kept rest before m [] p l h = absurd (omega arith)
row-has-number kept rest before m (r ∷ []) p l h = let k = h.0.some refl (omega arith) in omega arith
row-has-number kept rest before m (r ∷ r' ∷ rs) p l h =
    let k =
    row-has-number kept (rest - 6) (before ++ (r ∷ [])) (m + count rest r) (r' ∷ rs) (omega arith) (omega arith)
    h.1 in
    omega arith

values-row-fine : (d : Bool) (kept : Kept) (rest : ℕ) (before : List Record) (m : ℕ) (rs : List Record)
    → length rs ≡ records_for rest
    → ((c : ℕ) → c < length rs * 6 → c < rest → GoodValue d (cell rs c))
    → ((c : ℕ) → rest ≤ c → c < length rs * 6 → BlankValue (cell rs c))
    → (d ≡ true → 1 ≤ m + count_row count rest rs)
    → ((c : ℕ) → c < length rs * 6 → c < rest → FitsAt kept (length before * 6 + c) (cell rs c))
    → RowFine (LineFine d kept) count rest before m rs
unfolding RowFine count_row
values-row-fine d kept rest before m [] l u v s w = tt
values-row-fine d kept rest before m (r ∷ []) l u v s w = (
  record {
    cells = cells-here (GoodValue d) BlankValue rest r [] u v;
    some = λ q a. let k = s q in omega arith;
    flags = flags-here kept rest before r [] w;
  },
  tt,
)
values-row-fine d kept rest before m (r ∷ r' ∷ rs) l u v s w = (
  record {
    cells = cells-here (GoodValue d) BlankValue rest r (r' ∷ rs) u v;
    some = λ q a. absurd (omega arith);
    flags = flags-here kept rest before r (r' ∷ rs) w;
  },
  values-row-fine d kept (rest - 6) (before ++ (r ∷ [])) (m + count rest r) (r' ∷ rs) (omega arith)
      (used-there (GoodValue d) rest r (r' ∷ rs) u) (unused-there BlankValue rest r (r' ∷ rs) v)
      (λ q. let k = s q in omega arith) (flags-there kept rest before r (r' ∷ rs) w),
)

pub values-good : (d : Bool) (kept : Kept) (n last line : ℕ) (c : Context) (rs : List Record)
    → RowAt c d values n last line n → 1 ≤ n → c.track.table.blank ≡ true → Keeps c kept → length rs ≡ records_for n
    → Run NoEnd (role_for values d) c rs
    ↔ (Following (identification_in c) (c.track.subentry.records + 2) rs × GoodValues d n rs
    × (d ≡ true → 1 ≤ numbers_in_line n rs) × ((x : ℕ) → x < n → FitsAt kept x (cell rs x)))
values-good d kept n last line c rs a p b keeps l =
    let left = a.left in
    let columns = a.columns in
    let w = run-values d kept n last line n c (identification_in c) (c.track.subentry.records + 2) [] 0 rs a p refl
    refl (record { blank = b; place = omega arith; keeps = keeps }) l in
    let q = count-numbers n rs l in (
      λ run.
          let h = w.0 run in (
            h.1,
            record {
              records = l;
              used = λ x y.
                  fine-used (GoodValue d) BlankValue (LineFine d kept) count (λ rest before m r f. f.cells) n [] 0 rs
                  h.2 x (omega arith) y;
              unused = λ x y z.
                  fine-unused (GoodValue d) BlankValue (LineFine d kept) count (λ rest before m r f. f.cells) n [] 0 rs
                  h.2 x y z;
              no_end = h.0;
            },
            by_kind d h.2,
            λ x y.
                let z : 0 * 6 + x ≡ x = omega arith in
                rw z at
                (row-flags kept (LineFine d kept) count (λ rest before m r f. f.flags) n [] 0 rs h.2 x
                (omega arith) y),
          ),
      λ g.
          w.1 (
            g.1.no_end,
            g.0,
            values-row-fine d kept n [] 0 rs l (λ x y z. g.1.used x z) g.1.unused
                (λ e. let k = g.2 e in omega arith)
                (λ x y z. let w : 0 * 6 + x ≡ x = omega arith in rw w (g.3 x z)),
          ),
    )
  where
    by_kind : (d : Bool) → RowFine (LineFine d kept) count n [] 0 rs → d ≡ true → 1 ≤ numbers_in_line n rs
    by_kind true h e =
        let k = row-has-number kept n [] 0 rs p l h in
        let q = count-numbers n rs l in
        omega arith
    by_kind false h e = differ (sym e)
