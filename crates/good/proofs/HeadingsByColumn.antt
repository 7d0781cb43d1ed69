-- A row of headings, column by column: the judge goes over its records exactly when each heading is a good one, fits
-- behind the earlier ones, and names a pointer that occurs. Assumes nothing.
use Prim.Native.Nat.{ℕ, ◌+◌, ◌-◌, ◌*◌, ◌<◌, ◌≤◌}
use mathlib.Core.Path.{◌≡◌, refl, sym, ◌∙◌, ap}
use mathlib.Core.Bool.{Bool, true}
use mathlib.Core.Logic.{◌↔◌}
use mathlib.Core.List.{List, [], ◌∷◌, ◌++◌, append_assoc}
use native.Mathlib.Omega.{arith}
use lib.ListN.{length, length-append}
use Rattle.laws.proofs.Search.{either}
use Rattle.paper_record.specs.Places.{records_for}
use Rattle.paper_rules.specs.State.{Context}
use Rattle.rules_plain.specs.Places.{cell}
use Rattle.rules_plain.proofs.Rows.{cell-here, cell-there}
use Rattle.good.specs.Parts.{Record}
use Rattle.good.specs.Marks.{Following}
use Rattle.good.specs.Tables.{Heading, BlankCell, GoodHeadings}
use Rattle.good.proofs.Pointers.{FoundIn}
use Rattle.good.proofs.Runs.{Run}
use Rattle.good.proofs.Systems.{identification_in}
use Rattle.good.proofs.RowPlaces.{RowAt, NoEnd}
use Rattle.good.proofs.Rows.{headings, role_for}
use Rattle.good.proofs.Rowwise.{RowFine}
use Rattle.good.proofs.Cells.{fine-used, fine-unused, cells-here, used-there}
use Rattle.good.proofs.Cells.{unused-there}
use Rattle.good.proofs.Units.{no_count}
use Rattle.good.proofs.Earlier.{Fits, fits-same, cell-left}
use Rattle.good.proofs.Headings.{HeadingsKnown, RowOf, run-headings}

-- ---- a column of the row, and a field of its record

-- The columns of a row lie in its records, six to a record. The judge says of a field that it fits behind the records
-- before and the fields to its left; the definition says of a column that it fits behind all columns to its left. Both
-- are one statement on the cells of `before ++ rs`: a field of the first record is looked at with no record behind it
-- (`fits-here`, `here-fits`), and a column of the records behind has the first record as one more of those before it
-- (`fits-there`, `there-fits`).

module _ (d : Bool) (first common before : List Record) (r : Record) (rs : List Record) (c : ℕ) where
  grouped : (before ++ (r ∷ [])) ++ rs ≡ before ++ (r ∷ rs)
  grouped = append_assoc before (r ∷ []) rs

  first-cells : c < 6 → (x : ℕ) → x ≤ length before * 6 + c
      → cell (before ++ (r ∷ rs)) x ≡ cell (before ++ (r ∷ [])) x
  first-cells l x m =
      ap (λ (w : List Record). cell w x) (sym grouped)
      ∙ cell-left (before ++ (r ∷ [])) rs x (rw length-append (omega arith))

  fits-here : c < 6 → Fits d first common (before ++ (r ∷ [])) (length before * 6 + c)
      → Fits d first common (before ++ (r ∷ rs)) (length before * 6 + c)
  fits-here l =
      fits-same d first common (before ++ (r ∷ [])) (before ++ (r ∷ rs)) (length before * 6 + c)
      (λ x m. sym (first-cells l x m))

  here-fits : c < 6 → Fits d first common (before ++ (r ∷ rs)) (length before * 6 + c)
      → Fits d first common (before ++ (r ∷ [])) (length before * 6 + c)
  here-fits l =
      fits-same d first common (before ++ (r ∷ rs)) (before ++ (r ∷ [])) (length before * 6 + c) (first-cells l)

  there-place : 6 ≤ c → length (before ++ (r ∷ [])) * 6 + (c - 6) ≡ length before * 6 + c
  there-place l = let n = length-append before (r ∷ []) in omega arith

  fits-there : 6 ≤ c
      → Fits d first common ((before ++ (r ∷ [])) ++ rs) (length (before ++ (r ∷ [])) * 6 + (c - 6))
      → Fits d first common (before ++ (r ∷ rs)) (length before * 6 + c)
  fits-there l f = rw (grouped, there-place l) at f

  there-fits : 6 ≤ c → Fits d first common (before ++ (r ∷ rs)) (length before * 6 + c)
      → Fits d first common ((before ++ (r ∷ [])) ++ rs) (length (before ++ (r ∷ [])) * 6 + (c - 6))
  there-fits l f = rw (grouped, there-place l) f

module _ (d : Bool) (first common : List Record) (pointers : List ℕ) where
  row-headings-fit : (rest : ℕ) (before : List Record) (m : ℕ) (rs : List Record)
      → RowFine (RowOf d first common pointers) no_count rest before m rs
      → (c : ℕ) → c < length rs * 6 → c < rest → Fits d first common (before ++ rs) (length before * 6 + c)
  unfolding RowFine
  row-headings-fit rest before m [] h c l u = absurd (omega arith)
  row-headings-fit rest before m (r ∷ rs) h c l u =
      either c 6
      (λ a. fits-here d first common before r rs c a (h.0.fit c a u))
      (λ a. fits-there d first common before r rs c a
      (row-headings-fit (rest - 6) (before ++ (r ∷ [])) (m + 0) rs h.1 (c - 6) (omega arith) (omega arith)))

  row-pointers-occur : (rest : ℕ) (before : List Record) (m : ℕ) (rs : List Record)
      → RowFine (RowOf d first common pointers) no_count rest before m rs → d ≡ true
      → (c : ℕ) → c < length rs * 6 → c < rest → FoundIn pointers (cell rs c)
  unfolding RowFine
  row-pointers-occur rest before m [] h t c l u = absurd (omega arith)
  row-pointers-occur rest before m (r ∷ rs) h t c l u =
      either c 6
      (λ a. rw (cell-here r rs c a) (h.0.found t c a u))
      (λ a. rw (cell-there r rs c a)
      (row-pointers-occur (rest - 6) (before ++ (r ∷ [])) (m + 0) rs h.1 t (c - 6) (omega arith) (omega arith)))

  headings-row-fine : (rest : ℕ) (before : List Record) (m : ℕ) (rs : List Record)
      → ((c : ℕ) → c < length rs * 6 → c < rest → Heading (cell rs c))
      → ((c : ℕ) → rest ≤ c → c < length rs * 6 → BlankCell (cell rs c))
      → ((c : ℕ) → c < length rs * 6 → c < rest → Fits d first common (before ++ rs) (length before * 6 + c))
      → (d ≡ true → (c : ℕ) → c < length rs * 6 → c < rest → FoundIn pointers (cell rs c))
      → RowFine (RowOf d first common pointers) no_count rest before m rs
  unfolding RowFine
  headings-row-fine rest before m [] u v w o = tt
  headings-row-fine rest before m (r ∷ rs) u v w o = (
    record {
      cells = cells-here Heading BlankCell rest r rs u v;
      fit = λ j l a. here-fits d first common before r rs j l (w j (omega arith) a);
      found = λ t j l a. rw (cell-here r rs j l) at (o t j (omega arith) a);
    },
    headings-row-fine (rest - 6) (before ++ (r ∷ [])) (m + 0) rs (used-there Heading rest r rs u)
        (unused-there BlankCell rest r rs v)
        (λ c l a.
        let z : c + 6 - 6 ≡ c = omega arith in
        rw z at (there-fits d first common before r rs (c + 6) (omega arith) (w (c + 6) (omega arith) (omega arith))))
        (λ t. used-there (FoundIn pointers) rest r rs (o t)),
  )

  pub headings-good : (n last line : ℕ) (c : Context) (rs : List Record) → RowAt c d headings n last line n → 1 ≤ n
      → HeadingsKnown first common pointers c [] → length rs ≡ records_for n
      → Run NoEnd (role_for headings d) c rs
      ↔ (Following (identification_in c) (c.track.subentry.records + 2) rs × GoodHeadings n rs
      × ((x : ℕ) → x < n → Fits d first common rs x) × (d ≡ true → (x : ℕ) → x < n → FoundIn pointers (cell rs x)))
  headings-good n last line c rs a p k l =
      let w =
      run-headings d first common pointers n last line n c (identification_in c)
      (c.track.subentry.records + 2) [] 0 rs a p
      refl refl k l in (
        λ run.
            let h = w.0 run in (
              h.1,
              record {
                records = l;
                used = λ x y.
                    fine-used Heading BlankCell (RowOf d first common pointers) no_count
                    (λ rest before m r f. f.cells) n [] 0 rs h.2
                    x (omega arith) y;
                unused = λ x y z.
                    fine-unused Heading BlankCell (RowOf d first common pointers) no_count
                    (λ rest before m r f. f.cells) n [] 0 rs
                    h.2 x y z;
                no_end = h.0;
              },
              λ x y.
                  let z : 0 * 6 + x ≡ x = omega arith in
                  rw z at (row-headings-fit n [] 0 rs h.2 x (omega arith) y),
              λ t x y. row-pointers-occur n [] 0 rs h.2 t x (omega arith) y,
            ),
        λ g.
            w.1 (
              g.1.no_end,
              g.0,
              headings-row-fine n [] 0 rs (λ x y z. g.1.used x z) g.1.unused
                  (λ x y z. let w : 0 * 6 + x ≡ x = omega arith in rw w (g.2 x z))
                  (λ t x y z. g.3 t x z),
            ),
      )
