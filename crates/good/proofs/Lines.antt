-- The lines of a table. Assumes nothing.
use Prim.Native.Nat.{ℕ, zero, suc, ◌+◌, ◌≤◌}
use mathlib.Core.Path.{◌≡◌, refl, sym, ◌∙◌, ap}
use mathlib.Core.Bool.{Bool, true, false}
use mathlib.Core.Logic.{◌↔◌}
use mathlib.Core.List.{List, [], ◌∷◌, ◌++◌, append_assoc}
use native.Mathlib.Omega.{arith}
use lib.ListN.{length, length-append}
use Rattle.laws.specs.Walk.{All}
use Rattle.paper_record.specs.Places.{records_for}
use Rattle.paper_rules.specs.State.{Context}
use Rattle.paper_entry.specs.Verdict.{is_done}
use Rattle.rules_plain.specs.Places.{concat}
use Rattle.good.specs.Parts.{Record}
use Rattle.good.specs.Marks.{Following}
use Rattle.good.specs.Tables.{GoodValues, numbers_in_line}
use Rattle.good.specs.Totals.{numbers_of_lines}
use Rattle.good.proofs.Steps.{Passes}
use Rattle.good.proofs.Runs.{Run, after_run}
use Rattle.good.proofs.Moves.{Moved, still, moved_on, recount}
use Rattle.good.proofs.Marks.{following-append, following-left, following-right, following-as}
use Rattle.good.proofs.Systems.{identification_in}
use Rattle.good.proofs.Rows.{Kind, values, role_for, lines_of as row_lines}
use Rattle.good.proofs.RowPlaces.{RowAt, NoEnd, InRow, pass-row, row-pass, row-left}
use Rattle.good.proofs.FlagsByColumn.{Kept, Keeps, LinesFit}
use Rattle.good.proofs.ValuesByColumn.{count-numbers, values-good}
use Rattle.good.proofs.Rowwise.{BehindRow, count_row}
use Rattle.good.proofs.Values.{count, behind-values}

pub in_row : (d : Bool) (k : Kind) (n last line : ℕ) (c : Context) → RowAt c d k n last line n → 1 ≤ n
    → InRow d k n last line c (records_for n)
in_row d k n last line c a p = by_number (records_for n) refl
  where
    by_number : (m : ℕ) → records_for n ≡ m → InRow d k n last line c m
    by_number zero e = absurd (omega arith)
    by_number (suc m) e = (n, a, p, e)

unfoldable pub after_lines : Bool → Context → List (List Record) → Context
after_lines d c [] = c
after_lines d c (row ∷ rows) = after_lines d (after_run (role_for values d) c row) rows

unfoldable pub LinesRun : Bool → ℕ → Context → List (List Record) → Type 0
LinesRun d n c [] = Unit
LinesRun d n c (row ∷ rows) =
    (length row ≡ records_for n) × Run NoEnd (role_for values d) c row
    × LinesRun d n (after_run (role_for values d) c row) rows

abbrev pub lines_of : Bool → ℕ → ℕ
lines_of false m = 0
lines_of true m = m

pub record BehindLines (c e : Context) (d : Bool) (n last line : ℕ) (rows : List (List Record)) : Type 0 where
  pub at : RowAt e d values n last (line + length rows) n
  pub blank : e.track.table.blank ≡ true
  pub moved : Moved c e (length (concat rows)) 0 (lines_of d (length rows)) (numbers_of_lines n rows)
  pub section : e.track.section ≡ c.track.section + length (concat rows)
  pub part : e.seen.table ≡ c.seen.table
  pub bib : e.seen.bib ≡ c.seen.bib
  pub common : e.seen.common ≡ c.seen.common

one_line : (d : Bool) (m : ℕ) → lines_of d 1 + lines_of d m ≡ lines_of d (suc m)
one_line false m = refl
one_line true m = omega arith

lines-one : (d : Bool) → row_lines values d true ≡ lines_of d 1
lines-one false = refl
lines-one true = refl

pub no_line : (d : Bool) → 0 ≡ lines_of d 0
no_line false = refl
no_line true = refl

pub behind-lines : (d : Bool) (n last line : ℕ) (c : Context) (rows : List (List Record))
    → RowAt c d values n last line n
    → 1 ≤ n → c.track.table.blank ≡ true → line + length rows ≤ last + 1 → LinesRun d n c rows
    → BehindLines c (after_lines d c rows) d n last line rows
unfolding after_lines LinesRun concat numbers_of_lines
behind-lines d n last line c [] a p b f run =
    record {
      at = let z : line ≡ line + 0 = omega arith in rw z at a;
      blank = b;
      section = omega arith;
      part = refl;
      bib = refl;
      common = refl;
      moved = recount 0 0 (lines_of d 0) 0 (still c) refl refl (no_line d) refl;
    }
behind-lines d n last line c (row ∷ rows) a p b f run =
    let w = behind-values d n last line n c row a p run.0 run.1 in
    let left = row-left d values n last line (omega arith) (records_for n) c row (in_row d values n last line c a p)
    run.0
    run.1 in
    let v = behind-lines d n last (line + 1) (after_run (role_for values d) c row) rows left p w.blank (omega arith)
    run.2 in
    let q = count-numbers n row run.0 in
    let o = one_line d (length rows) in
    let l1 = lines-one d in
    let z : line + 1 + length rows ≡ line + suc (length rows) = omega arith in
    let m = length-append row (concat rows) in
    record {
      at = rw z at v.at;
      blank = v.blank;
      moved = recount (length (row ++ concat rows)) 0 (lines_of d (suc (length rows)))
          (numbers_in_line n row + numbers_of_lines n rows)
          (moved_on w.moved v.moved) (sym m) refl (omega arith) (omega arith);
      section = let x = w.section in let y = v.section in omega arith;
      part = v.part ∙ w.part;
      bib = v.bib ∙ w.bib;
      common = v.common ∙ w.common;
    }

-- ---- from the walk to the lines

pub pass-lines : {X : Type 0} (d : Bool) (n last : ℕ) (m line : ℕ) (c : Context) (rs : List Record) (z : Context)
    → RowAt c d values n last line n → 1 ≤ n → c.track.table.blank ≡ true → line + m ≡ last + 1
    → is_done z.phase ≡ true → Passes c rs z
    → ((rows : List (List Record)) (ys : List Record) → rs ≡ concat rows ++ ys → length rows ≡ m → LinesRun d n c rows
    → Passes (after_lines d c rows) ys z → X) → X
unfolding after_lines LinesRun concat
pass-lines d n last zero line c rs z a p b f done q k = k [] rs refl refl tt q
pass-lines d n last (suc m) line c rs z a p b f done q k =
    pass-row d values n last line (omega arith) (records_for n) c rs z (in_row d values n last line c a p) done q
    (λ xs ys split l run left passes.
    let w = behind-values d n last line n c xs a p l run in
    pass-lines d n last m (line + 1) (after_run (role_for values d) c xs) ys z left p w.blank (omega arith) done passes
    (λ rows ts split' l' lines passes'.
    k (xs ∷ rows) ts
    (split ∙ ap (λ (x : List Record). xs ++ x) split' ∙ sym (append_assoc xs (concat rows) ts))
    (ap suc l') (l, run, lines) passes'))

-- ---- and back

pub lines-pass : (d : Bool) (n last line : ℕ) (c : Context) (rows : List (List Record)) (rest : List Record)
    (z : Context)
    → RowAt c d values n last line n → 1 ≤ n → c.track.table.blank ≡ true → line + length rows ≤ last + 1
    → LinesRun d n c rows → Passes (after_lines d c rows) rest z → Passes c (concat rows ++ rest) z
unfolding after_lines LinesRun concat
lines-pass d n last line c [] rest z a p b f run q = q
lines-pass d n last line c (row ∷ rows) rest z a p b f run q =
    let w = behind-values d n last line n c row a p run.0 run.1 in
    let left = row-left d values n last line (omega arith) (records_for n) c row (in_row d values n last line c a p)
    run.0
    run.1 in
    rw (append_assoc row (concat rows) rest)
    (row-pass d values n last line (omega arith) (records_for n) c row (concat rows ++ rest) z
    (in_row d values n last line c a p) run.0 run.1
    (lines-pass d n last (line + 1) (after_run (role_for values d) c row) rows rest z left p w.blank (omega arith)
    run.2 q))

-- ---- lines that are good

abbrev pub LinesGood : Bool → ℕ → List (List Record) → Type 0
LinesGood d n rows = All (GoodValues d n) rows × (d ≡ true → All (λ row. 1 ≤ numbers_in_line n row) rows)

keeps-behind : (d : Bool) (kept : Kept) (c e : Context) (rs : List Record) (m : ℕ) → BehindRow c e d values rs m
    → Keeps c kept → Keeps e kept
keeps-behind d kept c e rs m w k =
    record { bib = w.bib ∙ k.bib; bib001 = w.moved.bib001 ∙ k.bib001; table = w.part ∙ k.table }

pub lines-good : (d : Bool) (kept : Kept) (n last line : ℕ) (c : Context) (identification : List ℕ) (s : ℕ)
    (rows : List (List Record))
    → RowAt c d values n last line n → 1 ≤ n → c.track.table.blank ≡ true → Keeps c kept
    → line + length rows ≤ last + 1 → identification_in c ≡ identification → c.track.subentry.records + 2 ≡ s
    → LinesRun d n c rows ↔ (Following identification s (concat rows) × LinesGood d n rows × LinesFit kept n rows)
unfolding LinesRun concat Following
lines-good d kept n last line c identification s [] a p b k f i q = (λ r. (tt, (tt, λ e. tt), tt), λ r. tt)
lines-good d kept n last line c identification s (row ∷ rows) a p b k f i q =
    let c1 = after_run (role_for values d) c row in
    let rest : (l : length row ≡ records_for n) → Run NoEnd (role_for values d) c row
    → LinesRun d n c1 rows
    ↔ (Following identification (s + length row) (concat rows) × LinesGood d n rows × LinesFit kept n rows) = λ l run.
    let w = behind-values d n last line n c row a p l run in
    let left = row-left d values n last line (omega arith) (records_for n) c row
    (in_row d values n last line c a p) l run in
    let x = w.moved.records in
    lines-good d kept n last (line + 1) c1 identification (s + length row) rows left p w.blank
    (keeps-behind d kept c c1 row (count_row count n row) w k) (omega arith)
    (rw (w.moved.accession, w.moved.number) i) (omega arith) in (
      λ run.
          let g = (values-good d kept n last line c row a p b k run.0).0 run.1 in
          let h = (rest run.0 run.1).0 run.2 in (
            following-append identification s row (concat rows)
                (following-as (identification_in c) identification (c.track.subentry.records + 2) s row i q g.0)
                h.0,
            ((g.1, h.1.0), λ e. (g.2 e, h.1.1 e)),
            (g.3, h.2),
          ),
      λ g.
          let l = g.1.0.0.records in
          let run =
          (values-good d kept n last line c row a p b k l).1 (
            following-as identification (identification_in c) s (c.track.subentry.records + 2) row (sym i) (sym q)
                (following-left identification s row (concat rows) g.0),
            g.1.0.0,
            λ e. (g.1.1 e).0,
            g.2.0,
          ) in (
            l,
            run,
            (rest l run).1
                (following-right identification s row (concat rows) g.0, (g.1.0.1, λ e. (g.1.1 e).1), g.2.1),
          ),
    )
