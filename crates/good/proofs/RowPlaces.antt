-- Where a row of a table stands: which records are due in it and behind it, as the judge goes over them.
-- Assumes nothing; what the rules of a kind of row have to satisfy stands in the section's parameters.
use Prim.Native.Nat.{ℕ, zero, suc, ◌+◌, ◌-◌, ◌<◌, ◌≤◌}
use mathlib.Core.Path.{◌≡◌, refl, ◌∙◌, ap}
use mathlib.Core.Bool.{Bool, true, false, cond}
use mathlib.Core.List.{List, ◌++◌}
use native.Mathlib.Omega.{arith}
use lib.Dec.{eqb}
use lib.ListN.{length}
use borrow.Author.Tests.{le-leb, lt-leb, le-ltb, lt-ltb}
use Rattle.paper_record.specs.Places.{records_for}
use Rattle.paper_record.specs.Identifier.{is_end}
use Rattle.paper_record.specs.declared.types.LineNo.{LineNo}
use Rattle.paper_rules.specs.declared.types.Phase.TheVariants.{InCommon, InData}
use Rattle.paper_rules.specs.declared.types.Table.{Table}
use Rattle.paper_rules.specs.State.{Context}
use Rattle.paper_rules.specs.Roles.{NOT-DUE}
use Rattle.paper_rules.specs.Role.{only, role_in, table_role}
use Rattle.paper_entry.specs.Judging.{role_of}
use Rattle.paper_entry.specs.Verdict.{is_done}
use Rattle.good.specs.Parts.{Record}
use Rattle.good.specs.Marks.{name_of}
use Rattle.good.proofs.Steps.{Takes, next, Passes}
use Rattle.good.proofs.Runs.{role-at, Run, after_run, pass-run, run-pass, run-left}
use Rattle.good.proofs.Rows.{Kind, row_no, role_for, end_for, phase_for, next_kind, line_after, last_of, row_step}
use Rattle.good.proofs.Rows.{headings, units, values}

-- ---- where a row stands

-- in a table of n columns whose last line is `last`: a row of this kind, with so many columns left
pub record RowAt (c : Context) (d : Bool) (k : Kind) (n last line rest : ℕ) : Type 0 where
  pub phase : c.phase ≡ phase_for d
  pub columns : c.track.table.columns ≡ n
  pub last_line : c.track.table.last.0 ≡ last
  pub row : c.track.table.row ≡ row_no k
  pub line-now : c.track.table.line.0 ≡ line
  pub left : c.track.table.rest ≡ rest

row-role : (c : Context) (d : Bool) (k : Kind) (n last line rest : ℕ) (r : Record) → RowAt c d k n last line rest
    → line ≤ last → role_of c r ≡ cond (is_end (name_of r)) NOT-DUE (role_for k d)
unfolding role_in table_role
row-role c false headings n last line rest r a l =
    let x = a.last_line in let y = a.line-now in
    role-at c InCommon r a.phase ∙ rw (
      le-ltb c.track.table.last.0 c.track.table.line.0
          (omega arith),
      a.row,
    )
row-role c false units n last line rest r a l =
    let x = a.last_line in let y = a.line-now in
    role-at c InCommon r a.phase ∙ rw (
      le-ltb c.track.table.last.0 c.track.table.line.0
          (omega arith),
      a.row,
    )
row-role c false values n last line rest r a l =
    let x = a.last_line in let y = a.line-now in
    role-at c InCommon r a.phase ∙ rw (
      le-ltb c.track.table.last.0 c.track.table.line.0
          (omega arith),
      a.row,
    )
row-role c true headings n last line rest r a l =
    let x = a.last_line in let y = a.line-now in
    role-at c InData r a.phase ∙ rw (
      le-ltb c.track.table.last.0 c.track.table.line.0
          (omega arith),
      a.row,
    )
row-role c true units n last line rest r a l =
    let x = a.last_line in let y = a.line-now in
    role-at c InData r a.phase ∙ rw (
      le-ltb c.track.table.last.0 c.track.table.line.0
          (omega arith),
      a.row,
    )
row-role c true values n last line rest r a l =
    let x = a.last_line in let y = a.line-now in
    role-at c InData r a.phase ∙ rw (
      le-ltb c.track.table.last.0 c.track.table.line.0
          (omega arith),
      a.row,
    )

pub table-end-role : (c : Context) (d : Bool) (k : Kind) (n last line rest : ℕ) (r : Record)
    → RowAt c d k n last line rest → last < line → role_of c r ≡ only (end_for d) (name_of r)
unfolding role_in table_role
table-end-role c false k n last line rest r a l =
    let x = a.last_line in let y = a.line-now in
    role-at c InCommon r a.phase ∙ rw (lt-ltb c.track.table.last.0 c.track.table.line.0 (omega arith))
table-end-role c true k n last line rest r a l =
    let x = a.last_line in let y = a.line-now in
    role-at c InData r a.phase ∙ rw (lt-ltb c.track.table.last.0 c.track.table.line.0 (omega arith))

-- a system identifier beginning with END is not due inside a table
abbrev pub NoEnd : Record → Type 0
NoEnd r = is_end (name_of r) ≡ false

abbrev pub line_next : Kind → ℕ → ℕ
line_next headings l = l
line_next units l = l
line_next values l = l + 1

-- how many records of the row are due; behind it, the next row
abbrev pub InRow : Bool → Kind → ℕ → ℕ → ℕ → Context → ℕ → Type 0
InRow d k n last line c zero = RowAt c d (next_kind k) n last (line_next k line) n
InRow d k n last line c (suc m) = (rest : ℕ) × RowAt c d k n last line rest × (1 ≤ rest) × (records_for rest ≡ suc m)

line_same : (k : Kind) (l : LineNo) → (line_after k l).0 ≡ line_next k l.0
line_same headings l = refl
line_same units l = refl
line_same values l = refl

pub row_next : (d : Bool) (k : Kind) (n last line rest : ℕ) (c : Context) (r : Record) → RowAt c d k n last line rest
    → rest ≤ 6 → RowAt (next c (role_for k d) r) d (next_kind k) n last (line_next k line) n
row_next d k n last line rest c r a l =
    let s = row_step k d c r in
    let b : last_of c ≡ true = rw a.left (le-leb rest 6 l) in
    let t = rw b at s.table in
    record {
      phase = s.phase;
      columns = ap (λ (x : Table). x.columns) t ∙ a.columns;
      last_line = ap (λ (x : Table). x.last.0) t ∙ a.last_line;
      row = ap (λ (x : Table). x.row) t;
      line-now = ap (λ (x : Table). x.line.0) t ∙ line_same k c.track.table.line ∙ ap (line_next k) a.line-now;
      left = ap (λ (x : Table). x.rest) t ∙ a.columns;
    }

pub row_same : (d : Bool) (k : Kind) (n last line rest : ℕ) (c : Context) (r : Record) → RowAt c d k n last line rest
    → 6 < rest → RowAt (next c (role_for k d) r) d k n last line (rest - 6)
row_same d k n last line rest c r a l =
    let s = row_step k d c r in
    let b : last_of c ≡ false = rw a.left (lt-leb rest 6 l) in
    let t = rw b at s.table in
    record {
      phase = s.phase;
      columns = ap (λ (x : Table). x.columns) t ∙ a.columns;
      last_line = ap (λ (x : Table). x.last.0) t ∙ a.last_line;
      row = ap (λ (x : Table). x.row) t;
      line-now = ap (λ (x : Table). x.line.0) t ∙ a.line-now;
      left = ap (λ (x : Table). x.rest) t ∙ ap (λ (x : ℕ). x - 6) a.left;
    }

pub phase-open : (d : Bool) → is_done (phase_for d) ≡ false
phase-open false = refl
phase-open true = refl

module _ (d : Bool) (k : Kind) (n last line : ℕ) (few : line ≤ last) where
  row_open : (c : Context) (m : ℕ) → InRow d k n last line c (suc m) → is_done c.phase ≡ false
  row_open c m l = ap is_done l.1.phase ∙ phase-open d

  row_told : (c : Context) (m : ℕ) (r : Record) → InRow d k n last line c (suc m) → eqb (role_of c r) NOT-DUE ≡ false
      → NoEnd r
  row_told c m r l e = by-test (is_end (name_of r)) (rw (row-role c d k n last line l.0 r l.1 few) at e)
    where
      by-test : (b : Bool) → eqb (cond b NOT-DUE (role_for k d)) NOT-DUE ≡ false → b ≡ false
      by-test true h = h
      by-test false h = refl

  row_is : (c : Context) (m : ℕ) (r : Record) → InRow d k n last line c (suc m) → NoEnd r → role_of c r ≡ role_for k d
  row_is c m r l e = row-role c d k n last line l.0 r l.1 few ∙ rw e

  row-moves : (c : Context) (m : ℕ) (r : Record) → InRow d k n last line c (suc m) → Takes c (role_for k d) r
      → InRow d k n last line (next c (role_for k d) r) m
  row-moves c zero r l t =
      let h = l.3 in
      row_next d k n last line l.0 c r l.1 (omega arith)
  row-moves c (suc m) r l t =
      let h = l.3 in
      (l.0 - 6, row_same d k n last line l.0 c r l.1 (omega arith), omega arith, omega arith)

  pub pass-row : {X : Type 0} (m : ℕ) (c : Context) (rs : List Record) (z : Context) → InRow d k n last line c m
      → is_done z.phase ≡ true → Passes c rs z
      → ((xs ys : List Record) → rs ≡ xs ++ ys → length xs ≡ m → Run NoEnd (role_for k d) c xs
      → InRow d k n last line (after_run (role_for k d) c xs) 0
      → Passes (after_run (role_for k d) c xs) ys z → X) → X
  pass-row = pass-run NoEnd (role_for k d) (InRow d k n last line) row_open row_told row_is row-moves

  pub row-pass : (m : ℕ) (c : Context) (xs ys : List Record) (z : Context) → InRow d k n last line c m → length xs ≡ m
      → Run NoEnd (role_for k d) c xs → Passes (after_run (role_for k d) c xs) ys z → Passes c (xs ++ ys) z
  row-pass = run-pass NoEnd (role_for k d) (InRow d k n last line) row_open row_told row_is row-moves

  pub row-left : (m : ℕ) (c : Context) (xs : List Record) → InRow d k n last line c m → length xs ≡ m
      → Run NoEnd (role_for k d) c xs → InRow d k n last line (after_run (role_for k d) c xs) 0
  row-left = run-left NoEnd (role_for k d) (InRow d k n last line) row_open row_told row_is row-moves
