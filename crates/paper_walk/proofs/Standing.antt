-- A walk that stands has a table no larger than one can be, and its place is in it; and such a walk stands.
-- Assumes nothing.
use Prim.Native.Nat.{ℕ, ◌+◌, ◌≤◌}
use mathlib.Core.Path.{◌≡◌, refl}
use mathlib.Core.Bool.{Bool, true, false}
use native.Mathlib.Omega.{arith}
use lib.Dec.{leb}
use borrow.Author.Tests.{leb-true, le-leb}
use Rattle.laws.proofs.Booleans.{and_left, and_right}
use Rattle.paper_record.specs.Text.{within}
use Rattle.paper_record.specs.declared.types.LineNo.{LineNo}
use Rattle.paper_record.proofs.Within.{within-bounds}
use Rattle.paper_rules.specs.Limits.{MOST-RECORDS, MOST-COLUMNS, MOST-LINES}
use Rattle.paper_entry.specs.declared.types.Answer.{Answer}
use Rattle.paper_walk.specs.declared.types.Walk.{Walk}
use Rattle.paper_walk.specs.Walk.{line_no, done_walk, stands, placed_at}
use Rattle.paper_walk.specs.Claims.{PlaceIn, Fits, Standing}

pub standing : (w : Walk) → stands w ≡ true → Standing w
unfolding stands
standing w e =
    let r1 = and_right (leb w.section.0 MOST-RECORDS) _ e in
    let r2 = and_right (leb w.columns MOST-COLUMNS) _ r1 in
    let r3 = and_right (leb w.lines MOST-LINES) _ r2 in
    let (a, b) = within-bounds 1 w.lines w.line.0 (and_left (within 1 w.lines w.line.0) _ r3) in
    let (c, d) = within-bounds 1 w.columns w.column (and_right (within 1 w.lines w.line.0) _ r3) in
    record {
      fits = record {
        section = leb-true w.section.0 MOST-RECORDS (and_left (leb w.section.0 MOST-RECORDS) _ e);
        columns = leb-true w.columns MOST-COLUMNS (and_left (leb w.columns MOST-COLUMNS) _ r1);
        lines = leb-true w.lines MOST-LINES (and_left (leb w.lines MOST-LINES) _ r2);
      };
      place = record { line_from = a; line_to = b; column_from = c; column_to = d };
    }

module _ (w : Walk) (fits : Fits w) where
  pub stands_at : (line : LineNo) (column : ℕ) → PlaceIn w line column → stands (placed_at w line column) ≡ true
  unfolding stands
  stands_at line column p =
      rw (
        le-leb w.section.0 MOST-RECORDS fits.section,
        le-leb w.columns MOST-COLUMNS fits.columns,
        le-leb w.lines MOST-LINES fits.lines,
        le-leb 1 line.0 p.line_from,
        le-leb line.0 w.lines p.line_to,
        le-leb 1 column p.column_from,
        le-leb column w.columns p.column_to,
      ) refl

-- behind its last line a walk does not stand
pub stands-below : (w : Walk) → stands (placed_at w (line_no (w.lines + 1)) 1) ≡ false
stands-below w = by-test (stands (placed_at w (line_no (w.lines + 1)) 1)) refl
  where
    by-test : (t : Bool) → stands (placed_at w (line_no (w.lines + 1)) 1) ≡ t → t ≡ false
    by-test true e =
        let h : w.lines + 1 ≤ w.lines = (standing (placed_at w (line_no (w.lines + 1)) 1) e).place.line_to in
        absurd (omega arith)
    by-test false e = refl

-- "a walker so refused is done at once"
pub done-stands : (a : Answer) → stands (done_walk a) ≡ false
unfolding stands
done-stands a = refl
