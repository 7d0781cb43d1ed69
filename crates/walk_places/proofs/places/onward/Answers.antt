use mathlib.Core.Path.{sym}
use native.Mathlib.Omega.{arith}
use Rattle.paper_walk.proofs.Standing.{standing}
use Rattle.paper_walk.proofs.Steps.{onward-right, onward-below}
use Rattle.walk_places.proofs.places.onward.Goals as goal

-- a walk that stands has 18 columns and 20,000 lines at the most
pub overflow_add-result : goal.overflow_add-result
overflow_add-result c =
    let d = c in
    let t = standing d.args.walk d.requires in
    record { fits = omega (arith, t.fits.columns, t.place.column_to) }

pub returns-then-column-columns : goal.returns-then-column-columns
returns-then-column-columns c =
    let w = c.args.walk in
    sym (onward-right w w.line w.column c.if-column-columns.true)

pub overflow_add-below : goal.overflow_add-below
overflow_add-below c =
    let d = c in
    let t = standing d.args.walk d.requires in
    record { fits = omega (arith, t.fits.lines, t.place.line_to) }

pub returns : goal.returns
returns c =
    let w = c.args.walk in
    sym (onward-below w w.line w.column c.if-column-columns.false)
