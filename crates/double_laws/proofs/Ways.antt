-- A double is the same by an index and by a walk.
-- Assumes nothing.
use mathlib.Core.Path.{◌≡◌, sym, ap, ◌∙◌}
use Rattle.paper_number.specs.declared.types.FieldRead.{FieldRead}
use Rattle.index_answers.proofs.Same.{same-value}
use Rattle.paper_walk.specs.Walk.{at_place}
use Rattle.paper_walk.specs.Claims.{value_there}
use Rattle.paper_walk.proofs.Steps.{same_place}
use Rattle.paper_walk.proofs.Started.{walk-places}
use Rattle.walk_laws.proofs.Walked.{walk-gives, walk-once}
use Rattle.paper_double.specs.Double.{doubled}
use Rattle.paper_double_asking.specs.Ask.{as_double, double_asked, double_by_index}
use Rattle.double_laws.specs.Ways.{SameDouble, WalkDoubles}

pub same-double : SameDouble
unfolding double_by_index double_asked
same-double s accepted n section line column = ap as_double (same-value s accepted n section line column)

pub walk-doubles : WalkDoubles
unfolding double_asked
walk-doubles s n section e i line column field g =
    let (t, p) = walk-once s n section e i line column field g in
    let v = value_there s n section line column in
    let h : at_place line column v ≡ at_place line column field = sym (rw (← t) at (walk-gives s n section e line column p)) ∙ g in
    let same : field ≡ v = sym (same_place line line column column v field h).1.1 in
    record {
      answered = (walk-places s n section e line column).1 p;
      value = ap (λ (f : FieldRead). doubled f.reading) same;
      counted = ap (λ (f : FieldRead). f.digits) same;
    }
