use mathlib.Core.Path.{refl}
use Rattle.paper_questions.specs.Place.{unit_place}
use native.Mathlib.Omega.{arith}
use Rattle.questions_places.proofs.place.unit_place.Goals as goal

pub returns : goal.returns
unfolding unit_place
returns c =
    record {
      value = rw (← c.records_for-k.ensures) refl;
      field_bound = omega arith;
    }
