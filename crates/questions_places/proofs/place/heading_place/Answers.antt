use Rattle.paper_questions.specs.Place.{heading_place}
use mathlib.Core.Path.{refl}
use native.Mathlib.Omega.{arith}
use Rattle.questions_places.proofs.place.heading_place.Goals as goal

pub returns : goal.returns
unfolding heading_place
returns c =
    record {
      value = refl;
      field_bound = omega arith;
    }
