-- Demand 3 of the mission, whole, sentence by sentence. Each statement has its place below: what is inside the shape in
-- `inside` (specs/Inside, Asked), the copy in `copy` (specs/Demand) and here (specs/Fields), which fields are number
-- fields here (specs/Flags), the questions asked of both here (specs/Same). `judge_of`, `value_asked`, `heading_asked`,
-- `unit_asked`, `passage_asked`, `copied` and `stored_copy` are what the calls promise to answer and to store.
use Rattle.inside.specs.Inside.{ValueAnswered, HeadingAnswered, UnitAnswered, PassageAnswered, OnePassage, BegunInside}
use Rattle.inside.specs.Asked.{ValueInside, HeadingInside, UnitInside, PassageInside}
use Rattle.paper_copy.specs.Demand.{CopyMade, CopyPart, CopyAccepted, CopyAgain, OneCopy}
use Rattle.demand3.specs.Fields.{CopyCanonical, CopyBlank}
use Rattle.demand3.specs.Same.{SameValues, CountLeftOut, SameHeadings, SameUnits, SamePassages}

pub record Demand3 : Type 0 where
  -- "For an accepted entry, every question inside its own shape is answered."
  pub values : ValueAnswered
  pub headings : HeadingAnswered
  pub units : UnitAnswered
  pub passages : PassageAnswered
  -- and no other is
  pub values_only : ValueInside
  pub headings_only : HeadingInside
  pub units_only : UnitInside
  pub passages_only : PassageInside
  -- a keyword and a pointer have one passage, and no passage is left out
  pub one_passage : OnePassage
  pub each_passage : BegunInside
  -- "Its canonical copy, made in a buffer long enough,": each number is replaced by its canonical field, every other
  -- byte is kept
  pub made : CopyMade
  pub canonical : CopyCanonical
  pub blank : CopyBlank
  pub other_bytes : CopyPart
  -- "is accepted,"
  pub accepted : CopyAccepted
  -- "answers every such question with the same values and words at the same places,"
  pub same_values : SameValues
  -- the count of digits is left out, as document 02 says (M-104)
  pub count_left_out : CountLeftOut
  pub same_headings : SameHeadings
  pub same_units : SameUnits
  pub same_passages : SamePassages
  -- "and is its own copy."
  pub again : CopyAgain
  -- "Two accepted entries have the same copy exactly when they have the same number fields, equal bytes outside them,
  -- blanks in the same ones, and equal decimals in the rest."
  pub one_copy : OneCopy
