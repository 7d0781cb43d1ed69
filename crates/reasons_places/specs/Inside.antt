-- What the place of a heading is lent: between the code and the definitions, not read against the paper.
use Rattle.std.specs.Prelude.{Option, Some, ◌+◌, ◌-◌, ◌/◌, ◌≤◌, ◌≡◌}
use Rattle.paper_rules.specs.declared.types.HeadingPlace.{HeadingPlace}
use Rattle.paper_rules.specs.declared.types.Ranges.{Ranges}
use Rattle.paper_rules.specs.Limits.{MOST-RECORDS}
use Rattle.paper_reasons.specs.Reason.{heading_records}

-- a heading that is found stands on a record of an entry
pub record Inside (g : Ranges) (found : Option HeadingPlace) : Type 0 where
  pub place : (at : HeadingPlace) → found ≡ Some at
      → (1 ≤ at.column) × ((heading_records g at.section).from.0 + (at.column - 1) / 6 ≤ MOST-RECORDS)
