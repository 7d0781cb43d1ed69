-- What the functions of the facts are lent: between the code and the definitions, not read against the paper.
use Rattle.std.specs.Prelude.{ℕ, ◌*◌, ◌≤◌, List, length}
use Rattle.paper_rules.specs.declared.types.Ranges.{Ranges}
use Rattle.paper_rules.specs.Limits.{MOST-RECORDS}
use Rattle.paper_rules.specs.Parts.{Lent}

-- the heading records that are looked at lie among the bytes before the record in hand
pub record Lying (g : Ranges) (before : List ℕ) : Type 0 where
  pub common001 : Lent before g.common001
  pub common : Lent before g.common
  pub table : Lent before g.table
  pub few : length before ≤ MOST-RECORDS * 81
