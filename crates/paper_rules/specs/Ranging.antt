-- What the code keeps in place of the parts that a rule may look back at, ranges of record numbers, and what holds of
-- them and of the track between two records. It stands between the code's numbers and the context of `State`, and is
-- not read against the paper.
use Rattle.std.specs.Prelude.{◌≡◌, List, ℕ, ◌*◌, ◌-◌, ◌≤◌, length}
use Rattle.paper_rules.specs.declared.types.Track.{Track}
use Rattle.paper_rules.specs.declared.types.Range.{Range}
use Rattle.paper_rules.specs.declared.types.Ranges.{Ranges}
use Rattle.paper_rules.specs.Limits.{MOST-RECORDS}
use Rattle.paper_rules.specs.State.{Seen}
use Rattle.paper_rules.specs.Parts.{bytes_of}

abbrev pub seen_of : List ℕ → Ranges → Seen
seen_of before g =
    record {
      bib = bytes_of before g.bib;
      under = bytes_of before g.under;
      bib001 = bytes_of before g.bib001;
      common001 = bytes_of before g.common001;
      common = bytes_of before g.common;
      table = bytes_of before g.table;
    }

-- a range of records among the first n
pub record Placed (g : Range) (n : ℕ) : Type 0 where
  pub ordered : g.from.0 ≤ g.past.0
  pub below : g.past.0 ≤ n

pub record AllPlaced (g : Ranges) (n : ℕ) : Type 0 where
  pub bib : Placed g.bib n
  pub under : Placed g.under n
  pub bib001 : Placed g.bib001 n
  pub common001 : Placed g.common001 n
  pub common : Placed g.common n
  pub table : Placed g.table n

-- ---- between two records

-- what was counted is no more than the records allow
pub record Bounded (t : Track) : Type 0 where
  pub records : t.records.0 ≤ MOST-RECORDS
  pub subentries : t.totals.subentries ≤ t.records.0
  pub keywords : t.totals.keywords ≤ t.records.0
  pub lines : t.totals.lines ≤ t.records.0
  pub numbers : t.totals.numbers ≤ t.records.0 * 6
  pub subentry : t.subentry.records ≤ t.records.0
  pub section : t.section ≤ t.records.0
  pub met : t.bib.met ≤ t.records.0
  pub line : t.table.line.0 ≤ t.records.0

-- a track and ranges before a record: `before` is all that stands before it
pub record Stands (t : Track) (g : Ranges) (before : List ℕ) : Type 0 where
  pub bounded : Bounded t
  pub long : length before ≡ t.records.0 * 81
  pub placed : AllPlaced g t.records.0
