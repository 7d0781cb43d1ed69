-- What a later rule may look back at, by the numbers of its records: what the code keeps.
use Rattle.std.specs.Prelude.{ℕ, ◌+◌, cond, List, [], eqb, get_or}
use Rattle.paper_record.specs.Identifier.{ENDCOMMON}
use Rattle.paper_record.specs.declared.types.Index.{Index}
use Rattle.paper_rules.specs.declared.types.Track.{Track}
use Rattle.paper_rules.specs.declared.types.Range.{Range}
use Rattle.paper_rules.specs.declared.types.Ranges.{Ranges}
use Rattle.paper_rules.specs.Roles.{opens_subentry}
use Rattle.paper_entry.specs.declared.types.Change.{Change}
use Rattle.paper_entry.specs.declared.types.Change.TheVariants.{Kept, Emptied, Begun, Joined}
use Rattle.paper_entry.specs.Parts.{bib_change, under_change, table_change, ends001}

-- the index behind i
abbrev pub next_index : Index → Index
next_index i = record { 0 = i.0 + 1 }

-- no record yet, the next one may join
abbrev pub none_from : Index → Range
none_from n = record { from = n; past = n }

-- the records of a part, after the record with the index i
unfoldable pub range_after : Change → Range → Index → Range
range_after Kept g i = g
range_after Emptied g i = none_from (next_index i)
range_after Begun g i = record { from = i; past = next_index i }
range_after Joined g i = record { from = g.from; past = next_index i }

-- this subentry's COMMON is the table that ENDCOMMON ends
unfoldable pub common_after : Ranges → ℕ → Index → Range
common_after g role i =
    cond (opens_subentry role) (range_after Emptied g.common i) (cond (eqb role ENDCOMMON) g.table g.common)

unfoldable pub ranges_after : Ranges → Track → ℕ → List (List ℕ) → Ranges
ranges_after g t role fs =
    record {
      bib = range_after (bib_change role) g.bib t.records;
      under = range_after (under_change role (get_or fs 0 [])) g.under t.records;
      bib001 = cond (ends001 t role) g.bib g.bib001;
      common001 = cond (ends001 t role) g.common g.common001;
      common = common_after g role t.records;
      table = range_after (table_change role) g.table t.records;
    }
