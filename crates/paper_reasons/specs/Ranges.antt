-- The records that a rule may look back at, before the record with the index i: by their numbers, since a reason names a record.
use Rattle.std.specs.Prelude.{ℕ, zero, suc, List}
use Rattle.laws.specs.Blocks.{block_at}
use Rattle.paper_record.specs.Fields.{fields_of}
use Rattle.paper_rules.specs.declared.types.Range.{Range}
use Rattle.paper_rules.specs.declared.types.Ranges.{Ranges}
use Rattle.paper_entry.specs.Contexts.{context_at, role_at}
use Rattle.paper_entry.specs.Ranging.{ranges_after}

abbrev pub no_records : Range
no_records = record { from = record { 0 = 0 }; past = record { 0 = 0 } }

abbrev pub start_ranges : Ranges
start_ranges =
    record {
      bib = no_records;
      under = no_records;
      bib001 = no_records;
      common001 = no_records;
      common = no_records;
      table = no_records;
    }

unfoldable pub ranges_at : List ℕ → ℕ → Ranges
ranges_at s zero = start_ranges
ranges_at s (suc i) = ranges_after (ranges_at s i) (context_at s i).track (role_at s i) (fields_of (block_at 81 s i))
