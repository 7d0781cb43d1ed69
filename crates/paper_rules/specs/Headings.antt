-- The rules for heading and unit records of COMMON and DATA: refusals 11 to 13. Rule 14 is that of Pointers.
use Rattle.std.specs.Prelude.{ℕ, eqb}
use Rattle.paper_record.specs.Fields.{in_field}
use Rattle.paper_record.specs.Faults.{pointer_fault, heading_fault, unit_fault}
use Rattle.paper_rules.specs.declared.types.Track.{Track}
use Rattle.paper_rules.specs.State.{Seen, used}
use Rattle.paper_rules.specs.Roles.{DATA-HEADING}
use Rattle.paper_rules.specs.Record.{Record, Fields, field_column, pointer_column}
use Rattle.paper_faults.specs.Fault.{Columns, columns_where}
use Rattle.paper_rules.specs.Repeats.{heading_repeated}

-- "A heading is a word in ten columns, with a pointer or blank in the eleventh. A unit is a word in ten columns,
-- eleventh blank." "unused fields are blank"

-- 11, "bad pointer character (unused fields aside)", column "the pointer's"
unfoldable pub rule11_heading : Track → Fields → Columns
rule11_heading t fs = columns_where (in_field (pointer_fault (used t)) fs) pointer_column 6

-- 12, "heading or unit no word, unit's eleventh column filled, unused field filled", column "field's first"
unfoldable pub rule12_heading : Track → Fields → Columns
rule12_heading t fs = columns_where (in_field (heading_fault (used t)) fs) field_column 6

unfoldable pub rule12_unit : Track → Fields → Columns
rule12_unit t fs = columns_where (in_field (unit_fault (used t)) fs) field_column 6

-- 13, "heading repeated", column "field's first"
unfoldable pub rule13 : Seen → Track → ℕ → Fields → Record → Columns
rule13 s t role fs r =
    columns_where (heading_repeated (eqb role DATA-HEADING) s.common001 s.common s.table r fs) field_column (used t)
