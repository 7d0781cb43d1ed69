-- What the rules find on any record: numbers that rise, from 2 to 17, and for each its columns from left to right,
-- from 1 to 81. So the first finding is the least, and the number and the column of every refusal are bounded.
--
-- The law `findings-rise`: the findings of every record are so; `fault-bounds`: so are its number and its column.
use Rattle.paper_faults.specs.Fault.{fault_at}
use Rattle.std.specs.Prelude.{ℕ, ◌≡◌}
use Rattle.paper_rules.specs.declared.types.Track.{Track}
use Rattle.paper_rules.specs.State.{Seen}
use Rattle.paper_rules.specs.Roles.{Role}
use Rattle.paper_rules.specs.Record.{Record, Fields}
use Rattle.paper_faults.specs.Rising.{Sorted, Bounded}
use Rattle.paper_rules.specs.Order.{findings, fault_of}

-- the last number of a rule, and the last column of a record
abbrev pub LAST-RULE : ℕ
LAST-RULE = 17

abbrev pub LAST-COLUMN : ℕ
LAST-COLUMN = 81

abbrev pub FindingsRise : Type 0
FindingsRise =
    (t : Track) (s : Seen) (role : Role) (fs : Fields) (r : Record)
    → Sorted LAST-RULE LAST-COLUMN 1 (findings t s role fs r)

-- the number and the column of a fault, in their bounds
abbrev pub FaultBounds : ℕ → ℕ → Type 0
FaultBounds n k = Bounded LAST-RULE LAST-COLUMN 1 n k

abbrev pub FaultBounded : Type 0
FaultBounded =
    (t : Track) (s : Seen) (role : Role) (fs : Fields) (r : Record) (n k : ℕ) → fault_of t s role fs r ≡ fault_at n k
    → FaultBounds n k
