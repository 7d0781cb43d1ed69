-- The table of refusals: which rules are made on which kind of record, and in which order.
--
--   "within one record the lowest number; within that the leftmost column"
--
-- That the fault is the least by number and column of all that the rules find is the law `fault-least`.
use Rattle.std.specs.Prelude.{ℕ, ◌≡◌, cond, List, [], ◌∷◌, ◌↔◌, eqb}
use Rattle.paper_record.specs.Columns.{Whole}
use Rattle.paper_record.specs.declared.types.Values.{Values}
use Rattle.paper_rules.specs.declared.types.Track.{Track}
use Rattle.paper_rules.specs.declared.types.Ranges.{Ranges}
use Rattle.paper_rules.specs.State.{Seen}
use Rattle.paper_rules.specs.Ranging.{Stands}
use Rattle.paper_rules.specs.Roles.{Role, TEXT, DATA-HEADING, is_system, opens_subentry, is_heading, is_unit, is_value}
use Rattle.paper_rules.specs.Record.{Record, Fields}
use Rattle.paper_faults.specs.Fault.{on, Finding, finding, FaultAnswer, fault_answer, first_fault, Checked, fault_at}
use Rattle.paper_faults.specs.Least.{Least, FaultSaid}
use Rattle.paper_rules.specs.Every.{rule2, rule3, rule4, rule5, rule6}
use Rattle.paper_rules.specs.System.{rule7, rule9}
use Rattle.paper_rules.specs.Counts.{rule8}
use Rattle.paper_rules.specs.Text.{rule10, rule11_text}
use Rattle.paper_rules.specs.Headings.{rule11_heading, rule12_heading, rule12_unit, rule13}
use Rattle.paper_rules.specs.Pointers.{rule14}
use Rattle.paper_rules.specs.Values.{rule15, values_for}
use Rattle.paper_rules.specs.Flags.{rule17}

-- what the rules find on a record, from what is counted and seen before it, its role and its six fields
abbrev pub findings : Track → Seen → Role → Fields → Record → List Finding
findings t s role fs r =
    finding 2 (rule2 r)
    ∷ finding 3 (rule3 r)
    ∷ finding 4 (rule4 role)
    ∷ finding 5 (rule5 t role fs r)
    ∷ finding 6 (rule6 t role r)
    ∷ finding 7 (on (is_system role) (rule7 role fs))
    ∷ finding 8 (on (is_system role) (rule8 t role fs))
    ∷ finding 9 (on (opens_subentry role) (rule9 t fs))
    ∷ finding 10 (on (eqb role TEXT) (rule10 s.bib t fs))
    ∷ finding 11 (cond (eqb role TEXT) (rule11_text s.under fs) (on (is_heading role) (rule11_heading t fs)))
    ∷ finding 12 (cond (is_heading role) (rule12_heading t fs) (on (is_unit role) (rule12_unit t fs)))
    ∷ finding 13 (on (is_heading role) (rule13 s t role fs r))
    ∷ finding 14 (on (eqb role DATA-HEADING) (rule14 s t fs))
    ∷ finding 15 (on (is_value role) (rule15 t role fs))
    ∷ finding 17 (on (is_value role) (rule17 s t fs))
    ∷ []

unfoldable pub fault_of : Track → Seen → Role → Fields → Record → Checked
fault_of t s role fs r = first_fault (findings t s role fs r)

-- what the rules are lent: the state before the record, the record, its fields and what these read to
pub record Judged (t : Track) (g : Ranges) (before : List ℕ) (r : Record) (role : Role) (fs : Fields) (values : Values)
    : Type 0 where
  pub stands : Stands t g before
  pub whole : Whole r
  pub read : values ≡ values_for t role fs

-- ---- the order of faults

-- the fault of a record is the least of what the rules find on it
abbrev pub FaultLeast : Type 0
FaultLeast =
    (t : Track) (s : Seen) (role : Role) (fs : Fields) (r : Record) (n k : ℕ) → fault_of t s role fs r ≡ fault_at n k
    → Least (findings t s role fs r) n k

-- what is answered of a record: 0 0 where nothing is found, else the least of what is found
abbrev pub FaultExactly : Type 0
FaultExactly =
    (t : Track) (s : Seen) (role : Role) (fs : Fields) (r : Record) (a : FaultAnswer)
    → (fault_answer (fault_of t s role fs r) ≡ a) ↔ FaultSaid (findings t s role fs r) a
