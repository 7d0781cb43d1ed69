-- A record without fault: what each rule of the table says of it, by the rule's number. A rule that is made on one kind
-- of record only says nothing of another.
--
-- The law `clean-exactly`: the fault of a record is none exactly when it is clean.
use Rattle.paper_faults.specs.Fault.{faultless}
use Rattle.std.specs.Prelude.{◌≡◌, true, [], ◌↔◌, eqb}
use Rattle.paper_rules.specs.declared.types.Track.{Track}
use Rattle.paper_rules.specs.State.{Seen}
use Rattle.paper_rules.specs.Record.{Record, Fields}
use Rattle.paper_rules.specs.Roles.{Role, TEXT, DATA-HEADING, is_system, opens_subentry, is_heading, is_unit, is_value}
use Rattle.paper_rules.specs.Every.{rule2, rule3, rule4, rule5, rule6}
use Rattle.paper_rules.specs.System.{rule7, rule9}
use Rattle.paper_rules.specs.Counts.{rule8}
use Rattle.paper_rules.specs.Text.{rule10, rule11_text}
use Rattle.paper_rules.specs.Headings.{rule11_heading, rule12_heading, rule12_unit, rule13}
use Rattle.paper_rules.specs.Pointers.{rule14}
use Rattle.paper_rules.specs.Values.{rule15}
use Rattle.paper_rules.specs.Flags.{rule17}
use Rattle.paper_rules.specs.Order.{fault_of}

-- by the rules for every record
pub record CleanEvery (t : Track) (role : Role) (fs : Fields) (r : Record) : Type 0 where
  pub two : rule2 r ≡ []
  pub three : rule3 r ≡ []
  pub four : rule4 role ≡ []
  pub five : rule5 t role fs r ≡ []
  pub six : rule6 t role r ≡ []

-- and by those for its kind
pub record Clean (t : Track) (s : Seen) (role : Role) (fs : Fields) (r : Record) : Type 0 where
  pub every : CleanEvery t role fs r
  pub seven : is_system role ≡ true → rule7 role fs ≡ []
  pub eight : is_system role ≡ true → rule8 t role fs ≡ []
  pub nine : opens_subentry role ≡ true → rule9 t fs ≡ []
  pub ten : eqb role TEXT ≡ true → rule10 s.bib t fs ≡ []
  pub eleven_text : eqb role TEXT ≡ true → rule11_text s.under fs ≡ []
  pub eleven : is_heading role ≡ true → rule11_heading t fs ≡ []
  pub twelve : is_heading role ≡ true → rule12_heading t fs ≡ []
  pub twelve_unit : is_unit role ≡ true → rule12_unit t fs ≡ []
  pub thirteen : is_heading role ≡ true → rule13 s t role fs r ≡ []
  pub fourteen : eqb role DATA-HEADING ≡ true → rule14 s t fs ≡ []
  pub fifteen : is_value role ≡ true → rule15 t role fs ≡ []
  pub seventeen : is_value role ≡ true → rule17 s t fs ≡ []

-- "a record without fault" and "each rule finds nothing" are one
abbrev pub CleanExactly : Type 0
CleanExactly = (t : Track) (s : Seen) (role : Role) (fs : Fields) (r : Record)
    → (fault_of t s role fs r ≡ faultless) ↔ Clean t s role fs r
