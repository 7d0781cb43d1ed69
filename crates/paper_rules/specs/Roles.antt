-- The roles of records, and the kinds that they are of.
use Rattle.std.specs.Prelude.{ℕ, ◌+◌, Bool, ◌||◌, eqb, ltb}
use Rattle.paper_record.specs.Identifier.{SUBENT, NOSUBENT, BIB, COMMON, DATA, TRANS, OTHER}

-- ---- the roles: a system record has its identifier's number; the records inside sections have these

abbrev pub Role : Type 0
Role = ℕ

abbrev pub TEXT : Role
TEXT = OTHER + 1

abbrev pub COMMON-HEADING : Role
COMMON-HEADING = OTHER + 2

abbrev pub COMMON-UNIT : Role
COMMON-UNIT = OTHER + 3

abbrev pub COMMON-VALUE : Role
COMMON-VALUE = OTHER + 4

abbrev pub DATA-HEADING : Role
DATA-HEADING = OTHER + 5

abbrev pub DATA-UNIT : Role
DATA-UNIT = OTHER + 6

abbrev pub DATA-VALUE : Role
DATA-VALUE = OTHER + 7

abbrev pub NOT-DUE : Role
NOT-DUE = OTHER + 8

-- ---- kinds of roles

-- one of the fourteen system identifiers that stand in an entry; TRANS and ENDTRANS are the role of no record of it
abbrev pub is_system : Role → Bool
is_system role = ltb role TRANS

-- SUBENT or NOSUBENT
abbrev pub opens_subentry : Role → Bool
opens_subentry role = eqb role SUBENT || eqb role NOSUBENT

-- BIB, COMMON or DATA, whose N1 and N2 are counts
abbrev pub opens_section : Role → Bool
opens_section role = eqb role BIB || (eqb role COMMON || eqb role DATA)

abbrev pub is_heading : Role → Bool
is_heading role = eqb role COMMON-HEADING || eqb role DATA-HEADING

abbrev pub is_unit : Role → Bool
is_unit role = eqb role COMMON-UNIT || eqb role DATA-UNIT

abbrev pub is_value : Role → Bool
is_value role = eqb role COMMON-VALUE || eqb role DATA-VALUE
