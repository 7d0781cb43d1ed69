-- What a record is: its role, from what is due and from the system identifier in its columns 1 to 11. A record that
-- is not due has the role NOT-DUE, which is refusal 4. Only here does the phase count; a rule goes by the role.
use Rattle.std.specs.Prelude.{Bool, cond, eqb, ltb}
use Rattle.paper_record.specs.Identifier.{ENTRY, SUBENT, NOSUBENT, BIB, NOBIB, ENDBIB, COMMON, NOCOMMON, ENDCOMMON, DATA}
use Rattle.paper_record.specs.Identifier.{NODATA, ENDDATA, ENDSUBENT, ENDENTRY, OTHER, Identifier, is_end}
use Rattle.paper_rules.specs.declared.types.Track.{Track}
use Rattle.paper_rules.specs.declared.types.Phase.{Phase}
use Rattle.paper_rules.specs.declared.types.Phase.TheVariants.{Start, Opened, InSubentry, InBib, AfterBib}
use Rattle.paper_rules.specs.declared.types.Phase.TheVariants.{InCommon}
use Rattle.paper_rules.specs.declared.types.Phase.TheVariants.{AfterCommon, InData, AfterData, Between, Done}
use Rattle.paper_rules.specs.State.{HEADINGS, UNITS}
use Rattle.paper_rules.specs.Roles.{Role, TEXT, COMMON-HEADING, COMMON-UNIT, COMMON-VALUE, DATA-HEADING, DATA-UNIT}
use Rattle.paper_rules.specs.Roles.{DATA-VALUE, NOT-DUE}

-- ---- what is due

-- the identifier a, and nothing else
abbrev pub only : Identifier → Identifier → Role
only a k = cond (eqb k a) a NOT-DUE

-- the identifier a or b
abbrev pub either : Identifier → Identifier → Identifier → Role
either a b k = cond (eqb k a) a (only b k)

-- inside BIB: as many text records as BIB announces, "any system identifier inside BIB" being 4; then ENDBIB
unfoldable pub bib_role : Track → Identifier → Role
bib_role t k = cond (eqb t.section t.bib.records) (only ENDBIB k) (cond (eqb k OTHER) TEXT NOT-DUE)

-- the lines that COMMON or DATA announces are all read
abbrev pub all_read : Track → Bool
all_read t = ltb t.table.last.0 t.table.line.0

-- inside COMMON and DATA: headings, units and lines, "one beginning with END" being 4; then the END record
unfoldable pub table_role : Identifier → Role → Role → Role → Track → Identifier → Role
table_role end heading unit value t k =
    cond (all_read t) (only end k)
    (cond (is_end k) NOT-DUE
    (cond (eqb t.table.row HEADINGS) heading
    (cond (eqb t.table.row UNITS) unit value)))

-- "then (except in 001) DATA section or NODATA, then ENDSUBENT"
unfoldable pub data_role : Track → Identifier → Role
data_role t k = cond (eqb t.subentry.number 1) (only ENDSUBENT k) (either DATA NODATA k)

-- after a subentry: another one, or ENDENTRY
abbrev pub next_role : Identifier → Role
next_role k = cond (eqb k SUBENT) SUBENT (either NOSUBENT ENDENTRY k)

-- "ENTRY; one or more subentries; ENDENTRY. A subentry is NOSUBENT alone, or SUBENT, then BIB section or NOBIB, then
-- COMMON section or NOCOMMON, then (except in 001) DATA section or NODATA, then ENDSUBENT. The first subentry is
-- SUBENT 001."
unfoldable pub role_in : Phase → Track → Identifier → Role
role_in Start t k = only ENTRY k
role_in Opened t k = only SUBENT k
role_in InSubentry t k = either BIB NOBIB k
role_in InBib t k = bib_role t k
role_in AfterBib t k = either COMMON NOCOMMON k
role_in InCommon t k = table_role ENDCOMMON COMMON-HEADING COMMON-UNIT COMMON-VALUE t k
role_in AfterCommon t k = data_role t k
role_in InData t k = table_role ENDDATA DATA-HEADING DATA-UNIT DATA-VALUE t k
role_in AfterData t k = only ENDSUBENT k
role_in Between t k = next_role k
role_in Done t k = NOT-DUE
