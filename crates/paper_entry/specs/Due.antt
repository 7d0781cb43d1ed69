-- What is due after a record without fault, by its role.
use Rattle.std.specs.Prelude.{ℕ, Bool, cond, ◌||◌, eqb}
use Rattle.paper_record.specs.Identifier.{ENTRY, SUBENT, NOSUBENT, BIB, NOBIB, ENDBIB, COMMON, NOCOMMON, ENDCOMMON, DATA}
use Rattle.paper_record.specs.Identifier.{NODATA, ENDDATA, ENDSUBENT}
use Rattle.paper_rules.specs.declared.types.Phase.{Phase}
use Rattle.paper_rules.specs.declared.types.Phase.TheVariants.{Opened, InSubentry, InBib, AfterBib, InCommon}
use Rattle.paper_rules.specs.declared.types.Phase.TheVariants.{AfterCommon}
use Rattle.paper_rules.specs.declared.types.Phase.TheVariants.{InData, AfterData, Between, Done}
use Rattle.paper_rules.specs.Roles.{TEXT, COMMON-HEADING, COMMON-UNIT, COMMON-VALUE, DATA-HEADING, DATA-UNIT}
use Rattle.paper_rules.specs.Roles.{DATA-VALUE}

-- the records that are or lead into BIB, COMMON, DATA
abbrev pub leads_to_bib : ℕ → Bool
leads_to_bib role = eqb role BIB || eqb role TEXT

abbrev pub leads_to_common : ℕ → Bool
leads_to_common role =
    eqb role COMMON || (eqb role COMMON-HEADING || (eqb role COMMON-UNIT || eqb role COMMON-VALUE))

abbrev pub leads_to_data : ℕ → Bool
leads_to_data role = eqb role DATA || (eqb role DATA-HEADING || (eqb role DATA-UNIT || eqb role DATA-VALUE))

unfoldable pub phase_after : ℕ → Phase
phase_after role =
    cond (eqb role ENTRY) Opened
    (cond (eqb role SUBENT) InSubentry
    (cond (leads_to_bib role) InBib
    (cond (eqb role NOBIB || eqb role ENDBIB) AfterBib
    (cond (leads_to_common role) InCommon
    (cond (eqb role NOCOMMON || eqb role ENDCOMMON) AfterCommon
    (cond (leads_to_data role) InData
    (cond (eqb role NODATA || eqb role ENDDATA) AfterData
    (cond (eqb role NOSUBENT || eqb role ENDSUBENT) Between Done))))))))
