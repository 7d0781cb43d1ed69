-- Which records lead into BIB and into a table. Assumes nothing.
use Prim.Native.Nat.{ℕ}
use mathlib.Core.Path.{◌≡◌, refl}
use mathlib.Core.Bool.{Bool, true, false, cond, ◌||◌}
use lib.Dec.{eqb}
use Rattle.paper_record.specs.Identifier.{ENTRY, SUBENT, NOSUBENT, NOBIB, ENDBIB, NOCOMMON, ENDCOMMON, NODATA, ENDDATA}
use Rattle.paper_record.specs.Identifier.{ENDSUBENT}
use Rattle.paper_rules.specs.declared.types.Phase.TheVariants.{Opened, InSubentry, InBib, AfterBib, InCommon}
use Rattle.paper_rules.specs.declared.types.Phase.TheVariants.{AfterCommon, InData, AfterData, Between, Done}
use Rattle.paper_entry.specs.Due.{leads_to_bib, leads_to_common, leads_to_data, phase_after}
use Rattle.laws.proofs.EitherWay.{no}
use Rattle.paper_rules.proofs.RolePlaces.{in_bib, in_table}

-- the phase after a record is that of BIB, or of a table, only where the record leads there
leads-bib : (a b c d e f g h i : Bool)
    → in_bib (cond a Opened
    (cond b InSubentry
    (cond c InBib
    (cond d AfterBib
    (cond e InCommon (cond f AfterCommon (cond g InData (cond h AfterData (cond i Between Done))))))))) ≡ true
    → c ≡ true
leads-bib true b c d e f g h i q = no q
leads-bib false true c d e f g h i q = no q
leads-bib false false true d e f g h i q = refl
leads-bib false false false true e f g h i q = no q
leads-bib false false false false true f g h i q = no q
leads-bib false false false false false true g h i q = no q
leads-bib false false false false false false true h i q = no q
leads-bib false false false false false false false true i q = no q
leads-bib false false false false false false false false true q = no q
leads-bib false false false false false false false false false q = no q

leads-table : (a b c d e f g h i : Bool)
    → in_table
    (cond a Opened
    (cond b InSubentry
    (cond c InBib
    (cond d AfterBib
    (cond e InCommon (cond f AfterCommon (cond g InData (cond h AfterData (cond i Between Done))))))))) ≡ true
    → (e || g) ≡ true
leads-table true b c d e f g h i q = no q
leads-table false true c d e f g h i q = no q
leads-table false false true d e f g h i q = no q
leads-table false false false true e f g h i q = no q
leads-table false false false false true f g h i q = refl
leads-table false false false false false true g h i q = no q
leads-table false false false false false false true h i q = refl
leads-table false false false false false false false true i q = no q
leads-table false false false false false false false false true q = no q
leads-table false false false false false false false false false q = no q

pub bib-led : (role : ℕ) → in_bib (phase_after role) ≡ true → leads_to_bib role ≡ true
unfolding phase_after
bib-led role q =
    leads-bib (eqb role ENTRY) (eqb role SUBENT) (leads_to_bib role) (eqb role NOBIB || eqb role ENDBIB)
    (leads_to_common role)
    (eqb role NOCOMMON || eqb role ENDCOMMON) (leads_to_data role) (eqb role NODATA || eqb role ENDDATA)
    (eqb role NOSUBENT || eqb role ENDSUBENT) q

pub table-led : (role : ℕ) → in_table (phase_after role) ≡ true → (leads_to_common role || leads_to_data role) ≡ true
unfolding phase_after
table-led role q =
    leads-table (eqb role ENTRY) (eqb role SUBENT) (leads_to_bib role) (eqb role NOBIB || eqb role ENDBIB)
    (leads_to_common role)
    (eqb role NOCOMMON || eqb role ENDCOMMON) (leads_to_data role) (eqb role NODATA || eqb role ENDDATA)
    (eqb role NOSUBENT || eqb role ENDSUBENT) q
