-- An entry that has ended has four records at least: ENTRY, SUBENT, one more and ENDENTRY. So a file of 200,000 records
-- has 50,000 entries at the most.
-- Assumes nothing.
use Prim.Native.Nat.{ℕ, ◌+◌, ◌≤◌}
use mathlib.Core.Path.{◌≡◌, refl}
use mathlib.Core.Bool.{Bool, true, false, cond}
use mathlib.Core.List.{List, []}
use native.Mathlib.Omega.{arith}
use lib.Dec.{eqb, leb}
use lib.ListN.{get_or}
use Rattle.paper_record.specs.Fields.{fields_of}
use Rattle.paper_record.specs.Identifier.{ENTRY, SUBENT, NOSUBENT, BIB, NOBIB, ENDBIB, COMMON, NOCOMMON, ENDCOMMON, DATA}
use Rattle.paper_record.specs.Identifier.{NODATA, ENDDATA, ENDSUBENT, ENDENTRY, OTHER, identifier_of, is_end}
use Rattle.paper_rules.specs.Roles.{TEXT, COMMON-HEADING, COMMON-UNIT, COMMON-VALUE, DATA-HEADING, DATA-UNIT}
use Rattle.paper_rules.specs.Roles.{DATA-VALUE, NOT-DUE}
use Rattle.paper_rules.specs.declared.types.Phase.{Phase}
use Rattle.paper_rules.specs.declared.types.Phase.TheVariants.{Start, Opened, InSubentry, InBib, AfterBib, InCommon}
use Rattle.paper_rules.specs.declared.types.Phase.TheVariants.{AfterCommon, InData, AfterData, Between, Done}
use Rattle.paper_rules.specs.declared.types.Track.{Track}
use Rattle.paper_rules.specs.State.{HEADINGS, UNITS}
use Rattle.paper_rules.specs.Role.{only, either, all_read, bib_role, table_role, data_role, next_role, role_in}
use Rattle.laws.proofs.EitherWay.{either_way, no}
use Rattle.paper_entry.specs.Verdict.{is_done}
use Rattle.paper_entry.specs.Due.{leads_to_bib, leads_to_common, leads_to_data, phase_after}

-- how many records stand before a record in this phase, at least
abbrev pub least : Phase → ℕ
least Start = 0
least Opened = 1
least InSubentry = 2
least InBib = 3
least AfterBib = 3
least InCommon = 3
least AfterCommon = 3
least InData = 3
least AfterData = 3
least Between = 3
least Done = 4

-- a record of this role is not due, or leads no further than one record does
abbrev Leads : Phase → ℕ → Type 0
Leads p role = (role ≡ NOT-DUE → ⊥) → least (phase_after role) ≤ least p + 1

module _ (p : Phase) where
  not-due : Leads p NOT-DUE
  not-due h = absurd (h refl)

  only-leads : (a k : ℕ) → Leads p a → Leads p (only a k)
  only-leads a k h = either_way (Leads p) (eqb k a) a NOT-DUE h not-due

  either-leads : (a b k : ℕ) → Leads p a → Leads p b → Leads p (either a b k)
  either-leads a b k h i = either_way (Leads p) (eqb k a) a (only b k) h (only-leads b k i)

  table-leads : (end heading unit value : ℕ) (t : Track) (k : ℕ) → Leads p end → Leads p heading → Leads p unit
      → Leads p value → Leads p (table_role end heading unit value t k)
  unfolding table_role
  table-leads end heading unit value t k e h u v =
      either_way (Leads p) (all_read t) (only end k) _ (only-leads end k e)
      (either_way (Leads p) (is_end k) NOT-DUE _ not-due
      (either_way (Leads p) (eqb t.table.row HEADINGS) heading _ h
      (either_way (Leads p) (eqb t.table.row UNITS) unit value u v)))

-- by one record the phase goes on by one at the most
pub leads-on : (p : Phase) (t : Track) (k : ℕ) → Leads p (role_in p t k)
unfolding role_in bib_role data_role phase_after
leads-on Start t k = only-leads Start ENTRY k (λ h. omega arith)
leads-on Opened t k = only-leads Opened SUBENT k (λ h. omega arith)
leads-on InSubentry t k = either-leads InSubentry BIB NOBIB k (λ h. omega arith) (λ h. omega arith)
leads-on InBib t k =
    either_way (Leads InBib) (eqb t.section t.bib.records) _ _ (only-leads InBib ENDBIB k (λ h. omega arith))
    (either_way (Leads InBib) (eqb k OTHER) TEXT NOT-DUE (λ h. omega arith) (not-due InBib))
leads-on AfterBib t k = either-leads AfterBib COMMON NOCOMMON k (λ h. omega arith) (λ h. omega arith)
leads-on InCommon t k =
    table-leads InCommon ENDCOMMON COMMON-HEADING COMMON-UNIT COMMON-VALUE t k (λ h. omega arith) (λ h. omega arith)
    (λ h. omega arith) (λ h. omega arith)
leads-on AfterCommon t k =
    either_way (Leads AfterCommon) (eqb t.subentry.number 1) _ _
    (only-leads AfterCommon ENDSUBENT k (λ h. omega arith))
    (either-leads AfterCommon DATA NODATA k (λ h. omega arith) (λ h. omega arith))
leads-on InData t k =
    table-leads InData ENDDATA DATA-HEADING DATA-UNIT DATA-VALUE t k (λ h. omega arith) (λ h. omega arith)
    (λ h. omega arith) (λ h. omega arith)
leads-on AfterData t k = only-leads AfterData ENDSUBENT k (λ h. omega arith)
leads-on Between t k =
    either_way (Leads Between) (eqb k SUBENT) SUBENT _ (λ h. omega arith)
    (either-leads Between NOSUBENT ENDENTRY k (λ h. omega arith) (λ h. omega arith))
leads-on Done t k = not-due Done

-- an entry that has ended
pub done-four : (p : Phase) → is_done p ≡ true → least p ≡ 4
done-four Start e = no e
done-four Opened e = no e
done-four InSubentry e = no e
done-four InBib e = no e
done-four AfterBib e = no e
done-four InCommon e = no e
done-four AfterCommon e = no e
done-four InData e = no e
done-four AfterData e = no e
done-four Between e = no e
done-four Done e = refl
