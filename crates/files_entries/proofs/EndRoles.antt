-- ENDENTRY by roles: with that name a record is not due, or it ends the entry; and no other record that is due ends it.
-- Assumes nothing.
use Prim.Native.Nat.{ℕ}
use mathlib.Core.Path.{◌≡◌, refl}
use mathlib.Core.Bool.{true}
use borrow.Author.Tests.{eqb-true}
use lib.Dec.{eqb}
use Rattle.laws.specs.Search.{first}
use Rattle.laws.proofs.Booleans.{either-as}
use Rattle.paper_record.specs.Word.{equal_to}
use Rattle.paper_record.specs.Identifier.{ENTRY, SUBENT, NOSUBENT, BIB, NOBIB, ENDBIB, COMMON, NOCOMMON, ENDCOMMON, DATA}
use Rattle.paper_record.specs.Identifier.{NODATA, ENDDATA, ENDSUBENT, ENDENTRY, OTHER, is_end}
use Rattle.paper_rules.specs.Roles.{Role, NOT-DUE, COMMON-HEADING, COMMON-UNIT, COMMON-VALUE, DATA-HEADING}
use Rattle.paper_rules.specs.Roles.{DATA-UNIT, DATA-VALUE}
use Rattle.paper_rules.specs.declared.types.Phase.{Phase}
use Rattle.paper_rules.specs.declared.types.Phase.TheVariants.{Start, Opened, InSubentry, InBib, AfterBib, InCommon}
use Rattle.paper_rules.specs.declared.types.Phase.TheVariants.{AfterCommon, InData, AfterData, Between, Done}
use Rattle.paper_rules.specs.declared.types.Track.{Track}
use Rattle.paper_rules.specs.State.{HEADINGS, UNITS}
use Rattle.paper_rules.specs.Role.{only, either, bib_role, table_role, data_role, all_read, role_in}
use Rattle.laws.proofs.EitherWay.{either_way, no}
use Rattle.paper_entry.specs.Verdict.{is_done}
use Rattle.paper_entry.specs.Due.{phase_after}

-- ---- the name ENDENTRY

-- not due, or the entry is done behind it
abbrev Ends : Role → Type 0
Ends role = (role ≡ NOT-DUE → ⊥) → is_done (phase_after role) ≡ true

not-due-ends : Ends NOT-DUE
not-due-ends n = absurd (n refl)

table-ends : (end heading unit value : Role) → Ends (only end ENDENTRY) → (t : Track)
    → Ends (table_role end heading unit value t ENDENTRY)
unfolding table_role is_end equal_to first
table-ends end heading unit value h t = either_way Ends (all_read t) _ _ h not-due-ends

pub endentry-ends : (p : Phase) (t : Track) → Ends (role_in p t ENDENTRY)
unfolding role_in bib_role data_role phase_after
endentry-ends Start t = not-due-ends
endentry-ends Opened t = not-due-ends
endentry-ends InSubentry t = not-due-ends
endentry-ends InBib t = either_way Ends (eqb t.section t.bib.records) _ _ not-due-ends not-due-ends
endentry-ends AfterBib t = not-due-ends
endentry-ends InCommon t = table-ends ENDCOMMON COMMON-HEADING COMMON-UNIT COMMON-VALUE not-due-ends t
endentry-ends AfterCommon t = either_way Ends (eqb t.subentry.number 1) _ _ not-due-ends not-due-ends
endentry-ends InData t = table-ends ENDDATA DATA-HEADING DATA-UNIT DATA-VALUE not-due-ends t
endentry-ends AfterData t = not-due-ends
endentry-ends Between t = λ n. refl
endentry-ends Done t = not-due-ends

-- ---- and no other

module _ (k : ℕ) where
  -- a record that is due, and behind which the entry is done, has that name
  abbrev Named : Role → Type 0
  Named role = (role ≡ NOT-DUE → ⊥) → is_done (phase_after role) ≡ true → k ≡ ENDENTRY

  not-due-named : Named NOT-DUE
  not-due-named n d = absurd (n refl)

  only-named : (a : Role) → Named a → Named (only a k)
  only-named a h = either_way Named (eqb k a) _ _ h not-due-named

  either-named : (a b : Role) → Named a → Named b → Named (either a b k)
  either-named a b h l = either_way Named (eqb k a) _ _ h (only-named b l)

  table-named : (end heading unit value : Role) → Named end → Named heading → Named unit → Named value → (t : Track)
      → Named (table_role end heading unit value t k)
  unfolding table_role
  table-named end heading unit value h l m o t =
      either_way Named (all_read t) _ _ (only-named end h)
      (either_way Named (is_end k) _ _ not-due-named
      (either_way Named (eqb t.table.row HEADINGS) _ _ l (either_way Named (eqb t.table.row UNITS) _ _ m o)))

  pub done-named : (p : Phase) (t : Track) → Named (role_in p t k)
  unfolding role_in bib_role data_role phase_after
  done-named Start t = only-named ENTRY (λ n d. no d)
  done-named Opened t = only-named SUBENT (λ n d. no d)
  done-named InSubentry t = either-named BIB NOBIB (λ n d. no d) (λ n d. no d)
  done-named InBib t =
      either_way Named (eqb t.section t.bib.records) _ _ (only-named ENDBIB (λ n d. no d))
      (either_way Named (eqb k OTHER) _ _ (λ n d. no d) not-due-named)
  done-named AfterBib t = either-named COMMON NOCOMMON (λ n d. no d) (λ n d. no d)
  done-named InCommon t =
      table-named ENDCOMMON COMMON-HEADING COMMON-UNIT COMMON-VALUE (λ n d. no d) (λ n d. no d) (λ n d. no d)
      (λ n d. no d) t
  done-named AfterCommon t =
      either_way Named (eqb t.subentry.number 1) _ _ (only-named ENDSUBENT (λ n d. no d))
      (either-named DATA NODATA (λ n d. no d) (λ n d. no d))
  done-named InData t =
      table-named ENDDATA DATA-HEADING DATA-UNIT DATA-VALUE (λ n d. no d) (λ n d. no d) (λ n d. no d)
      (λ n d. no d) t
  done-named AfterData t = only-named ENDSUBENT (λ n d. no d)
  done-named Between t =
      either_way Named (eqb k SUBENT) _ _ (λ n d. no d)
      (either_way Named (eqb k NOSUBENT) _ _ (λ n d. no d)
      (either-as Named (eqb k ENDENTRY) _ _ (λ e n d. eqb-true k ENDENTRY e) (λ e. not-due-named)))
  done-named Done t = not-due-named
