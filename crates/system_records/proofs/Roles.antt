-- Where a system record is due, a record without fault has the role that its identifier says, and unless it opens a
-- section a system record is due behind it.
-- Assumes nothing.
use Prim.Native.Nat.{ℕ}
use mathlib.Core.Path.{◌≡◌, refl, sym, ◌∙◌}
use mathlib.Core.Bool.{Bool, true, false, cond, ◌||◌}
use borrow.Author.Tests.{eqb-true}
use lib.Dec.{eqb}
use Rattle.laws.proofs.Booleans.{either-as}
use Rattle.paper_record.specs.Identifier.{ENTRY, SUBENT, NOSUBENT, BIB, NOBIB, ENDBIB, COMMON, NOCOMMON, ENDCOMMON, DATA}
use Rattle.paper_record.specs.Identifier.{NODATA, ENDDATA, ENDSUBENT, ENDENTRY, Identifier}
use Rattle.paper_rules.specs.declared.types.Track.{Track}
use Rattle.paper_rules.specs.declared.types.Phase.{Phase}
use Rattle.paper_rules.specs.declared.types.Phase.TheVariants.{Start, Opened, InSubentry, InBib, AfterBib}
use Rattle.paper_rules.specs.declared.types.Phase.TheVariants.{InCommon, AfterCommon, InData, AfterData, Between, Done}
use Rattle.paper_rules.specs.Roles.{NOT-DUE, opens_section}
use Rattle.paper_rules.specs.Role.{all_read, only, either, bib_role, table_role, data_role, next_role, role_in}
use Rattle.laws.proofs.EitherWay.{no}
use Rattle.paper_entry.specs.Due.{phase_after}
use Rattle.system_records.specs.Next.{system_due}

-- a phase in which no section is open
abbrev pub between_sections : Phase → Bool
between_sections Start = true
between_sections Opened = true
between_sections InSubentry = true
between_sections InBib = false
between_sections AfterBib = true
between_sections InCommon = false
between_sections AfterCommon = true
between_sections InData = false
between_sections AfterData = true
between_sections Between = true
between_sections Done = true

pub between-due : (p : Phase) (t : Track) → between_sections p ≡ true → system_due p t ≡ true
unfolding system_due
between-due Start t e = refl
between-due Opened t e = refl
between-due InSubentry t e = refl
between-due InBib t e = no e
between-due AfterBib t e = refl
between-due InCommon t e = no e
between-due AfterCommon t e = refl
between-due InData t e = no e
between-due AfterData t e = refl
between-due Between t e = refl
between-due Done t e = refl

-- what a role says where the identifier is k
abbrev pub Told : ℕ → ℕ → Type 0
Told k role = (role ≡ NOT-DUE → ⊥) → (role ≡ k) × ((opens_section role || between_sections (phase_after role)) ≡ true)

-- the identifiers that may be due
abbrev Leads : ℕ → Type 0
Leads a = (opens_section a || between_sections (phase_after a)) ≡ true

module _ (k : ℕ) where
  only-told : (a : ℕ) → Leads a → Told k (only a k)
  only-told a l =
      either-as (Told k) (eqb k a) _ _ (λ q due. (sym (eqb-true k a q), l)) (λ q due. absurd (due refl))

  either-told : (a b : ℕ) → Leads a → Leads b → Told k (either a b k)
  either-told a b l m =
      either-as (Told k) (eqb k a) _ _ (λ q due. (sym (eqb-true k a q), l)) (λ q. only-told b m)

  pub role-told : (p : Phase) (t : Track) → system_due p t ≡ true → Told k (role_in p t k)
  unfolding system_due role_in bib_role table_role data_role phase_after
  role-told Start t e = only-told ENTRY refl
  role-told Opened t e = only-told SUBENT refl
  role-told InSubentry t e = either-told BIB NOBIB refl refl
  role-told InBib t e = rw e (only-told ENDBIB refl)
  role-told AfterBib t e = either-told COMMON NOCOMMON refl refl
  role-told InCommon t e = rw e (only-told ENDCOMMON refl)
  role-told AfterCommon t e =
      either-as (Told k) (eqb t.subentry.number 1) _ _ (λ q. only-told ENDSUBENT refl)
      (λ q. either-told DATA NODATA refl refl)
  role-told InData t e = let read : all_read t ≡ true = e in rw read (only-told ENDDATA refl)
  role-told AfterData t e = only-told ENDSUBENT refl
  role-told Between t e =
      either-as (Told k) (eqb k SUBENT) _ _ (λ q due. (sym (eqb-true k SUBENT q), refl))
      (λ q. either-told NOSUBENT ENDENTRY refl refl)
  role-told Done t e = λ due. absurd (due refl)
