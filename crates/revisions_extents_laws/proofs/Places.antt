-- Where ENTRY, SUBENT, NOSUBENT, ENDSUBENT and ENDENTRY stand, by what is due before them and behind them.
-- Assumes nothing.
use Prim.Native.Nat.{ℕ}
use mathlib.Core.Path.{◌≡◌, refl}
use mathlib.Core.Bool.{Bool, true, false, not, ◌&&◌, ◌||◌}
use lib.Dec.{eqb}
use Rattle.laws.proofs.Booleans.{either-as}
use Rattle.laws.proofs.EitherWay.{either_way}
use Rattle.paper_record.specs.Identifier.{ENTRY, SUBENT, NOSUBENT, BIB, NOBIB, ENDBIB, COMMON, NOCOMMON, ENDCOMMON, DATA}
use Rattle.paper_record.specs.Identifier.{NODATA, ENDDATA, ENDSUBENT, ENDENTRY, OTHER, is_end}
use Rattle.paper_rules.specs.declared.types.Phase.{Phase}
use Rattle.paper_rules.specs.declared.types.Phase.TheVariants.{Start, Opened, InSubentry, InBib, AfterBib, InCommon}
use Rattle.paper_rules.specs.declared.types.Phase.TheVariants.{AfterCommon, InData, AfterData, Between, Done}
use Rattle.paper_rules.specs.declared.types.Track.{Track}
use Rattle.paper_rules.specs.State.{HEADINGS, UNITS}
use Rattle.paper_rules.specs.Roles.{NOT-DUE, opens_subentry}
use Rattle.paper_rules.specs.Role.{bib_role, all_read, table_role, data_role, role_in}
use Rattle.paper_entry.specs.Verdict.{is_done}
use Rattle.paper_entry.specs.Due.{leads_to_bib, leads_to_common, leads_to_data, phase_after}

-- ---- what is due

-- ENTRY, SUBENT, NOSUBENT or ENDENTRY
abbrev pub is_outer : ℕ → Bool
is_outer role = eqb role ENTRY || (opens_subentry role || eqb role ENDENTRY)

-- what a role says of the phase before it
abbrev pub follows : Phase → ℕ → Bool
follows Start role = eqb role ENTRY
follows Opened role = eqb role SUBENT
follows InSubentry role = not (is_outer role)
follows InBib role = not (is_outer role)
follows AfterBib role = not (is_outer role)
follows InCommon role = not (is_outer role)
follows AfterCommon role = not (is_outer role)
follows InData role = not (is_outer role)
follows AfterData role = not (is_outer role)
follows Between role = opens_subentry role || eqb role ENDENTRY
follows Done role = false

-- only ENDENTRY leads to the end
abbrev pub ends : ℕ → Bool
ends role = not (is_done (phase_after role)) || eqb role ENDENTRY

abbrev Due : Phase → ℕ → Type 0
Due p role = (eqb role NOT-DUE || (follows p role && ends role)) ≡ true

pub due-follows : (p : Phase) (t : Track) (k : ℕ)
    → (eqb (role_in p t k) NOT-DUE || (follows p (role_in p t k) && ends (role_in p t k))) ≡ true
unfolding role_in bib_role table_role data_role phase_after
due-follows Start t k = either_way (Due Start) (eqb k ENTRY) _ _ refl refl
due-follows Opened t k = either_way (Due Opened) (eqb k SUBENT) _ _ refl refl
due-follows InSubentry t k =
    either_way (Due InSubentry) (eqb k BIB) _ _ refl (either_way (Due InSubentry) (eqb k NOBIB) _ _ refl refl)
due-follows InBib t k =
    either_way (Due InBib) (eqb t.section t.bib.records) _ _
    (either_way (Due InBib) (eqb k ENDBIB) _ _ refl refl)
    (either_way (Due InBib) (eqb k OTHER) _ _ refl refl)
due-follows AfterBib t k =
    either_way (Due AfterBib) (eqb k COMMON) _ _ refl (either_way (Due AfterBib) (eqb k NOCOMMON) _ _ refl refl)
due-follows InCommon t k =
    either_way (Due InCommon) (all_read t) _ _ (either_way (Due InCommon) (eqb k ENDCOMMON) _ _ refl refl)
    (either_way (Due InCommon) (is_end k) _ _ refl
    (either_way (Due InCommon) (eqb t.table.row HEADINGS) _ _ refl
    (either_way (Due InCommon) (eqb t.table.row UNITS) _ _ refl refl)))
due-follows AfterCommon t k =
    either_way (Due AfterCommon) (eqb t.subentry.number 1) _ _
    (either_way (Due AfterCommon) (eqb k ENDSUBENT) _ _ refl refl)
    (either_way (Due AfterCommon) (eqb k DATA) _ _ refl (either_way (Due AfterCommon) (eqb k NODATA) _ _ refl refl))
due-follows InData t k =
    either_way (Due InData) (all_read t) _ _ (either_way (Due InData) (eqb k ENDDATA) _ _ refl refl)
    (either_way (Due InData) (is_end k) _ _ refl
    (either_way (Due InData) (eqb t.table.row HEADINGS) _ _ refl
    (either_way (Due InData) (eqb t.table.row UNITS) _ _ refl refl)))
due-follows AfterData t k = either_way (Due AfterData) (eqb k ENDSUBENT) _ _ refl refl
due-follows Between t k =
    either_way (Due Between) (eqb k SUBENT) _ _ refl
    (either_way (Due Between) (eqb k NOSUBENT) _ _ refl (either_way (Due Between) (eqb k ENDENTRY) _ _ refl refl))
due-follows Done t k = refl

-- ---- what is due behind a record

-- what a phase says of the role that led to it
abbrev pub comes : ℕ → Phase → Bool
comes role Start = false
comes role Opened = eqb role ENTRY
comes role InSubentry = true
comes role InBib = true
comes role AfterBib = true
comes role InCommon = true
comes role AfterCommon = true
comes role InData = true
comes role AfterData = true
comes role Between = eqb role NOSUBENT || eqb role ENDSUBENT
comes role Done = true

pub comes-after : (role : ℕ) → comes role (phase_after role) ≡ true
unfolding phase_after
comes-after role =
    either-as P (eqb role ENTRY) _ _ (λ e. e)
    (λ e. either_way P (eqb role SUBENT) _ _ refl
    (either_way P (leads_to_bib role) _ _ refl
    (either_way P (eqb role NOBIB || _) _ _ refl
    (either_way P (leads_to_common role) _ _ refl
    (either_way P (eqb role NOCOMMON || _) _ _ refl
    (either_way P (leads_to_data role) _ _ refl
    (either_way P (eqb role NODATA || _) _ _ refl
    (either-as P (eqb role NOSUBENT || eqb role ENDSUBENT) _ _ (λ q. q) (λ q. refl)))))))))
  where
    P : Phase → Type 0
    P p = comes role p ≡ true
