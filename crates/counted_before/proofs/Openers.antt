-- An END record has one before it that it ends: without that one its phase is not reached.
-- Assumes nothing.
use Prim.Native.Nat.{ℕ, zero, suc}
use mathlib.Core.Path.{◌≡◌, refl, sym, ◌∙◌}
use mathlib.Core.Bool.{Bool, true, false}
use mathlib.Core.List.{List}
use native.Mathlib.Omega.{arith}
use lib.Dec.{eqb}
use Rattle.laws.proofs.Booleans.{differ, or-either, or_left}
use Rattle.paper_record.specs.Identifier.{ENTRY, SUBENT, NOSUBENT, BIB, NOBIB, ENDBIB, COMMON, NOCOMMON, ENDCOMMON, DATA}
use Rattle.paper_record.specs.Identifier.{NODATA, ENDDATA, ENDSUBENT, ENDENTRY, is_end}
use Rattle.paper_rules.specs.declared.types.Phase.{Phase}
use Rattle.paper_rules.specs.declared.types.Phase.TheVariants.{Start, Opened, InSubentry, InBib, AfterBib, InCommon}
use Rattle.paper_rules.specs.declared.types.Phase.TheVariants.{AfterCommon, InData, AfterData, Between, Done}
use Rattle.paper_rules.specs.declared.types.Track.{Track}
use Rattle.paper_rules.specs.State.{HEADINGS, UNITS}
use Rattle.paper_rules.specs.Roles.{COMMON-HEADING, COMMON-UNIT, COMMON-VALUE, DATA-HEADING, DATA-UNIT, DATA-VALUE}
use Rattle.paper_rules.specs.Roles.{NOT-DUE, opens_subentry, opens_section}
use Rattle.paper_rules.specs.Role.{table_role, all_read, data_role, role_in}
use Rattle.laws.proofs.EitherWay.{either_way, no}
use Rattle.paper_rules.proofs.RolePlaces.{in_bib, in_table, text_in-bib}
use Rattle.paper_entry.specs.Due.{phase_after}
use Rattle.paper_entry.specs.Next.{context_after}
use Rattle.paper_entry.specs.Contexts.{context_at, role_at}
use Rattle.paper_entry.proofs.Leads.{bib-led}
use Rattle.counted_before.specs.Before.{is_bib, ends_section, SectionOpened, SubentryOpened, BibOpened}
use Rattle.counted_before.proofs.LastOf.{NoneOf, one_of}

-- ---- outside sections

record Outside (p : Phase) : Type 0 where
  bib : in_bib p ≡ false
  table : in_table p ≡ false

-- the roles that are due there
record There (P : ℕ → Type 0) : Type 0 where
  entry : P ENTRY
  subent : P SUBENT
  nosubent : P NOSUBENT
  bib : P BIB
  nobib : P NOBIB
  common : P COMMON
  nocommon : P NOCOMMON
  dat : P DATA
  nodata : P NODATA
  endsubent : P ENDSUBENT
  endentry : P ENDENTRY
  not-due : P NOT-DUE

role-there : (P : ℕ → Type 0) → There P → (p : Phase) (t : Track) (k : ℕ) → Outside p → P (role_in p t k)
unfolding role_in data_role
role-there P h Start t k o = either_way P (eqb k ENTRY) _ _ h.entry h.not-due
role-there P h Opened t k o = either_way P (eqb k SUBENT) _ _ h.subent h.not-due
role-there P h InSubentry t k o =
    either_way P (eqb k BIB) _ _ h.bib (either_way P (eqb k NOBIB) _ _ h.nobib h.not-due)
role-there P h InBib t k o = differ o.bib
role-there P h AfterBib t k o =
    either_way P (eqb k COMMON) _ _ h.common (either_way P (eqb k NOCOMMON) _ _ h.nocommon h.not-due)
role-there P h InCommon t k o = differ o.table
role-there P h AfterCommon t k o =
    either_way P (eqb t.subentry.number 1) _ _ (either_way P (eqb k ENDSUBENT) _ _ h.endsubent h.not-due)
    (either_way P (eqb k DATA) _ _ h.dat (either_way P (eqb k NODATA) _ _ h.nodata h.not-due))
role-there P h InData t k o = differ o.table
role-there P h AfterData t k o = either_way P (eqb k ENDSUBENT) _ _ h.endsubent h.not-due
role-there P h Between t k o =
    either_way P (eqb k SUBENT) _ _ h.subent
    (either_way P (eqb k NOSUBENT) _ _ h.nosubent (either_way P (eqb k ENDENTRY) _ _ h.endentry h.not-due))
role-there P h Done t k o = h.not-due

abbrev Onward : ℕ → Type 0
Onward role = opens_section role ≡ false → Outside (phase_after role)

onward : There Onward
unfolding phase_after
onward =
    record {
      entry = λ e. record { bib = refl; table = refl };
      subent = λ e. record { bib = refl; table = refl };
      nosubent = λ e. record { bib = refl; table = refl };
      bib = λ e. differ e;
      nobib = λ e. record { bib = refl; table = refl };
      common = λ e. differ e;
      nocommon = λ e. record { bib = refl; table = refl };
      dat = λ e. differ e;
      nodata = λ e. record { bib = refl; table = refl };
      endsubent = λ e. record { bib = refl; table = refl };
      endentry = λ e. record { bib = refl; table = refl };
      not-due = λ e. record { bib = refl; table = refl };
    }

ends-not : There (λ role. ends_section role ≡ false)
ends-not =
    record {
      entry = refl;
      subent = refl;
      nosubent = refl;
      bib = refl;
      nobib = refl;
      common = refl;
      nocommon = refl;
      dat = refl;
      nodata = refl;
      endsubent = refl;
      endentry = refl;
      not-due = refl;
    }

none-outside : (s : List ℕ) (i : ℕ) → NoneOf opens_section s i → Outside (context_at s i).phase
unfolding context_at context_after
none-outside s zero h = record { bib = refl; table = refl }
none-outside s (suc i) h =
    role-there Onward onward (context_at s i).phase _ _ (none-outside s i (λ m l. h m (omega arith)))
    (h i (omega arith))

pub section-opened : SectionOpened
section-opened s i e =
    one_of opens_section s i
    (λ h. no (sym (role-there (λ role. ends_section role ≡ false) ends-not (context_at s i).phase _ _
    (none-outside s i h)) ∙ e))

-- ---- before the first subentry

-- ENTRY, SUBENT or no record is due
data Early : Phase → Type 0 where
  start : Early Start
  opened : Early Opened
  done : Early Done

early-role : (P : ℕ → Type 0) → P ENTRY → P SUBENT → P NOT-DUE → (p : Phase) (t : Track) (k : ℕ) → Early p
    → P (role_in p t k)
unfolding role_in
early-role P a b c p t k start = either_way P (eqb k ENTRY) _ _ a c
early-role P a b c p t k opened = either_way P (eqb k SUBENT) _ _ b c
early-role P a b c p t k done = c

none-early : (s : List ℕ) (i : ℕ) → NoneOf opens_subentry s i → Early (context_at s i).phase
unfolding context_at context_after phase_after
none-early s zero h = start
none-early s (suc i) h =
    early-role (λ role. opens_subentry role ≡ false → Early (phase_after role)) (λ e. opened) (λ e. differ e) (λ e. done)
    (context_at s i).phase _ _ (none-early s i (λ m l. h m (omega arith))) (h i (omega arith))

pub subentry-opened : SubentryOpened
subentry-opened s i e =
    one_of opens_subentry s i
    (λ h. no (sym (early-role (λ role. eqb role ENDSUBENT ≡ false) refl refl refl (context_at s i).phase _ _
    (none-early s i h)) ∙ e))

-- ---- BIB

none-bib : (s : List ℕ) (i : ℕ) → NoneOf is_bib s i → in_bib (context_at s i).phase ≡ false
unfolding context_at context_after
none-bib s zero h = refl
none-bib s (suc i) h =
    by-test (in_bib (phase_after (role_at s i))) refl (none-bib s i (λ m l. h m (omega arith)))
  where
    by-test : (b : Bool) → in_bib (phase_after (role_at s i)) ≡ b → in_bib (context_at s i).phase ≡ false → b ≡ false
    by-test false e o = refl
    by-test true e o =
        or-either (eqb (role_at s i) BIB) _ (bib-led (role_at s i) e) (λ q. no (sym (h i (omega arith)) ∙ q))
        (λ q. no (sym o ∙ text_in-bib (context_at s i).phase _ _ q))

abbrev not_end : ℕ → Type 0
not_end role = eqb role ENDBIB ≡ false

table-not : (end heading unit value : ℕ) → not_end end → not_end heading → not_end unit → not_end value
    → (t : Track) (k : ℕ) → not_end (table_role end heading unit value t k)
unfolding table_role
table-not end heading unit value a b c d t k =
    either_way not_end (all_read t) _ _ (either_way not_end (eqb k end) _ _ a refl)
    (either_way not_end (is_end k) _ _ refl
    (either_way not_end (eqb t.table.row HEADINGS) _ _ b
    (either_way not_end (eqb t.table.row UNITS) _ _ c d)))

outside-not : (p : Phase) (t : Track) (k : ℕ) → Outside p → not_end (role_in p t k)
outside-not p t k o =
    or_left (eqb (role_in p t k) ENDBIB) _ (role-there (λ role. ends_section role ≡ false) ends-not p t k o)

endbib-not : (p : Phase) (t : Track) (k : ℕ) → in_bib p ≡ false → not_end (role_in p t k)
unfolding role_in
endbib-not Start t k e = outside-not Start t k (record { bib = refl; table = refl })
endbib-not Opened t k e = outside-not Opened t k (record { bib = refl; table = refl })
endbib-not InSubentry t k e = outside-not InSubentry t k (record { bib = refl; table = refl })
endbib-not InBib t k e = differ e
endbib-not AfterBib t k e = outside-not AfterBib t k (record { bib = refl; table = refl })
endbib-not InCommon t k e = table-not ENDCOMMON COMMON-HEADING COMMON-UNIT COMMON-VALUE refl refl refl refl t k
endbib-not AfterCommon t k e = outside-not AfterCommon t k (record { bib = refl; table = refl })
endbib-not InData t k e = table-not ENDDATA DATA-HEADING DATA-UNIT DATA-VALUE refl refl refl refl t k
endbib-not AfterData t k e = outside-not AfterData t k (record { bib = refl; table = refl })
endbib-not Between t k e = outside-not Between t k (record { bib = refl; table = refl })
endbib-not Done t k e = outside-not Done t k (record { bib = refl; table = refl })

pub bib-opened : BibOpened
bib-opened s i e =
    one_of is_bib s i (λ h. no (sym (endbib-not (context_at s i).phase _ _ (none-bib s i h)) ∙ e))
