-- The five kinds of records, and for each what makes it clean: the rules for every record, and those that are made on
-- its kind. Of the rules for another kind nothing has to be shown.
-- Assumes nothing.
use Prim.Native.Nat.{ℕ}
use mathlib.Core.Path.{◌≡◌, refl, sym, ◌∙◌}
use mathlib.Core.Bool.{Bool, true, false, cond, ◌||◌}
use mathlib.Core.List.{List, []}
use borrow.Author.Tests.{eqb-true, eq-eqb}
use lib.Dec.{eqb}
use Rattle.laws.proofs.Booleans.{differ}
use Rattle.paper_record.specs.Identifier.{SUBENT, NOSUBENT}
use Rattle.paper_rules.specs.declared.types.Track.{Track}
use Rattle.paper_rules.specs.State.{Seen}
use Rattle.paper_rules.specs.Roles.{TEXT, COMMON-HEADING, COMMON-UNIT, COMMON-VALUE, DATA-HEADING, DATA-UNIT}
use Rattle.paper_rules.specs.Roles.{DATA-VALUE, is_system, opens_subentry, is_heading, is_unit, is_value}
use Rattle.paper_rules.specs.System.{rule7, rule9}
use Rattle.paper_rules.specs.Counts.{rule8}
use Rattle.paper_rules.specs.Text.{rule10, rule11_text}
use Rattle.paper_rules.specs.Headings.{rule11_heading, rule12_heading, rule12_unit, rule13}
use Rattle.paper_rules.specs.Pointers.{rule14}
use Rattle.paper_rules.specs.Values.{rule15}
use Rattle.paper_rules.specs.Flags.{rule17}
use Rattle.laws.proofs.EitherWay.{no}
use Rattle.paper_rules.specs.Clean.{CleanEvery, Clean}

-- ---- kinds of records

-- what holds of both roles of a kind holds of each
pub of_two : (a b : ℕ) (P : ℕ → Type 0) → P a → P b → (role : ℕ) → (eqb role a || eqb role b) ≡ true → P role
of_two a b P in-first in-second role e = by-test (eqb role a) refl (eqb role b) refl e
  where
    by-test : (t : Bool) → eqb role a ≡ t → (u : Bool) → eqb role b ≡ u → (t || u) ≡ true → P role
    by-test true p u q h = let z : role ≡ a = eqb-true role a p in rw z in-first
    by-test false p true q h = let z : role ≡ b = eqb-true role b q in rw z in-second
    by-test false p false q h = no h

pub of-headings : (P : ℕ → Type 0) → P COMMON-HEADING → P DATA-HEADING → (role : ℕ) → is_heading role ≡ true → P role
of-headings = of_two COMMON-HEADING DATA-HEADING

pub of-units : (P : ℕ → Type 0) → P COMMON-UNIT → P DATA-UNIT → (role : ℕ) → is_unit role ≡ true → P role
of-units = of_two COMMON-UNIT DATA-UNIT

pub of_values : (P : ℕ → Type 0) → P COMMON-VALUE → P DATA-VALUE → (role : ℕ) → is_value role ≡ true → P role
of_values = of_two COMMON-VALUE DATA-VALUE

-- the kind of a role, as a number: two kinds are told apart by it
abbrev SYSTEM : ℕ
SYSTEM = 0

abbrev TEXTS : ℕ
TEXTS = 1

abbrev HEADING : ℕ
HEADING = 2

abbrev UNIT : ℕ
UNIT = 3

abbrev VALUE : ℕ
VALUE = 4

abbrev kind_of : ℕ → ℕ
kind_of role =
    cond (is_system role) SYSTEM
    (cond (eqb role TEXT) TEXTS
    (cond (is_heading role) HEADING
    (cond (is_unit role) UNIT
    (cond (is_value role) VALUE 5))))

system-kind : (role : ℕ) → is_system role ≡ true → kind_of role ≡ SYSTEM
system-kind role h = rw h

opening-kind : (role : ℕ) → opens_subentry role ≡ true → kind_of role ≡ SYSTEM
opening-kind = of_two SUBENT NOSUBENT (λ k. kind_of k ≡ SYSTEM) refl refl

one-kind : (k role : ℕ) → eqb role k ≡ true → kind_of role ≡ kind_of k
one-kind k role h = let z : role ≡ k = eqb-true role k h in rw z

heading-kind : (role : ℕ) → is_heading role ≡ true → kind_of role ≡ HEADING
heading-kind = of-headings (λ k. kind_of k ≡ HEADING) refl refl

unit-kind : (role : ℕ) → is_unit role ≡ true → kind_of role ≡ UNIT
unit-kind = of-units (λ k. kind_of k ≡ UNIT) refl refl

value-kind : (role : ℕ) → is_value role ≡ true → kind_of role ≡ VALUE
value-kind = of_values (λ k. kind_of k ≡ VALUE) refl refl

-- a record of the kind k is none of another kind
module _ (role k : ℕ) (is : kind_of role ≡ k) where
  apart : {X : Type 0} (j : ℕ) → eqb k j ≡ false → kind_of role ≡ j → X
  apart j e h = differ (sym (eq-eqb k j (sym is ∙ h)) ∙ e)

  no_system : {X : Type 0} → eqb k SYSTEM ≡ false → is_system role ≡ true → X
  no_system e h = apart SYSTEM e (system-kind role h)

  no-opening : {X : Type 0} → eqb k SYSTEM ≡ false → opens_subentry role ≡ true → X
  no-opening e h = apart SYSTEM e (opening-kind role h)

  no_text : {X : Type 0} → eqb k TEXTS ≡ false → eqb role TEXT ≡ true → X
  no_text e h = apart TEXTS e (one-kind TEXT role h)

  no-heading : {X : Type 0} → eqb k HEADING ≡ false → is_heading role ≡ true → X
  no-heading e h = apart HEADING e (heading-kind role h)

  no-data-heading : {X : Type 0} → eqb k HEADING ≡ false → eqb role DATA-HEADING ≡ true → X
  no-data-heading e h = apart HEADING e (one-kind DATA-HEADING role h)

  no-unit : {X : Type 0} → eqb k UNIT ≡ false → is_unit role ≡ true → X
  no-unit e h = apart UNIT e (unit-kind role h)

  no_value : {X : Type 0} → eqb k VALUE ≡ false → is_value role ≡ true → X
  no_value e h = apart VALUE e (value-kind role h)

-- ---- what makes a record of each kind clean

module _ (t : Track) (s : Seen) (role : ℕ) (fs : List (List ℕ)) (r : List ℕ) (every : CleanEvery t role fs r) where
  pub clean-system : is_system role ≡ true → rule7 role fs ≡ [] → rule8 t role fs ≡ []
      → (opens_subentry role ≡ true → rule9 t fs ≡ []) → Clean t s role fs r
  clean-system h seven eight nine =
      let is = system-kind role h in
      record {
        every = every;
        seven = λ g. seven;
        eight = λ g. eight;
        nine = nine;
        ten = no_text role SYSTEM is refl;
        eleven_text = no_text role SYSTEM is refl;
        eleven = no-heading role SYSTEM is refl;
        twelve = no-heading role SYSTEM is refl;
        twelve_unit = no-unit role SYSTEM is refl;
        thirteen = no-heading role SYSTEM is refl;
        fourteen = no-data-heading role SYSTEM is refl;
        fifteen = no_value role SYSTEM is refl;
        seventeen = no_value role SYSTEM is refl;
      }

  pub clean-text : eqb role TEXT ≡ true → rule10 s.bib t fs ≡ [] → rule11_text s.under fs ≡ []
      → Clean t s role fs r
  clean-text h ten eleven =
      let is = one-kind TEXT role h in
      record {
        every = every;
        seven = no_system role TEXTS is refl;
        eight = no_system role TEXTS is refl;
        nine = no-opening role TEXTS is refl;
        ten = λ g. ten;
        eleven_text = λ g. eleven;
        eleven = no-heading role TEXTS is refl;
        twelve = no-heading role TEXTS is refl;
        twelve_unit = no-unit role TEXTS is refl;
        thirteen = no-heading role TEXTS is refl;
        fourteen = no-data-heading role TEXTS is refl;
        fifteen = no_value role TEXTS is refl;
        seventeen = no_value role TEXTS is refl;
      }

  pub clean-heading : is_heading role ≡ true → rule11_heading t fs ≡ [] → rule12_heading t fs ≡ []
      → rule13 s t role fs r ≡ [] → (eqb role DATA-HEADING ≡ true → rule14 s t fs ≡ []) → Clean t s role fs r
  clean-heading h eleven twelve thirteen fourteen =
      let is = heading-kind role h in
      record {
        every = every;
        seven = no_system role HEADING is refl;
        eight = no_system role HEADING is refl;
        nine = no-opening role HEADING is refl;
        ten = no_text role HEADING is refl;
        eleven_text = no_text role HEADING is refl;
        eleven = λ g. eleven;
        twelve = λ g. twelve;
        twelve_unit = no-unit role HEADING is refl;
        thirteen = λ g. thirteen;
        fourteen = fourteen;
        fifteen = no_value role HEADING is refl;
        seventeen = no_value role HEADING is refl;
      }

  pub clean-unit : is_unit role ≡ true → rule12_unit t fs ≡ [] → Clean t s role fs r
  clean-unit h twelve =
      let is = unit-kind role h in
      record {
        every = every;
        seven = no_system role UNIT is refl;
        eight = no_system role UNIT is refl;
        nine = no-opening role UNIT is refl;
        ten = no_text role UNIT is refl;
        eleven_text = no_text role UNIT is refl;
        eleven = no-heading role UNIT is refl;
        twelve = no-heading role UNIT is refl;
        twelve_unit = λ g. twelve;
        thirteen = no-heading role UNIT is refl;
        fourteen = no-data-heading role UNIT is refl;
        fifteen = no_value role UNIT is refl;
        seventeen = no_value role UNIT is refl;
      }

  pub clean-value : is_value role ≡ true → rule15 t role fs ≡ [] → rule17 s t fs ≡ [] → Clean t s role fs r
  clean-value h fifteen seventeen =
      let is = value-kind role h in
      record {
        every = every;
        seven = no_system role VALUE is refl;
        eight = no_system role VALUE is refl;
        nine = no-opening role VALUE is refl;
        ten = no_text role VALUE is refl;
        eleven_text = no_text role VALUE is refl;
        eleven = no-heading role VALUE is refl;
        twelve = no-heading role VALUE is refl;
        twelve_unit = no-unit role VALUE is refl;
        thirteen = no-heading role VALUE is refl;
        fourteen = no-data-heading role VALUE is refl;
        fifteen = λ g. fifteen;
        seventeen = λ g. seventeen;
      }
