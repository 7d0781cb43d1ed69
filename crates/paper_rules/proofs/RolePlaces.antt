-- Where a record with a role stands: a text record in BIB, a heading record in the headings of COMMON or DATA.
-- Assumes nothing.
use Prim.Native.Nat.{ℕ, ◌<◌}
use mathlib.Core.Path.{◌≡◌, refl, sym, ◌∙◌}
use mathlib.Core.Bool.{Bool, true, false, cond}
use native.Mathlib.Omega.{arith}
use borrow.Author.Tests.{ne_eqb}
use lib.Dec.{eqb}
use Rattle.paper_record.specs.Identifier.{ENTRY, SUBENT, NOSUBENT, BIB, NOBIB, ENDBIB, COMMON, NOCOMMON, ENDCOMMON, DATA}
use Rattle.paper_record.specs.Identifier.{NODATA, ENDDATA, ENDSUBENT, ENDENTRY, OTHER, is_end}
use Rattle.paper_rules.specs.declared.types.Phase.{Phase}
use Rattle.paper_rules.specs.declared.types.Phase.TheVariants.{Start, Opened, InSubentry, InBib, AfterBib}
use Rattle.paper_rules.specs.declared.types.Phase.TheVariants.{InCommon}
use Rattle.paper_rules.specs.declared.types.Phase.TheVariants.{AfterCommon, InData, AfterData, Between, Done}
use Rattle.paper_rules.specs.declared.types.Track.{Track}
use Rattle.paper_rules.specs.State.{HEADINGS, UNITS}
use Rattle.paper_rules.specs.Roles.{TEXT, COMMON-HEADING, COMMON-UNIT, COMMON-VALUE, DATA-HEADING, DATA-UNIT}
use Rattle.paper_rules.specs.Roles.{DATA-VALUE, NOT-DUE, is_heading}
use Rattle.paper_rules.specs.Role.{only, either, bib_role, table_role, data_role, all_read, next_role, role_in}
use Rattle.laws.proofs.EitherWay.{either_way, no}

-- inside BIB; inside COMMON or DATA
abbrev pub in_bib : Phase → Bool
in_bib Start = false
in_bib Opened = false
in_bib InSubentry = false
in_bib InBib = true
in_bib AfterBib = false
in_bib InCommon = false
in_bib AfterCommon = false
in_bib InData = false
in_bib AfterData = false
in_bib Between = false
in_bib Done = false

abbrev pub in_table : Phase → Bool
in_table Start = false
in_table Opened = false
in_table InSubentry = false
in_table InBib = false
in_table AfterBib = false
in_table InCommon = true
in_table AfterCommon = false
in_table InData = true
in_table AfterData = false
in_table Between = false
in_table Done = false

-- neither of two: a test that fails on both
neither : (f : ℕ → Bool) (b : Bool) (x y : ℕ) → f x ≡ false → f y ≡ false → f (cond b x y) ≡ false
neither f b x y p q = either_way (λ (k : ℕ). f k ≡ false) b x y p q

-- a kind of record that is no system record, and due
record Inner (f : ℕ → Bool) : Type 0 where
  system : (k : ℕ) → k < OTHER → f k ≡ false
  due : f NOT-DUE ≡ false

only-not : (f : ℕ → Bool) → Inner f → (a k : ℕ) → a < OTHER → f (only a k) ≡ false
only-not f o a k h = neither f (eqb k a) a NOT-DUE (o.system a h) o.due

either-not : (f : ℕ → Bool) → Inner f → (a b k : ℕ) → a < OTHER → b < OTHER → f (either a b k) ≡ false
either-not f o a b k h i = neither f (eqb k a) a (only b k) (o.system a h) (only-not f o b k i)

data-not : (f : ℕ → Bool) → Inner f → (t : Track) (k : ℕ) → f (data_role t k) ≡ false
unfolding data_role
data-not f o t k =
    neither f (eqb t.subentry.number 1) (only ENDSUBENT k) (either DATA NODATA k)
    (only-not f o ENDSUBENT k (omega arith))
    (either-not f o DATA NODATA k (omega arith) (omega arith))

next-not : (f : ℕ → Bool) → Inner f → (k : ℕ) → f (next_role k) ≡ false
next-not f o k =
    neither f (eqb k SUBENT) SUBENT (either NOSUBENT ENDENTRY k) (o.system SUBENT (omega arith))
    (either-not f o NOSUBENT ENDENTRY k (omega arith) (omega arith))

abbrev pub is_text : ℕ → Bool
is_text k = eqb k TEXT

text-inner : Inner is_text
text-inner = record { system = λ k h. ne_eqb k TEXT (λ e. omega arith); due = refl }

heading-inner : Inner is_heading
heading-inner =
    record {
      system = λ k h. rw (ne_eqb k COMMON-HEADING (λ e. omega arith), ne_eqb k DATA-HEADING (λ e. omega arith));
      due = refl;
    }

-- a text record stands in BIB
pub text_in-bib : (p : Phase) (t : Track) (k : ℕ) → is_text (role_in p t k) ≡ true → in_bib p ≡ true
unfolding role_in table_role
text_in-bib Start t k e = no (sym (only-not is_text text-inner ENTRY k (omega arith)) ∙ e)
text_in-bib Opened t k e = no (sym (only-not is_text text-inner SUBENT k (omega arith)) ∙ e)
text_in-bib InSubentry t k e = no (sym (either-not is_text text-inner BIB NOBIB k (omega arith) (omega arith)) ∙ e)
text_in-bib InBib t k e = refl
text_in-bib AfterBib t k e = no (sym (either-not is_text text-inner COMMON NOCOMMON k (omega arith) (omega arith)) ∙ e)
text_in-bib InCommon t k e =
    no (sym (neither is_text (all_read t) _ _ (only-not is_text text-inner ENDCOMMON k (omega arith))
    (neither is_text (is_end k) _ _ refl
    (neither is_text (eqb t.table.row HEADINGS) _ _ refl
    (neither is_text (eqb t.table.row UNITS) _ _ refl refl)))) ∙ e)
text_in-bib AfterCommon t k e = no (sym (data-not is_text text-inner t k) ∙ e)
text_in-bib InData t k e =
    no (sym (neither is_text (all_read t) _ _ (only-not is_text text-inner ENDDATA k (omega arith))
    (neither is_text (is_end k) _ _ refl
    (neither is_text (eqb t.table.row HEADINGS) _ _ refl
    (neither is_text (eqb t.table.row UNITS) _ _ refl refl)))) ∙ e)
text_in-bib AfterData t k e = no (sym (only-not is_text text-inner ENDSUBENT k (omega arith)) ∙ e)
text_in-bib Between t k e = no (sym (next-not is_text text-inner k) ∙ e)
text_in-bib Done t k e = no e

-- a heading record stands in a table, in the row of headings
pub record Heading (p : Phase) (t : Track) : Type 0 where
  pub table : in_table p ≡ true
  pub row : eqb t.table.row HEADINGS ≡ true

heading-row : (end heading unit value : ℕ) → end < OTHER → is_heading unit ≡ false → is_heading value ≡ false
    → (t : Track) (k : ℕ) → is_heading (table_role end heading unit value t k) ≡ true
    → eqb t.table.row HEADINGS ≡ true
unfolding table_role
heading-row end heading unit value s u v t k e = by_row (eqb t.table.row HEADINGS) e
  where
    by_row : (b : Bool)
        → is_heading
        (cond (all_read t) (only end k)
        (cond (is_end k) NOT-DUE (cond b heading (cond (eqb t.table.row UNITS) unit value)))) ≡ true
        → b ≡ true
    by_row true h = refl
    by_row false h =
        no (sym (neither is_heading (all_read t) _ _ (only-not is_heading heading-inner end k s)
        (neither is_heading (is_end k) _ _ refl (neither is_heading (eqb t.table.row UNITS) _ _ u v))) ∙ h)

pub heading-in-table : (p : Phase) (t : Track) (k : ℕ) → is_heading (role_in p t k) ≡ true → Heading p t
unfolding role_in bib_role
heading-in-table Start t k e = no (sym (only-not is_heading heading-inner ENTRY k (omega arith)) ∙ e)
heading-in-table Opened t k e = no (sym (only-not is_heading heading-inner SUBENT k (omega arith)) ∙ e)
heading-in-table InSubentry t k e = no
    (sym (either-not is_heading heading-inner BIB NOBIB k (omega arith) (omega arith)) ∙ e)
heading-in-table InBib t k e =
    no (sym (neither is_heading (eqb t.section t.bib.records) _ _
    (only-not is_heading heading-inner ENDBIB k (omega arith))
    (neither is_heading (eqb k OTHER) _ _ refl refl)) ∙ e)
heading-in-table AfterBib t k e = no
    (sym (either-not is_heading heading-inner COMMON NOCOMMON k (omega arith) (omega arith)) ∙ e)
heading-in-table InCommon t k e =
    record {
      table = refl;
      row = heading-row ENDCOMMON COMMON-HEADING COMMON-UNIT COMMON-VALUE (omega arith) refl refl
          t k e;
    }
heading-in-table AfterCommon t k e = no (sym (data-not is_heading heading-inner t k) ∙ e)
heading-in-table InData t k e =
    record { table = refl; row = heading-row ENDDATA DATA-HEADING DATA-UNIT DATA-VALUE (omega arith) refl refl t k e }
heading-in-table AfterData t k e = no (sym (only-not is_heading heading-inner ENDSUBENT k (omega arith)) ∙ e)
heading-in-table Between t k e = no (sym (next-not is_heading heading-inner k) ∙ e)
heading-in-table Done t k e = no e
