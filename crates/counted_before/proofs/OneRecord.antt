-- What one record changes of what is counted: of the subentry, of the section, of the keywords of BIB.
-- Assumes nothing.
use Prim.Native.Nat.{ℕ, ◌+◌}
use mathlib.Core.Path.{◌≡◌, refl, sym, ◌∙◌}
use mathlib.Core.Bool.{Bool, true, false, cond, not, ◌&&◌}
use mathlib.Core.List.{List, []}
use native.Mathlib.Omega.{arith}
use borrow.Author.Tests.{eqb-true}
use lib.Dec.{eqb}
use lib.ListN.{get_or}
use Rattle.laws.proofs.Booleans.{or-either, or_left, or_right, either-as}
use Rattle.paper_record.specs.Fields.{n1}
use Rattle.paper_record.specs.Identifier.{ENTRY, SUBENT, NOSUBENT, BIB, COMMON, DATA}
use Rattle.paper_record.specs.System.{subentry_of}
use Rattle.paper_record.specs.Word.{blank_to}
use Rattle.paper_rules.specs.declared.types.Track.{Track}
use Rattle.paper_rules.specs.State.{with_totals, with_bib, counted}
use Rattle.paper_rules.specs.Roles.{TEXT, is_system, opens_subentry, opens_section, is_heading, is_unit, is_value}
use Rattle.paper_rules.specs.Counts.{count_n1}
use Rattle.laws.proofs.EitherWay.{either_way, no}
use Rattle.paper_entry.specs.Counted.{track_after, after_system, after_inside}
use Rattle.paper_entry.specs.Tally.{one_keyword, one_met, text_read}
use Rattle.counted_before.specs.Before.{is_bib}

-- ---- t stands before the record, x behind it

pub record NewSubentry (t x : Track) (n : ℕ) : Type 0 where
  pub number : x.subentry.number ≡ n
  pub records : x.subentry.records ≡ 0
  pub total : x.totals.subentries ≡ t.totals.subentries + 1

pub record SameSubentry (t x : Track) : Type 0 where
  pub number : x.subentry.number ≡ t.subentry.number
  pub records : x.subentry.records ≡ t.subentry.records + 1
  pub total : x.totals.subentries ≡ t.totals.subentries

pub record NewBib (x : Track) (n : ℕ) : Type 0 where
  pub keywords : x.bib.keywords ≡ n
  pub met : x.bib.met ≡ 0

record SameBib (t x : Track) : Type 0 where
  keywords : x.bib.keywords ≡ t.bib.keywords
  met : x.bib.met ≡ t.bib.met

-- a text record, with a keyword or without
record TextRead (t : Track) (blank : Bool) (x : Track) : Type 0 where
  keywords : x.bib.keywords ≡ t.bib.keywords
  met : x.bib.met ≡ cond (not blank) (t.bib.met + 1) t.bib.met

text-read : (t : Track) (blank : Bool)
    → TextRead t blank
    (cond blank (counted t)
    (with_bib (with_totals (counted t) (one_keyword (counted t).totals)) (one_met (counted t).bib)))
text-read t true = record { keywords = refl; met = refl }
text-read t false = record { keywords = refl; met = refl }

module _ (t : Track) (role : ℕ) (fs : List (List ℕ)) (r : List ℕ) where
  abbrev after : Track
  after = track_after t role fs r

  -- ---- subentries

  pub subentry-new : opens_subentry role ≡ true → NewSubentry t after (subentry_of (n1 fs))
  unfolding track_after after_system
  subentry-new e =
      or-either (eqb role SUBENT) _ e
      (λ q. rw (eqb-true role SUBENT q) (record { number = refl; records = refl; total = refl }))
      (λ q. rw (eqb-true role NOSUBENT q) (record { number = refl; records = refl; total = refl }))

  pub subentry-same : opens_subentry role ≡ false → SameSubentry t after
  unfolding track_after after_system after_inside text_read
  subentry-same e =
      either_way P (is_system role) _ _
      (either_way P (eqb role ENTRY) _ _ (omega arith)
      (either-as P (opens_subentry role) _ _ (λ q. no (sym e ∙ q))
      (λ q. either_way P (eqb role BIB) _ _ (omega arith)
      (either_way P (eqb role COMMON) _ _ (omega arith)
      (either_way P (eqb role DATA) _ _ (omega arith) (omega arith))))))
      (either_way P (eqb role TEXT) _ _ (either_way P (blank_to 10 (get_or fs 0 [])) _ _ (omega arith) (omega arith))
      (either_way P (is_heading role) _ _ (omega arith)
      (either_way P (is_unit role) _ _ (omega arith)
      (either_way P (is_value role) _ _ (omega arith) (omega arith)))))
    where
      P : Track → Type 0
      P x = SameSubentry t x

  -- ---- sections

  pub section-new : opens_section role ≡ true → after.section ≡ 0
  unfolding track_after after_system
  section-new e =
      or-either (eqb role BIB) _ e (λ q. rw (eqb-true role BIB q) refl)
      (λ q. or-either (eqb role COMMON) _ q (λ q. rw (eqb-true role COMMON q) refl)
      (λ q. rw (eqb-true role DATA q) refl))

  pub section-same : opens_section role ≡ false → after.section ≡ t.section + 1
  unfolding track_after after_system after_inside text_read
  section-same e =
      let f = or_right (eqb role BIB) _ e in
      either_way P (is_system role) _ _
      (either_way P (eqb role ENTRY) _ _ refl
      (either_way P (opens_subentry role) _ _ refl
      (either-as P (eqb role BIB) _ _ (λ q. no (sym (or_left (eqb role BIB) _ e) ∙ q))
      (λ q. either-as P (eqb role COMMON) _ _ (λ q. no (sym (or_left (eqb role COMMON) _ f) ∙ q))
      (λ q. either-as P (eqb role DATA) _ _ (λ q. no (sym (or_right (eqb role COMMON) _ f) ∙ q)) (λ q. refl))))))
      (either_way P (eqb role TEXT) _ _ (either_way P (blank_to 10 (get_or fs 0 [])) _ _ refl refl)
      (either_way P (is_heading role) _ _ refl
      (either_way P (is_unit role) _ _ refl (either_way P (is_value role) _ _ refl refl))))
    where
      P : Track → Type 0
      P x = x.section ≡ t.section + 1

  -- ---- keywords

  pub bib-new : is_bib role ≡ true → NewBib after (count_n1 fs)
  unfolding track_after after_system
  bib-new e = rw (eqb-true role BIB e) (record { keywords = refl; met = refl })

  bib-same : is_bib role ≡ false → eqb role TEXT ≡ false → SameBib t after
  unfolding track_after after_system after_inside text_read
  bib-same e f =
      either_way P (is_system role) _ _
      (either_way P (eqb role ENTRY) _ _ (omega arith)
      (either_way P (opens_subentry role) _ _ (omega arith)
      (either-as P (eqb role BIB) _ _ (λ q. no (sym e ∙ q))
      (λ q. either_way P (eqb role COMMON) _ _ (omega arith)
      (either_way P (eqb role DATA) _ _ (omega arith) (omega arith))))))
      (either-as P (eqb role TEXT) _ _ (λ q. no (sym f ∙ q))
      (λ q. either_way P (is_heading role) _ _ (omega arith)
      (either_way P (is_unit role) _ _ (omega arith)
      (either_way P (is_value role) _ _ (omega arith) (omega arith)))))
    where
      P : Track → Type 0
      P x = SameBib t x

  bib-text : eqb role TEXT ≡ true → TextRead t (blank_to 10 (get_or fs 0 [])) after
  unfolding track_after after_inside text_read
  bib-text e = rw (eqb-true role TEXT e) (text-read t (blank_to 10 (get_or fs 0 [])))

  pub keywords-next : is_bib role ≡ false → after.bib.keywords ≡ t.bib.keywords
  keywords-next e = by-test (eqb role TEXT) refl
    where
      by-test : (b : Bool) → eqb role TEXT ≡ b → after.bib.keywords ≡ t.bib.keywords
      by-test true q = (bib-text q).keywords
      by-test false q = (bib-same e q).keywords

  pub met_next : is_bib role ≡ false
      → after.bib.met
      ≡ cond (eqb role TEXT && not (blank_to 10 (get_or fs 0 []))) (t.bib.met + 1) t.bib.met
  met_next e = by-test (eqb role TEXT) refl
    where
      by-test : (b : Bool) → eqb role TEXT ≡ b
          → after.bib.met ≡ cond (b && not (blank_to 10 (get_or fs 0 []))) (t.bib.met + 1) t.bib.met
      by-test true q = (bib-text q).met
      by-test false q = (bib-same e q).met
