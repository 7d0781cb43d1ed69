-- ENTRY, SUBENT and NOSUBENT, ENDSUBENT and ENDENTRY: their rules, and the contexts behind them. Assumes nothing.
use Prim.Native.Nat.{ℕ, ◌+◌, ◌<◌, ◌≤◌}
use mathlib.Core.Path.{◌≡◌, refl, sym, ◌∙◌, ap}
use mathlib.Core.Bool.{Bool, true, false, cond, not, ◌&&◌}
use mathlib.Core.List.{List, []}
use native.Mathlib.Omega.{arith}
use lib.Dec.{eqb, ltb, leb}
use borrow.Author.Tests.{not-false, eqb-true, eq-eqb, ne_eqb, ltb-true, lt-ltb, leb-true, le-leb}
use Rattle.laws.proofs.Booleans.{differ, and_left, and_right, and_both}
use Rattle.paper_record.specs.Fields.{fields_of, n1, n2}
use Rattle.paper_record.specs.Word.{equal_to}
use Rattle.paper_record.specs.Identifier.{ENTRY, SUBENT, NOSUBENT, ENDSUBENT, ENDENTRY}
use Rattle.paper_record.proofs.NameTable.{end-letters}
use Rattle.paper_record.specs.System.{is_subent_n1, is_date}
use Rattle.paper_record.specs.Expected.{accession_of, identification_for, subent_accession, subent_identification}
use Rattle.paper_record.proofs.PlainColumns.{equal-exactly}
use Rattle.paper_record.proofs.PlainDigits.{date-exactly, entry-exactly, subent-exactly}
use Rattle.paper_rules.specs.declared.types.Phase.{Phase}
use Rattle.paper_rules.specs.declared.types.Phase.TheVariants.{Opened, InSubentry, Between, Done}
use Rattle.paper_rules.specs.State.{Context, start_context}
use Rattle.paper_rules.specs.Limits.{LAST-SUBENTRY}
use Rattle.paper_rules.specs.Every.{expected_identification, expected_sequence}
use Rattle.paper_rules.specs.System.{form_n1, form_n2, in_form, number_due, rule9}
use Rattle.paper_rules.specs.Counts.{rule8, true_count}
use Rattle.paper_entry.specs.Next.{context_after}
use Rattle.paper_entry.specs.Due.{phase_after}
use Rattle.paper_entry.specs.Counted.{track_after, after_system}
use Rattle.paper_entry.specs.Parts.{seen_after, part_after, bib_change}
use Rattle.paper_faults.proofs.NoColumns.{when-none, none-when}
use Rattle.good.specs.Parts.{Record}
use Rattle.good.specs.Marks.{Marked, name_of, CountIs}
use Rattle.good.specs.Subentries.{OpensSubentry, own_number}
use Rattle.good.specs.Good.{GoodOpening, GoodEnding}
use Rattle.good.proofs.Steps.{Takes, next, takes-marked}
use Rattle.good.proofs.Marks.{says-as}
use Rattle.good.proofs.Systems.{takes-rules, rules-takes, takes-end, end-takes}
use Rattle.good.proofs.SystemRoles.{end-SUBENT, end-ENTRY}

-- ---- SUBENT, and NOSUBENT where the Boolean is true

abbrev pub name_for : Bool → ℕ
name_for false = SUBENT
name_for true = NOSUBENT

abbrev Due : Context → Record → Bool
Due c r = equal_to 5 (subent_accession (n1 (fields_of r))) c.track.accession && number_due c.track (own_number r)

opening-rules : (b : Bool) (c : Context) (r : Record) → Takes c (name_for b) r
    → (is_subent_n1 (n1 (fields_of r)) ≡ true) × (is_date (n2 (fields_of r)) ≡ true) × (Due c r ≡ true)
unfolding form_n1 form_n2 in_form rule9 own_number
opening-rules false c r t =
    let x = takes-rules c SUBENT r refl t in
    (x.form1, x.form2, not-false (Due c r) (when-none (not (Due c r)) 12 (x.rule-9 refl)))
opening-rules true c r t =
    let x = takes-rules c NOSUBENT r refl t in
    (x.form1, x.form2, not-false (Due c r) (when-none (not (Due c r)) 12 (x.rule-9 refl)))

pub opening-marked : (b : Bool) (c : Context) (r : Record) → Takes c (name_for b) r
    → Marked (subent_identification (n1 (fields_of r))) 1 r
unfolding expected_identification expected_sequence
opening-marked false c r t = takes-marked c SUBENT r t
opening-marked true c r t = takes-marked c NOSUBENT r t

rules-opening : (b : Bool) (c : Context) (r : Record) → Marked (subent_identification (n1 (fields_of r))) 1 r
    → is_subent_n1 (n1 (fields_of r)) ≡ true → is_date (n2 (fields_of r)) ≡ true → Due c r ≡ true → Takes c (name_for b) r
unfolding form_n1 form_n2 in_form rule8 rule9 own_number expected_identification expected_sequence
rules-opening false c r m p q d =
    rules-takes c SUBENT r refl m
    (record { form1 = p; form2 = q; rule-8 = rw (end-letters SUBENT); rule-9 = λ h. none-when (not (Due c r)) 12 (ap not d) })
rules-opening true c r m p q d =
    rules-takes c NOSUBENT r refl m
    (record { form1 = p; form2 = q; rule-8 = rw (end-letters NOSUBENT); rule-9 = λ h. none-when (not (Due c r)) 12 (ap not d) })

pub takes-opens : (b : Bool) (c : Context) (r : Record) (accession : List ℕ) → c.track.accession ≡ accession
    → name_of r ≡ name_for b → Takes c (name_for b) r
    → OpensSubentry (name_for b) accession r × (number_due c.track (own_number r) ≡ true)
unfolding own_number
takes-opens b c r accession e named t =
    let x = opening-rules b c r t in
    let a = and_left (equal_to 5 (subent_accession (n1 (fields_of r))) c.track.accession)
    (number_due c.track (own_number r)) x.2 in
    let n = and_right (equal_to 5 (subent_accession (n1 (fields_of r))) c.track.accession)
    (number_due c.track (own_number r)) x.2 in (
      record {
        named = named;
        numbered = (subent-exactly (n1 (fields_of r)) (own_number r)).0 (x.0, refl);
        dated = (date-exactly (n2 (fields_of r))).0 x.1;
        same = (equal-exactly 5 (subent_accession (n1 (fields_of r))) accession).0
            (ap (equal_to 5 (subent_accession (n1 (fields_of r)))) (sym e) ∙ a);
        marked = opening-marked b c r t;
      },
      n,
    )

pub opens-takes : (b : Bool) (c : Context) (r : Record) (accession : List ℕ) → c.track.accession ≡ accession
    → OpensSubentry (name_for b) accession r → number_due c.track (own_number r) ≡ true → Takes c (name_for b) r
opens-takes b c r accession e o n =
    rules-opening b c r o.marked ((subent-exactly (n1 (fields_of r)) (own_number r)).1 o.numbered).0
    ((date-exactly (n2 (fields_of r))).1 o.dated)
    (and_both (ap (equal_to 5 (subent_accession (n1 (fields_of r)))) e
    ∙ (equal-exactly 5 (subent_accession (n1 (fields_of r))) accession).1 o.same) n)

-- the first number is 1; a later one is above the one before, and at most 998
pub first-number : (c : Context) (n : ℕ) → c.track.totals.subentries ≡ 0 → number_due c.track n ≡ true → n ≡ 1
first-number c n z e = eqb-true n 1 (rw z at e)

pub number-first : (c : Context) (n : ℕ) → c.track.totals.subentries ≡ 0 → n ≡ 1 → number_due c.track n ≡ true
number-first c n z e = rw z (eq-eqb n 1 e)

pub later-number : (c : Context) (n : ℕ) → 1 ≤ c.track.totals.subentries → number_due c.track n ≡ true
    → (c.track.subentry.number < n) × (n ≤ LAST-SUBENTRY)
later-number c n l e =
    let h : (ltb c.track.subentry.number n && leb n LAST-SUBENTRY) ≡ true =
    rw (ne_eqb c.track.totals.subentries 0 (λ z. omega arith)) at e in (
      ltb-true c.track.subentry.number n (and_left (ltb c.track.subentry.number n) (leb n LAST-SUBENTRY) h),
      leb-true n LAST-SUBENTRY (and_right (ltb c.track.subentry.number n) (leb n LAST-SUBENTRY) h),
    )

pub number-later : (c : Context) (n : ℕ) → 1 ≤ c.track.totals.subentries → c.track.subentry.number < n
    → n ≤ LAST-SUBENTRY → number_due c.track n ≡ true
number-later c n l p q =
    rw (ne_eqb c.track.totals.subentries 0 (λ z. omega arith))
    (rw (lt-ltb c.track.subentry.number n p, le-leb n LAST-SUBENTRY q))

abbrev phase_opened : Bool → Phase
phase_opened false = InSubentry
phase_opened true = Between

pub record SubentryOpened (c e : Context) (b : Bool) (r : Record) : Type 0 where
  pub phase : e.phase ≡ phase_opened b
  pub accession : e.track.accession ≡ c.track.accession
  pub number : e.track.subentry.number ≡ own_number r
  pub records : e.track.subentry.records ≡ 0
  pub subentries : e.track.totals.subentries ≡ c.track.totals.subentries + 1
  pub keywords : e.track.totals.keywords ≡ c.track.totals.keywords
  pub lines : e.track.totals.lines ≡ c.track.totals.lines
  pub numbers : e.track.totals.numbers ≡ c.track.totals.numbers
  pub bib : e.seen.bib ≡ []
  pub common : e.seen.common ≡ []
  pub bib001 : e.seen.bib001 ≡ c.seen.bib001
  pub common001 : e.seen.common001 ≡ c.seen.common001

pub after-opening : (b : Bool) (c : Context) (r : Record) → SubentryOpened c (next c (name_for b) r) b r
unfolding context_after phase_after track_after after_system seen_after part_after bib_change own_number
after-opening false c r =
    record {
      phase = refl;
      accession = refl;
      number = refl;
      records = refl;
      subentries = refl;
      keywords = refl;
      lines = refl;
      numbers = refl;
      bib = refl;
      common = refl;
      bib001 = refl;
      common001 = refl;
    }
after-opening true c r =
    record {
      phase = refl;
      accession = refl;
      number = refl;
      records = refl;
      subentries = refl;
      keywords = refl;
      lines = refl;
      numbers = refl;
      bib = refl;
      common = refl;
      bib001 = refl;
      common001 = refl;
    }

-- ---- ENDSUBENT

abbrev pub AtEnd : Context → Record → Type 0
AtEnd c r = Marked (identification_for c.track.accession c.track.subentry.number) 99999 r

pub takes-endsubent : (c : Context) (r : Record) → Takes c ENDSUBENT r
    → AtEnd c r × CountIs (n1 (fields_of r)) c.track.subentry.records
unfolding expected_identification expected_sequence true_count
takes-endsubent c r t = (takes-marked c ENDSUBENT r t, (takes-end c ENDSUBENT r end-SUBENT t).0)

pub endsubent-takes : (c : Context) (r : Record) → AtEnd c r → CountIs (n1 (fields_of r)) c.track.subentry.records
    → Takes c ENDSUBENT r
unfolding expected_identification expected_sequence true_count
endsubent-takes c r m s = end-takes c ENDSUBENT r end-SUBENT m s refl

pub record SubentryClosed (c e : Context) : Type 0 where
  pub phase : e.phase ≡ Between
  pub accession : e.track.accession ≡ c.track.accession
  pub number : e.track.subentry.number ≡ c.track.subentry.number
  pub subentries : e.track.totals.subentries ≡ c.track.totals.subentries
  pub keywords : e.track.totals.keywords ≡ c.track.totals.keywords
  pub lines : e.track.totals.lines ≡ c.track.totals.lines
  pub numbers : e.track.totals.numbers ≡ c.track.totals.numbers
  pub bib001 : e.seen.bib001 ≡ cond (eqb c.track.subentry.number 1) c.seen.bib c.seen.bib001
  pub common001 : e.seen.common001 ≡ cond (eqb c.track.subentry.number 1) c.seen.common c.seen.common001

pub after-endsubent : (c : Context) (r : Record) → SubentryClosed c (next c ENDSUBENT r)
unfolding context_after phase_after track_after after_system seen_after
after-endsubent c r =
    record {
      phase = refl;
      accession = refl;
      number = refl;
      subentries = refl;
      keywords = refl;
      lines = refl;
      numbers = refl;
      bib001 = refl;
      common001 = refl;
    }

-- ---- ENTRY and ENDENTRY

pub takes-entry : (c : Context) (r : Record) → name_of r ≡ ENTRY → Takes c ENTRY r → GoodOpening r
unfolding form_n1 form_n2 in_form expected_identification expected_sequence
takes-entry c r named t =
    let x = takes-rules c ENTRY r refl t in
    record {
      named = named;
      numbered = (entry-exactly (n1 (fields_of r))).0 x.form1;
      dated = (date-exactly (n2 (fields_of r))).0 x.form2;
      marked = takes-marked c ENTRY r t;
    }

pub entry-takes : (c : Context) (r : Record) → GoodOpening r → Takes c ENTRY r
unfolding form_n1 form_n2 in_form rule8 expected_identification expected_sequence
entry-takes c r g =
    rules-takes c ENTRY r refl g.marked
    (record {
      form1 = (entry-exactly (n1 (fields_of r))).1 g.numbered;
      form2 = (date-exactly (n2 (fields_of r))).1 g.dated;
      rule-8 = rw (end-letters ENTRY);
      rule-9 = λ h. differ (sym h);
    })

pub record EntryOpened (e : Context) (r : Record) : Type 0 where
  pub phase : e.phase ≡ Opened
  pub accession : e.track.accession ≡ accession_of r
  pub subentries : e.track.totals.subentries ≡ 0
  pub keywords : e.track.totals.keywords ≡ 0
  pub lines : e.track.totals.lines ≡ 0
  pub numbers : e.track.totals.numbers ≡ 0
  pub bib001 : e.seen.bib001 ≡ []
  pub common001 : e.seen.common001 ≡ []

pub after-entry : (r : Record) → EntryOpened (next start_context ENTRY r) r
unfolding context_after phase_after track_after after_system seen_after
after-entry r =
    record {
      phase = refl;
      accession = refl;
      subentries = refl;
      keywords = refl;
      lines = refl;
      numbers = refl;
      bib001 = refl;
      common001 = refl;
    }

pub takes-endentry : (c : Context) (r : Record) (accession : List ℕ) (n : ℕ) → c.track.accession ≡ accession
    → c.track.totals.subentries ≡ n → name_of r ≡ ENDENTRY → Takes c ENDENTRY r → GoodEnding accession n r
unfolding expected_identification expected_sequence true_count
takes-endentry c r accession n e q named t =
    record {
      named = named;
      counted = says-as (n1 (fields_of r)) c.track.totals.subentries n (takes-end c ENDENTRY r end-ENTRY t).0 q;
      marked = rw e at (takes-marked c ENDENTRY r t);
    }

pub endentry-takes : (c : Context) (r : Record) (accession : List ℕ) (n : ℕ) → c.track.accession ≡ accession
    → c.track.totals.subentries ≡ n → GoodEnding accession n r → Takes c ENDENTRY r
unfolding expected_identification expected_sequence true_count
endentry-takes c r accession n e q g =
    end-takes c ENDENTRY r end-ENTRY (rw e g.marked)
    (says-as (n1 (fields_of r)) n c.track.totals.subentries g.counted (sym q)) refl

pub record EntryClosed (c e : Context) : Type 0 where
  pub phase : e.phase ≡ Done
  pub totals : e.track.totals ≡ c.track.totals

pub after-endentry : (c : Context) (r : Record) → EntryClosed c (next c ENDENTRY r)
unfolding context_after phase_after track_after after_system
after-endentry c r = record { phase = refl; totals = refl }
