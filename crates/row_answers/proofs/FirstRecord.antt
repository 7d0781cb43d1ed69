-- The first record that a row of an accepted entry names: it is SUBENT or NOSUBENT with the row's number, so reading it
-- meets no 39.
-- Assumes nothing.
use Prim.Native.Nat.{ℕ, zero, suc, ◌+◌, ◌-◌, ◌/◌, ◌<◌, ◌≤◌}
use mathlib.Core.Path.{◌≡◌, refl, sym, ap, ◌∙◌}
use mathlib.Core.Bool.{Bool, true, false, cond, not, ◌&&◌}
use mathlib.Core.List.{List, []}
use native.Mathlib.Omega.{arith}
use lib.Dec.{eqb, ltb, leb}
use lib.ListN.{length, replicate}
use borrow.Author.Tests.{eqb-true, eqb-false, eq-eqb, ltb-true, le-leb, not-false}
use Rattle.laws.specs.Blocks.{block_at}
use Rattle.laws.specs.Search.{first}
use Rattle.laws.proofs.Booleans.{differ, and_left, and_right, and_both, or-either}
use Rattle.paper_record.specs.Text.{within}
use Rattle.paper_record.specs.Word.{equal_to}
use Rattle.paper_record.specs.Fields.{fields_of, n1}
use Rattle.paper_record.specs.Identifier.{SUBENT, NOSUBENT, is_name, identifier_of}
use Rattle.paper_record.specs.System.{is_subent_n1, subentry_of}
use Rattle.paper_rules.specs.declared.types.Track.{Track}
use Rattle.paper_rules.specs.State.{Context}
use Rattle.paper_rules.specs.Limits.{LAST-SUBENTRY}
use Rattle.paper_rules.specs.Roles.{opens_subentry}
use Rattle.paper_rules.specs.System.{form_n1, in_form, rule7, number_due}
use Rattle.paper_faults.proofs.NoColumns.{when-none, append-none}
use Rattle.paper_rules.proofs.DueRecords.{fine-number}
use Rattle.paper_rules.proofs.Clean.{clean-fine}
use Rattle.paper_entry.specs.Judging.{Accepted}
use Rattle.paper_entry.specs.Contexts.{context_at, role_at}
use Rattle.entry_walk.proofs.Contexts.{records-at}
use Rattle.paper_questions.specs.declared.types.Row.{Row}
use Rattle.paper_questions.specs.Located.{noted_as, row_at, row_of}
use Rattle.paper_questions.specs.Place.{fields_at, identifier_at}
use Rattle.paper_questions.specs.Refused.{is_subent}
use Rattle.paper_questions.proofs.RowChanges.{first-stays, first-set}
use Rattle.paper_questions.proofs.FoundRow.{found-row}
use Rattle.inside.proofs.RowWalked.{number-of, row_next}
use Rattle.paper_index.specs.Reads.{is_nosubent, has_number, good_first}
use Rattle.row_answers.proofs.ReadRecords.{record-clean, in_entry_lem, fields-there, identifier-there}

-- ---- the record that opens a subentry

-- the record with the index a is SUBENT or NOSUBENT, with this number
pub record Begins (s : List ℕ) (n a : ℕ) : Type 0 where
  pub there : a < length s / 81
  pub role : opens_subentry (role_at s a) ≡ true
  pub number : subentry_of (n1 (fields_of (block_at 81 s a))) ≡ n

module _ (s : List ℕ) (n : ℕ) where
  -- it is none, or opens that subentry
  abbrev Named : ℕ → Type 0
  Named at = (at ≡ 0 → ⊥) → Begins s n (at - 1)

  named-next : (i : ℕ) → i < length s / 81 → Named (row_at s n i).first.0 → Named (row_at s n (suc i)).first.0
  named-next i h before =
      rw (row_next s n i)
      (by_tests (opens_subentry (role_at s i)) refl (eqb (subentry_of (n1 (fields_of (block_at 81 s i)))) n) refl)
    where
      c : Context
      c = context_at s i

      fs : List (List ℕ)
      fs = fields_of (block_at 81 s i)

      x : Row
      x = row_at s n i

      y : Row
      y = noted_as c.track (role_at s i) fs x

      stays : (opens_subentry (role_at s i) ≡ true → subentry_of (n1 fs) ≡ x.number → ⊥) → Named y.first.0
      stays other = rw (first-stays c.track (role_at s i) fs x other) before

      by_tests : (p : Bool) → opens_subentry (role_at s i) ≡ p → (q : Bool) → eqb (subentry_of (n1 fs)) n ≡ q
          → Named y.first.0
      by_tests false p q u = stays (λ e z. differ (sym e ∙ p))
      by_tests true p false u = stays (λ e z. eqb-false (subentry_of (n1 fs)) n u (z ∙ number-of s n i))
      by_tests true p true u =
          let m = eqb-true (subentry_of (n1 fs)) n u in
          let at = first-set c.track (role_at s i) fs x p (m ∙ sym (number-of s n i)) in
          let z : c.track.records.0 + 1 - 1 ≡ i = omega (arith, records-at s i) in
          rw at (λ some. rw z (record { there = h; role = p; number = m }))

  none_yet : Named (row_at s n 0).first.0
  unfolding row_at
  none_yet = λ some. absurd (some refl)

  named-at : (i : ℕ) → i ≤ length s / 81 → Named (row_at s n i).first.0
  named-at zero h = none_yet
  named-at (suc i) h = named-next i (omega arith) (named-at i (omega arith))

  pub row-begins : Accepted s → ((row_of s n).first.0 ≡ 0 → ⊥) → Begins s n ((row_of s n).first.0 - 1)
  row-begins accepted = rw (found-row s n accepted) (named-at (length s / 81) (omega arith))

  pub row_number : Accepted s → (row_of s n).number ≡ n
  row_number accepted = ap (λ (x : Row). x.number) (found-row s n accepted) ∙ number-of s n (length s / 81)

-- ---- a row without first record

none_named : eqb (identifier_of (replicate 11 32)) SUBENT ≡ false
unfolding identifier_of first equal_to is_name
none_named = refl

pub none-there : (s : List ℕ) (x : Row) → x.first.0 ≡ 0 → is_subent s x ≡ false
unfolding fields_at
none-there s x e = rw e none_named

-- ---- reading it

past : (a b : Bool) → a ≡ true → (a && b) ≡ b
past a b e = rw e

pair : {a b c d : Bool} → a ≡ c → b ≡ d → (a && b) ≡ (c && d)
pair p q = rw (p, q)

-- 7: N1 of SUBENT is in its form
subent-form : (fs : List (List ℕ)) → rule7 SUBENT fs ≡ [] → is_subent_n1 (n1 fs) ≡ true
unfolding rule7 form_n1 in_form
subent-form fs e = not-false (is_subent_n1 (n1 fs)) (when-none (not (is_subent_n1 (n1 fs))) 12 (append-none _ _ e).0)

-- 9: a number that is due is 1 to 998
due-within : (t : Track) (number : ℕ) → number_due t number ≡ true → within 1 LAST-SUBENTRY number ≡ true
due-within t number h = by-test (eqb t.totals.subentries 0) h
  where
    by-test : (a : Bool)
        → cond a (eqb number 1) (ltb t.subentry.number number && leb number LAST-SUBENTRY) ≡ true
        → within 1 LAST-SUBENTRY number ≡ true
    by-test true h = let e = eqb-true number 1 h in rw e
    by-test false h =
        let above : t.subentry.number < number =
        ltb-true t.subentry.number number
        (and_left (ltb t.subentry.number number) (leb number LAST-SUBENTRY) h) in
        and_both (le-leb 1 number (omega arith))
        (and_right (ltb t.subentry.number number) (leb number LAST-SUBENTRY) h)

-- neither read is a refusal but 32 for NOSUBENT
pub record FirstRead (s : List ℕ) (x : Row) : Type 0 where
  pub nosubent : is_nosubent s x ≡ not (is_subent s x)
  pub good : good_first s x ≡ is_subent s x

module _ (s : List ℕ) (accepted : Accepted s) (n : ℕ) (some : (row_of s n).first.0 ≡ 0 → ⊥) where
  abbrev x : Row
  x = row_of s n

  abbrev a : ℕ
  a = x.first.0 - 1

  begins : Begins s n a
  begins = row-begins s n accepted some

  at-is : x.first.0 ≡ suc a
  at-is = omega (arith, some)

  number-good : has_number (n1 (fields_of (block_at 81 s a))) n ≡ is_subent_n1 (n1 (fields_of (block_at 81 s a)))
  number-good =
      let c = context_at s a in
      let r = block_at 81 s a in
      let due =
      fine-number c.track c.seen (role_at s a) (fields_of r) r
      (clean-fine c.track c.seen (role_at s a) (fields_of r) r (record-clean s accepted a begins.there))
      begins.role in
      let w : within 1 LAST-SUBENTRY n ≡ true =
      rw begins.number at (due-within c.track (subentry_of (n1 (fields_of r))) due) in
      by_form (is_subent_n1 (n1 (fields_of r)))
      (and_both (eq-eqb (subentry_of (n1 (fields_of r))) n begins.number) w)
    where
      by_form : (b : Bool) {d : Bool} → d ≡ true → (b && d) ≡ b
      by_form true e = e
      by_form false e = refl

  module _ (k : ℕ) (system : k < 16) (e : role_at s a ≡ k) where
    identifier-is : identifier_at s x.first ≡ k
    identifier-is = identifier-there s accepted a begins.there x.first at-is (rw e system) ∙ e

    nosubent-is : is_nosubent s x ≡ eqb k NOSUBENT
    nosubent-is =
        past _ _ (in_entry_lem s accepted a begins.there x.first at-is) ∙ ap (λ (i : ℕ). eqb i NOSUBENT) identifier-is

    subent-is : is_subent s x ≡ eqb k SUBENT
    subent-is = ap (λ (i : ℕ). eqb i SUBENT) identifier-is

    good-is : good_first s x ≡ (eqb k SUBENT && is_subent_n1 (n1 (fields_of (block_at 81 s a))))
    unfolding good_first
    good-is =
        pair (past _ _ (in_entry_lem s accepted a begins.there x.first at-is) ∙ subent-is)
        (rw (fields-there s accepted a begins.there x.first at-is, row_number s n accepted) number-good)

  subent-read : role_at s a ≡ SUBENT → FirstRead s x
  subent-read e =
      let l : SUBENT < 16 = omega arith in
      let f = subent-form (fields_of (block_at 81 s a)) (rw e at ((record-clean s accepted a begins.there).seven (rw e))) in
      record {
        nosubent = nosubent-is SUBENT l e ∙ sym (ap not (subent-is SUBENT l e));
        good = good-is SUBENT l e ∙ f ∙ sym (subent-is SUBENT l e);
      }

  nosubent-read : role_at s a ≡ NOSUBENT → FirstRead s x
  nosubent-read e =
      let l : NOSUBENT < 16 = omega arith in
      record {
        nosubent = nosubent-is NOSUBENT l e ∙ sym (ap not (subent-is NOSUBENT l e));
        good = good-is NOSUBENT l e ∙ sym (subent-is NOSUBENT l e);
      }

  pub first_read : FirstRead s x
  first_read =
      or-either (eqb (role_at s a) SUBENT) (eqb (role_at s a) NOSUBENT) begins.role
      (λ p. subent-read (eqb-true (role_at s a) SUBENT p)) (λ p. nosubent-read (eqb-true (role_at s a) NOSUBENT p))
