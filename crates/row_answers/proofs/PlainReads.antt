-- A good read is what is said plainly: a record in the entry, the subentry's first, a section's, and an asked field.
-- Assumes nothing.
use Prim.Native.Nat.{ℕ, ◌-◌, ◌*◌, ◌<◌}
use mathlib.Core.Path.{◌≡◌, refl, sym, subst}
use mathlib.Core.Bool.{true, false, not, ◌&&◌}
use mathlib.Core.List.{List, []}
use native.Mathlib.Omega.{arith}
use lib.Dec.{eqb, leb}
use lib.ListN.{length, get_or}
use borrow.Author.Tests.{eqb-true, eq-eqb, ne_eqb, leb-true, le-leb, not-true}
use Rattle.laws.specs.Blocks.{block_at}
use Rattle.laws.proofs.Booleans.{differ, and_left, and_right, and_both}
use Rattle.paper_record.specs.Text.{within}
use Rattle.paper_record.specs.Word.{is_word}
use Rattle.paper_record.specs.Fields.{n1, n2}
use Rattle.paper_record.specs.Faults.{bad_pointer, is_unit_word}
use Rattle.paper_record.specs.Places.{records_for}
use Rattle.paper_record.specs.Identifier.{SUBENT, OTHER}
use Rattle.paper_record.specs.System.{count_of, is_count, number_of, is_subent_n1, subentry_of}
use Rattle.paper_record.specs.Plain.{CountSays, SubentN1, UnitWord}
use Rattle.paper_record.specs.PlainNames.{Named}
use Rattle.std.proofs.Common.{Option, Some, None}
use Rattle.paper_record.specs.declared.types.Place.{Place}
use Rattle.paper_record.specs.declared.types.RecordNo.{RecordNo}
use Rattle.paper_record.proofs.Within.{within-bounds}
use Rattle.paper_record.proofs.ReadColumns.{field-of}
use Rattle.paper_record.proofs.PlainNames.{name-exactly}
use Rattle.paper_record.proofs.PlainDigits.{count-exactly, subent-exactly}
use Rattle.paper_record.proofs.PlainColumns.{word-exactly, unit-exactly, pointer-exactly}
use Rattle.paper_rules.specs.Limits.{MOST-RECORDS, MOST-COLUMNS, MOST-LINES, LAST-SUBENTRY}
use Rattle.paper_rules.specs.Counts.{count_n1, count_n2, limit_n1, limit_n2, meets}
use Rattle.paper_questions.specs.declared.types.Row.{Row}
use Rattle.paper_questions.specs.Place.{has_record, fields_at, identifier_at, field_of}
use Rattle.paper_questions.proofs.Records.{record-there}
use Rattle.paper_questions.proofs.RowChanges.{Section, bib, common, table, opener}
use Rattle.paper_index.specs.Reads.{in_entry, is_there, has_number, good_first, good_counts, good_section, good_heading, good_unit}
use Rattle.row_answers.specs.Plain.{LiesIn, field_in, SubentRead, InRange, of_bib, of_common, of_data, SectionThere}
use Rattle.row_answers.specs.Plain.{HeadingField}

-- ---- a record

module _ (s : List ℕ) (at : RecordNo) where
  pub lies-of : in_entry s at ≡ true → LiesIn s at
  lies-of e =
      let (from, held) = record-there s at (and_left (has_record s at) (leb at.0 MOST-RECORDS) e) in
      record {
        from = from;
        to = leb-true at.0 MOST-RECORDS (and_right (has_record s at) (leb at.0 MOST-RECORDS) e);
        held = omega (arith, held);
      }

  pub of-lies : LiesIn s at → in_entry s at ≡ true
  of-lies l =
      rw (
        ne_eqb at.0 0 (λ z. omega (arith, l.from)),
        le-leb (at.0 * 81) (length s) (omega (arith, l.held)),
        le-leb at.0 MOST-RECORDS l.to,
      )

  -- its fields
  pub field_in_lem : LiesIn s at → (k : ℕ) → k < 6 → get_or (fields_at s at) k [] ≡ field_in s at k
  unfolding fields_at
  field_in_lem l k h =
      rw (ne_eqb at.0 0 (λ z. omega (arith, l.from)), le-leb (at.0 * 81) (length s) l.held)
      (field-of (block_at 81 s (at.0 - 1)) k h)

  -- its identifier
  pub there-of : (identifier : ℕ) → identifier < OTHER → is_there s at identifier ≡ true
      → LiesIn s at × Named (field_in s at 0) identifier
  there-of identifier h e =
      let l = lies-of (and_left (in_entry s at) (eqb (identifier_at s at) identifier) e) in
      let i : identifier_at s at ≡ identifier =
      eqb-true _ _ (and_right (in_entry s at) (eqb (identifier_at s at) identifier) e) in
      (l, (name-exactly (field_in s at 0) identifier h).0 (rw (field_in_lem l 0 (omega arith)) at i))

  pub of-there : (identifier : ℕ) → identifier < OTHER → LiesIn s at → Named (field_in s at 0) identifier
      → is_there s at identifier ≡ true
  of-there identifier h l e =
      let i : identifier_at s at ≡ identifier =
      rw (field_in_lem l 0 (omega arith)) ((name-exactly (field_in s at 0) identifier h).1 e) in
      and_both (of-lies l) (eq-eqb (identifier_at s at) identifier i)

-- ---- the subentry's first record

module _ (s : List ℕ) (x : Row) where
  abbrev f : List ℕ
  f = n1 (fields_at s x.first)

  pub subent-of : good_first s x ≡ true → SubentRead s x
  unfolding good_first
  subent-of e =
      let n = x.number in
      let (l, i) = there-of s x.first SUBENT (omega arith) (and_left _ (has_number f n) e) in
      let h = and_right (is_there s x.first SUBENT) (has_number f n) e in
      let form = and_left (is_subent_n1 f) _ h in
      let rest = and_right (is_subent_n1 f) (eqb (subentry_of f) n && within 1 LAST-SUBENTRY n) h in
      let same = eqb-true _ _ (and_left (eqb (subentry_of f) n) (within 1 LAST-SUBENTRY n) rest) in
      let (from, to) =
      within-bounds 1 LAST-SUBENTRY n (and_right (eqb (subentry_of f) n) (within 1 LAST-SUBENTRY n) rest) in
      record {
        lies = l;
        named = i;
        number = rw (field_in_lem s x.first l 1 (omega arith)) at ((subent-exactly f n).0 (form, same));
        from = from;
        to = omega (arith, to);
      }

  pub of-subent : SubentRead s x → good_first s x ≡ true
  unfolding good_first
  of-subent r =
      let n = x.number in
      let m : SubentN1 f n = rw (field_in_lem s x.first r.lies 1 (omega arith)) r.number in
      let (form, same) = (subent-exactly f n).1 m in
      and_both (of-there s x.first SUBENT (omega arith) r.lies r.named)
      (and_both form
      (and_both (eq-eqb _ _ same) (and_both (le-leb 1 n r.from) (le-leb n LAST-SUBENTRY (omega (arith, r.to))))))

-- ---- a section's record

opener-below : (k : Section) → opener k < OTHER
opener-below bib = omega arith
opener-below common = omega arith
opener-below table = omega arith

count-is : (c : Option ℕ) → is_count c ≡ true → c ≡ Some (number_of c)
count-is (Some n) e = refl
count-is None e = differ (sym e)

-- the limits of its counts
range-of : (k : Section) (a b : ℕ) → meets (limit_n1 (opener k)) a ≡ true → meets (limit_n2 (opener k) a) b ≡ true
    → InRange (opener k) a b
unfolding limit_n1 limit_n2
range-of bib a b p q = of_bib refl (leb-true 1 a p) (leb-true a b q)
range-of common a b p q =
    let (from, to) = within-bounds 1 MOST-COLUMNS a p in
    let (low, high) = within-bounds (3 * records_for a) (3 * records_for a) b q in
    of_common refl from to (omega (arith, low, high))
range-of table a b p q =
    let (from, to) = within-bounds 1 MOST-COLUMNS a p in
    let (low, high) = within-bounds 1 MOST-LINES b q in
    of_data refl from to low high

of_range : (k : Section) (a b : ℕ) → InRange (opener k) a b
    → (meets (limit_n1 (opener k)) a && meets (limit_n2 (opener k) a) b) ≡ true
unfolding limit_n1 limit_n2
of_range bib a b (of_bib e p q) = and_both (le-leb 1 a p) (le-leb a b q)
of_range bib a b (of_common e p q z) = absurd (omega (arith, e))
of_range bib a b (of_data e p q u v) = absurd (omega (arith, e))
of_range common a b (of_bib e p q) = absurd (omega (arith, e))
of_range common a b (of_common e p q z) =
    and_both (and_both (le-leb 1 a p) (le-leb a MOST-COLUMNS q))
    (and_both (le-leb (3 * records_for a) b (omega (arith, z))) (le-leb b (3 * records_for a) (omega (arith, z))))
of_range common a b (of_data e p q u v) = absurd (omega (arith, e))
of_range table a b (of_bib e p q) = absurd (omega (arith, e))
of_range table a b (of_common e p q z) = absurd (omega (arith, e))
of_range table a b (of_data e p q u v) =
    and_both (and_both (le-leb 1 a p) (le-leb a MOST-COLUMNS q)) (and_both (le-leb 1 b u) (le-leb b MOST-LINES v))

module _ (s : List ℕ) (at : RecordNo) (k : Section) where
  abbrev fs : List (List ℕ)
  fs = fields_at s at

  pub section-of : good_section s at (opener k) ≡ true → SectionThere s at (opener k) (count_n1 fs) (count_n2 fs)
  unfolding good_section good_counts
  section-of e =
      let (l, i) = there-of s at (opener k) (opener-below k) (and_left _ _ e) in
      let h = and_right (is_there s at (opener k)) _ e in
      let form1 = and_left (is_count (count_of (n1 fs))) _ h in
      let h2 = and_right (is_count (count_of (n1 fs))) _ h in
      let form2 = and_left (is_count (count_of (n2 fs))) _ h2 in
      let h3 = and_right (is_count (count_of (n2 fs))) _ h2 in
      let m1 = and_left (meets (limit_n1 (opener k)) (count_n1 fs)) _ h3 in
      let m2 = and_right (meets (limit_n1 (opener k)) (count_n1 fs)) _ h3 in
      record {
        lies = l;
        named = i;
        first = subst (λ (f : List ℕ). CountSays 11 f (count_n1 fs)) (field_in_lem s at l 1 (omega arith))
            ((count-exactly 11 (n1 fs) (count_n1 fs)).0 (count-is (count_of (n1 fs)) form1));
        second = subst (λ (f : List ℕ). CountSays 11 f (count_n2 fs)) (field_in_lem s at l 2 (omega arith))
            ((count-exactly 11 (n2 fs) (count_n2 fs)).0 (count-is (count_of (n2 fs)) form2));
        range = range-of k (count_n1 fs) (count_n2 fs) m1 m2;
      }

  module _ (a b : ℕ) (r : SectionThere s at (opener k) a b) where
    said1 : count_of (n1 fs) ≡ Some a
    said1 = rw (field_in_lem s at r.lies 1 (omega arith)) ((count-exactly 11 (field_in s at 1) a).1 r.first)

    said2 : count_of (n2 fs) ≡ Some b
    said2 = rw (field_in_lem s at r.lies 2 (omega arith)) ((count-exactly 11 (field_in s at 2) b).1 r.second)

    pub counts_of : (count_n1 fs ≡ a) × (count_n2 fs ≡ b)
    counts_of = (rw said1, rw said2)

    pub of-section : good_section s at (opener k) ≡ true
    unfolding good_section good_counts
    of-section =
        and_both (of-there s at (opener k) (opener-below k) r.lies r.named)
        (rw (said1, said2) (of_range k a b r.range))

-- ---- an asked field

module _ (s : List ℕ) (p : Place) (below : p.field < 6) where
  pub place_in : LiesIn s p.at → field_of s p ≡ field_in s p.at p.field
  place_in l = field_in_lem s p.at l p.field below

  pub heading-of : good_heading s p ≡ true → HeadingField s p
  unfolding good_heading
  heading-of e =
      let g = field_of s p in
      let l = lies-of s p.at (and_left _ (is_word 10 g && not (bad_pointer g)) e) in
      let h = and_right (in_entry s p.at) (is_word 10 g && not (bad_pointer g)) e in
      let word = and_left (is_word 10 g) (not (bad_pointer g)) h in
      let pointer = not-true (bad_pointer g) (and_right (is_word 10 g) (not (bad_pointer g)) h) in
      record {
        lies = l;
        word = rw (place_in l) at ((word-exactly 10 g).0 word);
        pointer = rw (place_in l) at ((pointer-exactly g).0 pointer);
      }

  pub of-heading : HeadingField s p → good_heading s p ≡ true
  unfolding good_heading
  of-heading h =
      let g = field_in s p.at p.field in
      let pointer : bad_pointer g ≡ false = (pointer-exactly g).1 h.pointer in
      and_both (of-lies s p.at h.lies)
      (rw (place_in h.lies) (and_both ((word-exactly 10 g).1 h.word) (rw pointer)))

  pub unit-of : good_unit s p ≡ true → LiesIn s p.at × UnitWord (field_in s p.at p.field)
  unfolding good_unit
  unit-of e =
      let g = field_of s p in
      let l = lies-of s p.at (and_left _ (is_unit_word g) e) in
      (l, rw (place_in l) at ((unit-exactly g).0 (and_right (in_entry s p.at) (is_unit_word g) e)))

  pub of-unit : LiesIn s p.at → UnitWord (field_in s p.at p.field) → good_unit s p ≡ true
  unfolding good_unit
  of-unit l u =
      and_both (of-lies s p.at l) (rw (place_in l) ((unit-exactly (field_in s p.at p.field)).1 u))
