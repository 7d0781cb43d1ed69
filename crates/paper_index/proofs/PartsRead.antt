-- A heading, a unit or a passage from a row: each of its answers, by the first read that is not good.
-- Assumes nothing.
use Prim.Native.Nat.{ℕ, ◌+◌, ◌-◌, ◌*◌, ◌≤◌, ◌<◌}
use mathlib.Core.Path.{◌≡◌, refl, sym, ap, ◌∙◌}
use mathlib.Core.Bool.{Bool, true, false, cond, not, ◌&&◌}
use mathlib.Core.List.{List, [], ◌∷◌, ◌++◌}
use native.Mathlib.Omega.{arith}
use lib.Dec.{eqb, leb, ltb}
use borrow.Author.Tests.{eq-eqb, ne_eqb, le-leb, lt-leb, leb-true}
use Rattle.paper_record.specs.Identifier.{BIB}
use Rattle.paper_record.specs.Text.{within}
use Rattle.paper_record.specs.Word.{pointer_of}
use Rattle.paper_record.specs.declared.types.RecordNo.{RecordNo}
use Rattle.paper_record.specs.declared.types.Place.{Place}
use Rattle.paper_rules.specs.Counts.{count_n2}
use Rattle.paper_entry.specs.Answer.{Refusal, refusal, first_of, answer_of}
use Rattle.paper_entry.proofs.Firsts.{first-given, none-given}
use Rattle.paper_questions.specs.declared.types.Row.{Row}
use Rattle.paper_questions.specs.declared.types.PartAnswer.{PartAnswer}
use Rattle.paper_questions.specs.Place.{fields_at, shape_from, shape_of, heading_place, unit_place, field_of}
use Rattle.paper_questions.specs.Place.{first_byte, byte_of}
use Rattle.paper_questions.specs.Refused.{section_in, no_column}
use Rattle.paper_questions.specs.Passage.{text_record}
use Rattle.paper_questions.specs.PartAnswers.{no_part, part_from}
use Rattle.paper_index.specs.declared.types.SectionRead.{SectionRead}
use Rattle.paper_index.specs.Reads.{read_refusals, section_read, table_identifier, good_heading, good_unit}
use Rattle.paper_index.specs.TableAnswers.{part_beside, heading_from_row, unit_from_row}
use Rattle.paper_index.specs.PassageAnswers.{least, records_held, texts_counted, texts_held}
use Rattle.paper_index.specs.PassageAnswers.{begun_at, ended_at, passage_from_row}
use Rattle.paper_index.proofs.SectionsRead.{read_number, read-counts, read-shape}

-- beside the number of a refusal, and beside 0
pub refused-beside : (s : List ℕ) (n from bytes pointer : ℕ) → (n ≡ 0 → ⊥)
    → part_beside s n from bytes pointer ≡ no_part (answer_of n)
refused-beside s n from bytes pointer h = rw (ne_eqb n 0 h) refl

pub answered-beside : (s : List ℕ) (n from bytes pointer : ℕ) → n ≡ 0
    → part_beside s n from bytes pointer ≡ part_from s (answer_of 0) from bytes pointer
answered-beside s n from bytes pointer e = rw (eq-eqb n 0 e) refl

-- ---- a section that is read

module _ (s : List ℕ) (x : Row) (at : RecordNo) (identifier : ℕ) (r : SectionRead)
    (is : r ≡ section_read s x at identifier) where
  pub number_read : r.number ≡ first_of (read_refusals s x at identifier)
  number_read = rw is (read_number s x at identifier)

  pub texts-counted : r.number ≡ 0 → r.n2 ≡ count_n2 (fields_at s at)
  texts-counted z = rw is (ap (λ (q : SectionRead). q.n2) (read-counts s x at identifier (rw is at z)))

  pub shape-read : (section : ℕ) → r.number ≡ 0 → shape_from section r.n1 r.n2 ≡ shape_of s section at
  shape-read section z = rw is (read-shape s x at identifier section (rw is at z))

-- ---- the lesser of two

pub least-none : (a b : ℕ) → b ≡ 0 → 0 ≡ least a b
least-none a b e = rw e (by-test (leb a 0) refl)
  where
    by-test : (t : Bool) → leb a 0 ≡ t → 0 ≡ cond t a 0
    by-test true l = let z = leb-true a 0 l in omega arith
    by-test false l = refl

pub least_first : (a b : ℕ) → a ≤ b → a ≡ least a b
least_first a b h = rw (le-leb a b h) refl

pub least-second : (a b : ℕ) → b < a → b ≡ least a b
least-second a b h = rw (lt-leb a b h) refl

-- ---- a column of the section at a record

module _ (s : List ℕ) (x : Row) (at : RecordNo) (section column : ℕ) where
  abbrev reads : List Refusal
  reads = read_refusals s x at (table_identifier section)

  abbrev no_such : List Refusal
  no_such = refusal 35 (no_column (shape_of s section at) column) ∷ []

  pub column-by-read : (n : ℕ) → n ≡ first_of reads → (n ≡ 0 → ⊥) → n ≡ first_of (reads ++ no_such)
  column-by-read n e h = e ∙ sym (first-given reads no_such (λ z. h (e ∙ z)))

  pub column-by-shape : first_of reads ≡ 0 → (b : Bool) → b ≡ within 1 (shape_of s section at).columns column
      → cond b 0 35 ≡ first_of (reads ++ no_such)
  column-by-shape e b is = by-test b is ∙ sym (none-given reads no_such refl e)
    where
      by-test : (b : Bool) → b ≡ within 1 (shape_of s section at).columns column → cond b 0 35 ≡ first_of no_such
      by-test true is = rw (← is) refl
      by-test false is = rw (← is) refl

-- ---- a heading or a unit

module _ (s : List ℕ) (x : Row) (section column : ℕ) where
  abbrev before : RecordNo → List Refusal
  before at =
      read_refusals s x at (table_identifier section)
      ++ (refusal 35 (no_column (shape_of s section at) column) ∷ [])

  abbrev asked : Bool → List Refusal
  asked good = refusal 39 (not good) ∷ []

  -- the number is given before the field is read, or by what is read there
  by_before : (at : RecordNo) (n : ℕ) → n ≡ first_of (before at) → (n ≡ 0 → ⊥) → (good : Bool)
      → n ≡ first_of (before at ++ asked good)
  by_before at n e h good = e ∙ sym (first-given (before at) (asked good) (λ z. h (e ∙ z)))

  by-asked : (at : RecordNo) → first_of (before at) ≡ 0 → (good : Bool)
      → cond good 0 39 ≡ first_of (before at ++ asked good)
  by-asked at e good = by-test good ∙ sym (none-given (before at) (asked good) refl e)
    where
      by-test : (b : Bool) → cond b 0 39 ≡ first_of (asked b)
      by-test true = refl
      by-test false = refl

  abbrev heading_with : Place → ℕ → PartAnswer
  heading_with p n = part_beside s n (byte_of p) 10 (pointer_of (field_of s p))

  abbrev unit_with : Place → Place → ℕ → PartAnswer
  unit_with p u n = part_beside s n (byte_of u) 10 (pointer_of (field_of s p))

  module _ (at : RecordNo) (found : at ≡ section_in x section) where
    heading-is : (p : Place) → p ≡ heading_place at column
        → heading_with p (first_of (before at ++ asked (good_heading s p))) ≡ heading_from_row s x section column
    unfolding heading_from_row
    heading-is p is = rw (is, found) refl

    unit-is : (p u : Place) → p ≡ heading_place at column → u ≡ unit_place at (shape_of s section at).columns column
        → unit_with p u (first_of (before at ++ asked (good_heading s p && good_unit s u)))
        ≡ unit_from_row s x section column
    unfolding unit_from_row
    unit-is p u is under = rw (is, under, found) refl

    -- refused before the field is read
    module _ (n : ℕ) (e : n ≡ first_of (before at)) (h : n ≡ 0 → ⊥) where
      pub heading-by-before : no_part (answer_of n) ≡ heading_from_row s x section column
      heading-by-before =
          let p = heading_place at column in
          sym (refused-beside s n (byte_of p) 10 (pointer_of (field_of s p)) h)
          ∙ ap (heading_with p) (by_before at n e h (good_heading s p)) ∙ heading-is p refl

      pub unit-by-before : no_part (answer_of n) ≡ unit_from_row s x section column
      unit-by-before =
          let p = heading_place at column in
          let u = unit_place at (shape_of s section at).columns column in
          sym (refused-beside s n (byte_of u) 10 (pointer_of (field_of s p)) h)
          ∙ ap (unit_with p u) (by_before at n e h (good_heading s p && good_unit s u)) ∙ unit-is p u refl refl

    -- the field decides
    module _ (n : ℕ) (e : n ≡ first_of (before at)) (z : n ≡ 0) (p : Place) (is : p ≡ heading_place at column)
        (named : Bool) (heading : named ≡ good_heading s p) where
      pub heading-by-field : heading_with p (cond named 0 39) ≡ heading_from_row s x section column
      heading-by-field =
          ap (λ (b : Bool). heading_with p (cond b 0 39)) heading
          ∙ ap (heading_with p) (by-asked at (sym e ∙ z) (good_heading s p)) ∙ heading-is p is

      pub unit-by-field : (u : Place) → u ≡ unit_place at (shape_of s section at).columns column
          → (measured good : Bool) → measured ≡ good_unit s u → good ≡ (named && measured)
          → unit_with p u (cond good 0 39) ≡ unit_from_row s x section column
      unit-by-field u under measured good unit both =
          ap (λ (b : Bool). unit_with p u (cond b 0 39)) (rw (heading, unit) at both)
          ∙ ap (unit_with p u) (by-asked at (sym e ∙ z) (good_heading s p && good_unit s u)) ∙ unit-is p u is under

-- ---- a passage

module _ (s : List ℕ) (x : Row) (keyword : List ℕ) (pointer : ℕ) where
  abbrev bib : RecordNo
  bib = x.bib

  abbrev opened : List Refusal
  opened = read_refusals s x bib BIB

  -- so many text records are counted and held, the passage stands from one up to another
  abbrev ends : ℕ → ℕ → ℕ → ℕ → List Refusal
  ends counted held from past =
      refusal 39 (ltb held counted && eqb past held) ∷ refusal 36 (eqb from held) ∷ []

  abbrev passage_with : ℕ → ℕ → ℕ → PartAnswer
  passage_with n from past = part_beside s n (first_byte (text_record bib from)) ((past - from) * 81) pointer

  passage-is : (held from past : ℕ) → held ≡ texts_held s bib → from ≡ begun_at s bib keyword pointer held
      → past ≡ ended_at s bib from held
      → passage_with (first_of (opened ++ ends (texts_counted s bib) held from past)) from past
      ≡ passage_from_row s x keyword pointer
  unfolding passage_from_row
  passage-is held from past h f p = rw (p, f, h) refl

  module _ (r : SectionRead) (is : r ≡ section_read s x bib BIB) where
    -- refused before a text record is read
    pub passage-by-read : (r.number ≡ 0 → ⊥) → no_part (answer_of r.number) ≡ passage_from_row s x keyword pointer
    passage-by-read h =
        let n = r.number in
        let held = texts_held s bib in
        let from = begun_at s bib keyword pointer held in
        let past = ended_at s bib from held in
        let e = number_read s x bib BIB r is in
        sym (refused-beside s n (first_byte (text_record bib from)) ((past - from) * 81) pointer h)
        ∙ ap (λ (m : ℕ). passage_with m from past)
        (e ∙ sym (first-given opened (ends (texts_counted s bib) held from past) (λ z. h (e ∙ z))))
        ∙ passage-is held from past refl refl refl

    -- the text records decide
    pub passage-by-texts : r.number ≡ 0 → (n held from past : ℕ) → held ≡ least r.n2 (records_held s - bib.0)
        → from ≡ begun_at s bib keyword pointer held → past ≡ ended_at s bib from held
        → n ≡ first_of (ends r.n2 held from past)
        → passage_with n from past ≡ passage_from_row s x keyword pointer
    passage-by-texts good n held from past h f p e =
        let c = texts-counted s x bib BIB r is good in
        let none = sym (number_read s x bib BIB r is) ∙ good in
        ap (λ (m : ℕ). passage_with m from past)
        (e ∙ ap (λ (m : ℕ). first_of (ends m held from past)) c
        ∙ sym (none-given opened (ends (texts_counted s bib) held from past) refl none))
        ∙ passage-is held from past (h ∙ ap (λ (m : ℕ). least m (records_held s - bib.0)) c) f p
