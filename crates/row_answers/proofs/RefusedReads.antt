-- The first two reads of a question by a row, the subentry's first record and the section's: the refusal that is said
-- plainly, or both are good.
-- Assumes nothing.
use Prim.Native.Nat.{ℕ}
use mathlib.Core.Path.{◌≡◌, refl, sym, ◌∙◌}
use mathlib.Core.Bool.{Bool, true, false, not}
use mathlib.Core.List.{List, [], ◌∷◌, ◌++◌}
use mathlib.Core.Logic.{◌↔◌}
use native.Mathlib.Omega.{arith}
use lib.Dec.{eqb}
use borrow.Author.Tests.{eqb-true, eqb-false, eq-eqb, ne_eqb}
use Rattle.laws.proofs.Booleans.{differ, and_left}
use Rattle.paper_record.specs.Identifier.{NOSUBENT, BIB}
use Rattle.paper_record.specs.declared.types.RecordNo.{RecordNo}
use Rattle.paper_rules.specs.Counts.{count_n1, count_n2}
use Rattle.paper_entry.specs.Answer.{Refusal, refusal, first_of}
use Rattle.paper_questions.specs.declared.types.Row.{Row}
use Rattle.paper_questions.specs.declared.types.Shape.{Shape}
use Rattle.paper_questions.specs.Place.{COMMON-SECTION, DATA-SECTION, shape_of, fields_at}
use Rattle.paper_questions.specs.Refused.{section_in, no_section}
use Rattle.paper_questions.proofs.RowChanges.{bib}
use Rattle.paper_index.specs.Reads.{in_entry, is_there, is_nosubent, good_first, good_section, table_identifier, read_refusals}
use Rattle.row_answers.specs.Plain.{SubentRead}
use Rattle.row_answers.specs.Refusals.{NosubentRead, LacksSection, lacks_common, lacks_data, lacks_other}
use Rattle.row_answers.specs.Refusals.{TableGood, BibGood, BibRefused, BibReadExactly, BibRefusedExactly}
use Rattle.row_answers.specs.Refusals.{ReadRefused, read_nosubent, read_first, read_none, read_section}
use Rattle.row_answers.proofs.PlainReads.{lies-of, there-of, of-there, subent-of, of-subent, section-of, of-section}
use Rattle.row_answers.proofs.PlainAnswers.{subent-named, table_of, of-table}

-- ---- the subentry's first record

module _ (s : List ℕ) (x : Row) where
  nosubent-of : is_nosubent s x ≡ true → NosubentRead s x
  nosubent-of e =
      let (lies, named) = there-of s x.first NOSUBENT (omega arith) e in record { lies = lies; named = named }

  of-nosubent : NosubentRead s x → is_nosubent s x ≡ true
  of-nosubent r = of-there s x.first NOSUBENT (omega arith) r.lies r.named

  not-nosubent : SubentRead s x → is_nosubent s x ≡ false
  not-nosubent r = subent-named s x x.first 0 [] (of-subent s x r)

-- ---- then the section's

module _ (s : List ℕ) (x : Row) (at : RecordNo) (identifier : ℕ) where
  -- a record that is read has a number
  section-some : good_section s at identifier ≡ true → no_section at ≡ false
  unfolding good_section
  section-some e =
      let l = lies-of s at (and_left (in_entry s at) _ (and_left (is_there s at identifier) _ e)) in
      ne_eqb at.0 0 (λ z. omega (arith, l.from))

  pub of-good : (ys : List Refusal) → SubentRead s x → good_section s at identifier ≡ true
      → first_of (read_refusals s x at identifier ++ ys) ≡ first_of ys
  of-good ys r d = rw (not-nosubent s x r, of-subent s x r, section-some d, d)

  -- what is said plainly of the section is what is computed
  pub record Means (Lacks Good : Type 0) : Type 0 where
    pub lacks : (no_section at ≡ true) ↔ Lacks
    pub good_of : SubentRead s x → good_section s at identifier ≡ true → Good
    pub of-good-read : Good → SubentRead s x × (good_section s at identifier ≡ true)

  module _ (Lacks Good : Type 0) (means : Means Lacks Good) where
    -- the number that a refusal says, and where both are good
    pub of-both : (ys : List Refusal) → Good → first_of (read_refusals s x at identifier ++ ys) ≡ first_of ys
    of-both ys t = let (r, d) = means.of-good-read t in of-good ys r d

    pub of-refused : (ys : List Refusal) {number : ℕ} → ReadRefused s x Lacks Good number
        → first_of (read_refusals s x at identifier ++ ys) ≡ number
    of-refused ys (read_nosubent r) = rw (of-nosubent s x r) refl
    of-refused ys (read_first p q) = by_tests (is_nosubent s x) refl (good_first s x) refl
      where
        by_tests : (a : Bool) → is_nosubent s x ≡ a → (b : Bool) → good_first s x ≡ b
            → first_of (refusal 32 a ∷ refusal 39 (not b) ∷ refusal 33 (no_section at)
            ∷ refusal 39 (not (good_section s at identifier)) ∷ ys) ≡ 39
        by_tests true e b u = absurd (p (nosubent-of s x e))
        by_tests false e true u = absurd (q (subent-of s x u))
        by_tests false e false u = refl
    of-refused ys (read_none r l) = rw (not-nosubent s x r, of-subent s x r, means.lacks.1 l)
    of-refused ys (read_section r p q) = by_tests (no_section at) refl (good_section s at identifier) refl
      where
        by_tests : (c : Bool) → no_section at ≡ c → (d : Bool) → good_section s at identifier ≡ d
            → first_of (refusal 32 (is_nosubent s x) ∷ refusal 39 (not (good_first s x)) ∷ refusal 33 c
            ∷ refusal 39 (not d) ∷ ys) ≡ 39
        by_tests true e d u = absurd (p (means.lacks.0 e))
        by_tests false e true u = absurd (q (means.good_of r u))
        by_tests false e false u = rw (not-nosubent s x r, of-subent s x r)

    -- the other way round: one of the two is refused, or both are good and the rest says the number
    pub data Reads (ys : List Refusal) (number : ℕ) : Type 0 where
      refused : ReadRefused s x Lacks Good number → Reads ys number
      both-good : Good → first_of ys ≡ number → Reads ys number

    pub reads_of : (ys : List Refusal) (number : ℕ) → first_of (read_refusals s x at identifier ++ ys) ≡ number
        → Reads ys number
    reads_of ys number =
        by_tests (is_nosubent s x) refl (good_first s x) refl (no_section at) refl (good_section s at identifier) refl
      where
        by_tests : (a : Bool) → is_nosubent s x ≡ a → (b : Bool) → good_first s x ≡ b → (c : Bool) → no_section at ≡ c
            → (d : Bool) → good_section s at identifier ≡ d
            → first_of (refusal 32 a ∷ refusal 39 (not b) ∷ refusal 33 c ∷ refusal 39 (not d) ∷ ys) ≡ number
            → Reads ys number
        by_tests true p b q c u d v e = refused (rw (← e) (read_nosubent (nosubent-of s x p)))
        by_tests false p false q c u d v e =
            refused
            (rw (← e)
            (read_first (λ r. differ (sym (of-nosubent s x r) ∙ p)) (λ r. differ (sym (of-subent s x r) ∙ q))))
        by_tests false p true q true u d v e =
            refused (rw (← e) (read_none (subent-of s x q) (means.lacks.0 u)))
        by_tests false p true q false u false v e =
            refused
            (rw (← e)
            (read_section (subent-of s x q) (λ l. differ (sym (means.lacks.1 l) ∙ u))
            (λ t. differ (sym (means.of-good-read t).1 ∙ v))))
        by_tests false p true q false u true v e = both-good (means.good_of (subent-of s x q) v) e

-- none of these numbers is 0
pub read_some : (s : List ℕ) (x : Row) (Lacks Good : Type 0) {number : ℕ} → ReadRefused s x Lacks Good number
    → number ≡ 0 → ⊥
read_some s x Lacks Good (read_nosubent r) z = omega arith
read_some s x Lacks Good (read_first p q) z = omega arith
read_some s x Lacks Good (read_none r l) z = omega arith
read_some s x Lacks Good (read_section r p q) z = omega arith

-- ---- COMMON and DATA

module _ (s : List ℕ) (x : Row) (section : ℕ) where
  abbrev at : RecordNo
  at = section_in x section

  abbrev shape : Shape
  shape = shape_of s section at

  lacks-of : no_section at ≡ true → LacksSection x section
  lacks-of = by_tests (eqb section COMMON-SECTION) refl (eqb section DATA-SECTION) refl
    where
      by_tests : (p : Bool) → eqb section COMMON-SECTION ≡ p → (q : Bool) → eqb section DATA-SECTION ≡ q
          → no_section at ≡ true → LacksSection x section
      by_tests true p q u e = lacks_common (eqb-true section COMMON-SECTION p) (eqb-true _ 0 (rw p at e))
      by_tests false p true u e = lacks_data (eqb-true section DATA-SECTION u) (eqb-true _ 0 (rw (p, u) at e))
      by_tests false p false u e =
          lacks_other (eqb-false section COMMON-SECTION p) (eqb-false section DATA-SECTION u)

  of-lacks : LacksSection x section → no_section at ≡ true
  of-lacks (lacks_common e z) = rw (e, z)
  of-lacks (lacks_data e z) = rw (e, z)
  of-lacks (lacks_other e z) = rw (ne_eqb section COMMON-SECTION e, ne_eqb section DATA-SECTION z)

  abbrev table-good : SubentRead s x → good_section s at (table_identifier section) ≡ true → TableGood s x section
  table-good r d =
      record {
        subent = r;
        at = at;
        columns = shape.columns;
        lines = shape.lines;
        table = table_of s x section d;
      }

  -- what its record announces is the shape
  pub record ShapeOf (t : TableGood s x section) : Type 0 where
    pub read : good_section s at (table_identifier section) ≡ true
    pub columns-are : t.columns ≡ shape.columns
    pub lines_are : t.lines ≡ shape.lines

  pub shape-of : (t : TableGood s x section) → ShapeOf t
  shape-of t =
      let o = of-table s x section t.at t.columns t.lines t.table in
      record {
        read = rw (← o.own) o.good;
        columns-are = rw (← o.own) (sym o.columns-are);
        lines_are = rw (← o.own) (sym o.lines_are);
      }

  pub table-means : Means s x at (table_identifier section) (LacksSection x section) (TableGood s x section)
  table-means =
      record { lacks = (lacks-of, of-lacks); good_of = table-good; of-good-read = λ t. (t.subent, (shape-of t).read) }

-- ---- BIB

module _ (s : List ℕ) (x : Row) where
  bib-good : SubentRead s x → good_section s x.bib BIB ≡ true → BibGood s x
  bib-good r d =
      let fs = fields_at s x.bib in
      record { subent = r; keywords = count_n1 fs; records = count_n2 fs; bib = section-of s x.bib bib d }

  bib-means : Means s x x.bib BIB (x.bib.0 ≡ 0) (BibGood s x)
  bib-means =
      record {
        lacks = (eqb-true x.bib.0 0, eq-eqb x.bib.0 0);
        good_of = bib-good;
        of-good-read = λ t. (t.subent, of-section s x.bib bib t.keywords t.records t.bib);
      }

  bib-reads : (number : ℕ) → Reads s x x.bib BIB _ _ bib-means [] number
      → (number ≡ 0 → BibGood s x) × ((number ≡ 0 → ⊥) → BibRefused s x number)
  bib-reads number (refused r) =
      (λ z. absurd (read_some s x _ _ r z), λ some. r)
  bib-reads number (both-good t e) = (λ z. t, λ some. absurd (some (sym e)))

pub bib-read-exactly : BibReadExactly
bib-read-exactly s x = (
  λ e. (bib-reads s x 0 (reads_of s x x.bib BIB _ _ (bib-means s x) [] 0 e)).0 refl,
  of-both s x x.bib BIB _ _ (bib-means s x) [],
)

pub bib-refused-exactly : BibRefusedExactly
bib-refused-exactly s x number = (
  λ z. (bib-reads s x number (reads_of s x x.bib BIB _ _ (bib-means s x) [] number z.1)).1 z.0,
  λ r. (read_some s x _ _ r, of-refused s x x.bib BIB _ _ (bib-means s x) [] r),
)
