-- What is read of a section: a number, and beside 0 the counts that its own record announces.
-- Assumes nothing.
use Prim.Native.Nat.{ℕ, ◌≤◌}
use mathlib.Core.Path.{◌≡◌, refl, sym, ◌∙◌}
use mathlib.Core.Bool.{Bool, true, false, cond}
use mathlib.Core.List.{List}
use lib.Dec.{eqb}
use borrow.Author.Tests.{eq-eqb, eqb-true}
use Rattle.paper_record.specs.declared.types.RecordNo.{RecordNo}
use Rattle.paper_rules.specs.Limits.{MOST-RECORDS}
use Rattle.paper_rules.specs.Counts.{count_n1, count_n2}
use Rattle.paper_entry.specs.Answer.{first_of}
use Rattle.paper_questions.specs.declared.types.Row.{Row}
use Rattle.paper_questions.specs.Place.{fields_at, shape_from, shape_of}
use Rattle.paper_index.specs.declared.types.SectionRead.{SectionRead}
use Rattle.paper_questions.specs.Refused.{section_in}
use Rattle.paper_index.specs.Reads.{read_refusals, counts_beside, section_read, table_identifier}
use Rattle.paper_index.proofs.ReadsInOrder.{section-there}

-- the number that stands beside the counts
pub beside-number : (n : ℕ) (fs : List (List ℕ)) → (counts_beside n fs).number ≡ n
beside-number n fs = by-test (eqb n 0) refl
  where
    by-test : (t : Bool) → eqb n 0 ≡ t
        → ◌≡◌ {A = ℕ} (cond {A = SectionRead} t (record { number = 0; n1 = count_n1 fs; n2 = count_n2 fs })
        (record { number = n; n1 = 0; n2 = 0 })).number n
    by-test true e = sym (eqb-true n 0 e)
    by-test false e = refl

module _ (s : List ℕ) (x : Row) (at : RecordNo) (identifier : ℕ) where
  pub read_number : (section_read s x at identifier).number ≡ first_of (read_refusals s x at identifier)
  unfolding section_read
  read_number = beside-number (first_of (read_refusals s x at identifier)) (fields_at s at)

  pub read-there : (section_read s x at identifier).number ≡ 0 → at.0 ≤ MOST-RECORDS
  read-there e = section-there s x at identifier (sym read_number ∙ e)

  -- nothing is refused: the counts are those of the section's record
  pub read-counts : (section_read s x at identifier).number ≡ 0
      → ◌≡◌ {A = SectionRead} (section_read s x at identifier)
      (record { number = 0; n1 = count_n1 (fields_at s at); n2 = count_n2 (fields_at s at) })
  unfolding section_read
  read-counts e = rw (eq-eqb (first_of (read_refusals s x at identifier)) 0 (sym read_number ∙ e)) refl

  pub read-shape : (section : ℕ) → (section_read s x at identifier).number ≡ 0
      → shape_from section (section_read s x at identifier).n1 (section_read s x at identifier).n2 ≡ shape_of s section at
  unfolding shape_of
  read-shape section e = rw (read-counts e) refl

-- ---- the section of a table, as it is found in a row and read

module _ (s : List ℕ) (x : Row) (section : ℕ) (at : RecordNo) (identifier : ℕ) (r : SectionRead)
    (found : at ≡ section_in x section) (named : identifier ≡ table_identifier section)
    (is : r ≡ section_read s x at identifier) where
  table-read : r ≡ section_read s x (section_in x section) (table_identifier section)
  table-read = rw (found, named) at is

  pub table-number : r.number ≡ first_of (read_refusals s x (section_in x section) (table_identifier section))
  table-number = rw table-read (read_number s x (section_in x section) (table_identifier section))

  pub table-shape : r.number ≡ 0 → shape_from section r.n1 r.n2 ≡ shape_of s section (section_in x section)
  table-shape z =
      rw table-read (read-shape s x (section_in x section) (table_identifier section) section (rw table-read at z))
