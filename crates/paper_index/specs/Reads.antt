-- What a question by an index reads, and when a read is good (document 02, M-102):
--
--   "[it] reads the subentry's first record (NOSUBENT gives 32), the section's, then the asked field's or, for a
--   passage, BIB's counted records up to its end; 39 meets the first read that lies outside the entry or has not its
--   identifier, number, counts or asked field in form and range."
--
-- Each is said of any bytes and any numbers.
use Rattle.std.specs.Prelude.{ℕ, Bool, true, false, cond, not, ◌&&◌, List, [], ◌∷◌, eqb, leb}
use Rattle.paper_number.specs.declared.types.Reading.{Reading}
use Rattle.paper_number.specs.declared.types.Reading.TheVariants.{Blank, Number, Refused}
use Rattle.paper_record.specs.Text.{within}
use Rattle.paper_record.specs.Word.{is_word}
use Rattle.paper_record.specs.Faults.{bad_pointer, is_unit_word}
use Rattle.paper_record.specs.Fields.{n1, n2}
use Rattle.paper_record.specs.Identifier.{SUBENT, NOSUBENT, COMMON, DATA}
use Rattle.paper_record.specs.System.{count_of, is_count, is_subent_n1, subentry_of}
use Rattle.paper_record.specs.declared.types.RecordNo.{RecordNo}
use Rattle.paper_record.specs.declared.types.Place.{Place}
use Rattle.paper_rules.specs.Limits.{MOST-RECORDS, LAST-SUBENTRY}
use Rattle.paper_rules.specs.Counts.{count_n1, count_n2, limit_n1, limit_n2, meets}
use Rattle.paper_entry.specs.Answer.{Refusal, refusal, first_of}
use Rattle.paper_questions.specs.declared.types.Row.{Row}
use Rattle.paper_questions.specs.Place.{has_record, fields_at, identifier_at, COMMON-SECTION, field_of}
use Rattle.paper_questions.specs.Refused.{no_section}
use Rattle.paper_index.specs.declared.types.SectionRead.{SectionRead}

-- "lies outside the entry": it has no such record, or it would be its 20,001st
abbrev pub in_entry : List ℕ → RecordNo → Bool
in_entry s at = has_record s at && leb at.0 MOST-RECORDS

-- the record there has that identifier
abbrev pub is_there : List ℕ → RecordNo → ℕ → Bool
is_there s at identifier = in_entry s at && eqb (identifier_at s at) identifier

-- ---- "the subentry's first record (NOSUBENT gives 32)"

abbrev pub is_nosubent : List ℕ → Row → Bool
is_nosubent s x = is_there s x.first NOSUBENT

-- N1 in its form, with the number of the row, 001 to 998
abbrev pub has_number : List ℕ → ℕ → Bool
has_number f n = is_subent_n1 f && (eqb (subentry_of f) n && within 1 LAST-SUBENTRY n)

unfoldable pub good_first : List ℕ → Row → Bool
good_first s x = is_there s x.first SUBENT && has_number (n1 (fields_at s x.first)) x.number

-- ---- "the section's"

-- both counts in form and range: what refusals 7 and 8 say of that record by itself
unfoldable pub good_counts : ℕ → List (List ℕ) → Bool
good_counts identifier fs =
    is_count (count_of (n1 fs))
    && (is_count (count_of (n2 fs))
    && (meets (limit_n1 identifier) (count_n1 fs) && meets (limit_n2 identifier (count_n1 fs)) (count_n2 fs)))

unfoldable pub good_section : List ℕ → RecordNo → ℕ → Bool
good_section s at identifier = is_there s at identifier && good_counts identifier (fields_at s at)

-- the identifier of a section of a table; what is neither 1 nor 2 is refused by 33 before it is read
abbrev pub table_identifier : ℕ → ℕ
table_identifier section = cond (eqb section COMMON-SECTION) COMMON DATA

-- ---- these two, in their order; "33 no such section" stands between them

abbrev pub read_refusals : List ℕ → Row → RecordNo → ℕ → List Refusal
read_refusals s x at identifier =
    refusal 32 (is_nosubent s x) ∷ refusal 39 (not (good_first s x)) ∷ refusal 33 (no_section at)
    ∷ refusal 39 (not (good_section s at identifier)) ∷ []

-- beside 0 the section's counts, beside the number of a refusal zeros
abbrev pub counts_beside : ℕ → List (List ℕ) → SectionRead
counts_beside number fs =
    cond (eqb number 0) (record { number = 0; n1 = count_n1 fs; n2 = count_n2 fs })
    (record { number = number; n1 = 0; n2 = 0 })

-- the number of the first, or the section's counts
unfoldable pub section_read : List ℕ → Row → RecordNo → ℕ → SectionRead
section_read s x at identifier = counts_beside (first_of (read_refusals s x at identifier)) (fields_at s at)

-- ---- "then the asked field's"

-- "COMMON values are never blank. DATA values may be"
abbrev pub good_reading : ℕ → Reading → Bool
good_reading section Blank = not (eqb section COMMON-SECTION)
good_reading section (Number v) = true
good_reading section (Refused n) = false

unfoldable pub good_value : List ℕ → ℕ → Place → Reading → Bool
good_value s section p value = in_entry s p.at && good_reading section value

-- "A heading is a word in ten columns, with a pointer or blank in the eleventh. A unit is a word in ten columns,
-- eleventh blank."
unfoldable pub good_heading : List ℕ → Place → Bool
good_heading s p = in_entry s p.at && (is_word 10 (field_of s p) && not (bad_pointer (field_of s p)))

unfoldable pub good_unit : List ℕ → Place → Bool
good_unit s p = in_entry s p.at && is_unit_word (field_of s p)
