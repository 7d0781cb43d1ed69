-- The table of refusals (document 01, "Refusal numbers and their order"), as plain data: for each number the kinds of
-- record on which it stands, and its columns there. No rule and no walk has a part in it.
--
-- A kind is a system identifier, or one of the records inside sections: text, heading, unit, value; of COMMON or DATA.
-- `KindOf` says what a record of each kind is.
use Rattle.std.specs.Prelude.{ℕ, ◌<◌, ◌≡◌, Bool, true, false, not, List, [], ◌∷◌, eqb, length, get_or}
use Rattle.laws.specs.Members.{any_of}
use Rattle.paper_record.specs.Text.{within}
use Rattle.paper_record.specs.Identifier.{ENTRY, SUBENT, NOSUBENT, BIB, ENDBIB, COMMON, ENDCOMMON, DATA, ENDDATA, ENDSUBENT}
use Rattle.paper_record.specs.Identifier.{ENDENTRY}
use Rattle.paper_rules.specs.Roles.{TEXT, COMMON-HEADING, COMMON-UNIT, COMMON-VALUE, DATA-HEADING, DATA-UNIT}
use Rattle.paper_rules.specs.Roles.{DATA-VALUE, NOT-DUE}

-- a number with the kinds and the columns that it can have
pub record Row : Type 0 where
  pub number : ℕ
  pub kinds : ℕ → Bool
  pub columns : ℕ → Bool

abbrev pub row : ℕ → (ℕ → Bool) → (ℕ → Bool) → Row
row number kinds columns = record { number = number; kinds = kinds; columns = columns }

-- one of these numbers
abbrev pub among : List ℕ → ℕ → Bool
among ks k = any_of (eqb k) ks

-- ---- kinds

abbrev pub every_kind : ℕ → Bool
every_kind kind = true

abbrev pub not_due : ℕ → Bool
not_due kind = eqb kind NOT-DUE

abbrev pub every_due : ℕ → Bool
every_due kind = not (not_due kind)

-- "The fourteen system identifiers": those whose N1, and whose N2, has a form
abbrev pub with_n1 : ℕ → Bool
with_n1 =
    among (ENTRY ∷ SUBENT ∷ NOSUBENT ∷ BIB ∷ COMMON ∷ DATA ∷ ENDBIB ∷ ENDCOMMON ∷ ENDDATA ∷ ENDSUBENT ∷ ENDENTRY ∷ [])

abbrev pub with_n2 : ℕ → Bool
with_n2 = among (ENTRY ∷ SUBENT ∷ NOSUBENT ∷ BIB ∷ COMMON ∷ DATA ∷ [])

-- and those whose N1, and whose N2, is a count
abbrev pub counted_n1 : ℕ → Bool
counted_n1 = among (BIB ∷ COMMON ∷ DATA ∷ ENDBIB ∷ ENDCOMMON ∷ ENDDATA ∷ ENDSUBENT ∷ ENDENTRY ∷ [])

abbrev pub counted_n2 : ℕ → Bool
counted_n2 = among (BIB ∷ COMMON ∷ DATA ∷ [])

abbrev pub headings : ℕ → Bool
headings = among (COMMON-HEADING ∷ DATA-HEADING ∷ [])

abbrev pub headings_and_units : ℕ → Bool
headings_and_units = among (COMMON-HEADING ∷ DATA-HEADING ∷ COMMON-UNIT ∷ DATA-UNIT ∷ [])

abbrev pub values : ℕ → Bool
values = among (COMMON-VALUE ∷ DATA-VALUE ∷ [])

-- ---- columns: "Columns 1 to 66 are six fields of eleven columns"

-- "field's first"
abbrev pub fields_first : ℕ → Bool
fields_first = among (1 ∷ 12 ∷ 23 ∷ 34 ∷ 45 ∷ 56 ∷ [])

-- of a heading "the pointer's", the eleventh of its field
abbrev pub fields_eleventh : ℕ → Bool
fields_eleventh = among (11 ∷ 22 ∷ 33 ∷ 44 ∷ 55 ∷ 66 ∷ [])

-- ---- the table

abbrev pub refusals : List Row
refusals =
    -- "byte 81 not a line feed | 81"
    row 2 every_kind (among (81 ∷ []))
    -- "character not permitted | that one"
    ∷ row 3 every_kind (within 1 80)
    -- "record not due by nesting or counts; .. | 1"
    ∷ row 4 not_due (among (1 ∷ []))
    -- "wrong accession or subentry in 67-74 | 67"
    ∷ row 5 every_due (among (67 ∷ []))
    -- "wrong sequence | 75"
    ∷ row 6 every_due (among (75 ∷ []))
    -- "system field not in its form | 12 or 23": N1 stands at 12, N2 at 23
    ∷ row 7 with_n1 (among (12 ∷ []))
    ∷ row 7 with_n2 (among (23 ∷ []))
    -- "count out of range or untrue (keyword total judged on ENDBIB, column 12) | 12 or 23"
    ∷ row 8 counted_n1 (among (12 ∷ []))
    ∷ row 8 counted_n2 (among (23 ∷ []))
    -- "SUBENT/NOSUBENT: other accession, first not 001, not rising, 000 or 999 | 12"
    ∷ row 9 (among (SUBENT ∷ NOSUBENT ∷ [])) (among (12 ∷ []))
    -- "keyword missing, malformed or repeated | 1"
    ∷ row 10 (among (TEXT ∷ [])) (among (1 ∷ []))
    -- "bad pointer character (unused fields aside), or repeated under its keyword | the pointer's"
    ∷ row 11 (among (TEXT ∷ [])) (among (11 ∷ []))
    ∷ row 11 headings fields_eleventh
    -- "heading or unit no word, unit's eleventh column filled, unused field filled | field's first"
    ∷ row 12 headings_and_units fields_first
    -- "heading repeated | field's first"
    ∷ row 13 headings fields_first
    -- "DATA pointer not found | field's first"
    ∷ row 14 (among (DATA-HEADING ∷ [])) fields_first
    -- "value malformed, COMMON value blank, unused filled; line with every used field blank (at its last record, column
    -- 1) | field's first"
    ∷ row 15 values fields_first
    -- "17 an exponent there, or a FLAG value without code, on the value record after 15, column as for 15" (document
    -- 02, M-105)
    ∷ row 17 values fields_first
    ∷ []

abbrev pub no_row : Row
no_row = row 0 (λ kind. false) (λ column. false)

-- the number n stands on a record of this kind at the column k: a row of the table says so
pub record TableAllows (n kind k : ℕ) : Type 0 where
  pub at : ℕ
  pub there : at < length refusals
  pub number : (get_or refusals at no_row).number ≡ n
  pub on : (get_or refusals at no_row).kinds kind ≡ true
  pub column : (get_or refusals at no_row).columns k ≡ true
