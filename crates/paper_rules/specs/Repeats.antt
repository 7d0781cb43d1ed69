-- Whether a heading repeats an earlier one where it may not. Document 01:
--
--   "No heading with its pointer occurs twice within the COMMON of 001, this subentry's COMMON and its DATA together."
--
-- Document 02, M-101:
--
--   "The same heading and pointer may repeat for E-LVL, EN-RES, .. All equal ones must stand together and in one section
--   only. Refusals: 13 keeps its number and place, given exactly when a repetition is outside this list."
use Rattle.std.specs.Prelude.{ℕ, ◌-◌, Bool, false, cond, not, ◌&&◌, List, [], eqb, get_or, replicate, Option, Some, None}
use Rattle.paper_record.specs.Word.{equal_to}
use Rattle.paper_record.specs.Repeats.{may_repeat}
use Rattle.paper_rules.specs.Record.{Record, Fields}
use Rattle.paper_rules.specs.declared.types.HeadingPlace.{HeadingPlace}
use Rattle.paper_rules.specs.Earlier.{heading_at, headings_in, equal_heading, earlier}

-- the heading to the left of the field k: in its record, or the last one of the record before; blank where there is none
unfoldable pub left_of : List ℕ → Fields → ℕ → List ℕ
left_of table fs k =
    cond (eqb k 0)
    (cond (eqb (headings_in table) 0) (replicate 11 32) (heading_at table (headings_in table - 1)))
    (get_or fs (k - 1) [])

-- a repetition outside the list: an equal one stands in another section, or the word is not in the list, or the heading
-- to the left is another one. (Where that is so of no heading of a section, equal ones stand together from the first on:
-- `stand-together` in good.)
unfoldable pub clash : Bool → Option HeadingPlace → List ℕ → List ℕ → Bool
clash in_data (Some place) f left = not (eqb place.section 3 && (may_repeat in_data f && equal_to 11 f left))
clash in_data None f left = false

abbrev pub heading_repeated : Bool → List ℕ → List ℕ → List ℕ → Record → Fields → ℕ → Bool
heading_repeated in_data common001 common table r fs k =
    clash in_data (equal_heading (get_or fs k []) (earlier common001 common table r k)) (get_or fs k []) (left_of table fs k)
