-- The headings that may repeat, by their words (document 02, M-101):
--
--   "The same heading and pointer may repeat for E-LVL, EN-RES, FLAG (DATA only), any word ending in -ERR or -RSL, any
--   starting with ANG and any starting with HL (DATA only)."
use Rattle.std.specs.Prelude.{ℕ, ◌-◌, Bool, ◌&&◌, ◌||◌, List, eqb, leb, length}
use Rattle.paper_record.specs.Columns.{columns_at}
use Rattle.paper_record.specs.Text.{text}
use Rattle.paper_record.specs.Word.{equal_to, word_end}

-- ---- a heading's word: its columns before the first blank

-- the letters w stand in f behind its first i columns
unfoldable pub letters_at : List ℕ → ℕ → List ℕ → Bool
letters_at f i w = equal_to (length w) (columns_at i (length w) f) w

unfoldable pub spells : List ℕ → List ℕ → Bool
spells f w = eqb (word_end 10 f) (length w) && letters_at f 0 w

unfoldable pub ends_in : List ℕ → List ℕ → Bool
ends_in f w = leb (length w) (word_end 10 f) && letters_at f (word_end 10 f - length w) w

unfoldable pub starts_with : List ℕ → List ℕ → Bool
starts_with f w = leb (length w) (word_end 10 f) && letters_at f 0 w

-- ---- the list, item by item; the Boolean says whether the heading stands in DATA

-- "E-LVL, EN-RES, FLAG (DATA only)"
unfoldable pub listed_word : Bool → List ℕ → Bool
listed_word in_data f =
    spells f (text "E-LVL") || (spells f (text "EN-RES") || (in_data && spells f (text "FLAG")))

-- "any word ending in -ERR or -RSL"
unfoldable pub listed_ending : List ℕ → Bool
listed_ending f = ends_in f (text "-ERR") || ends_in f (text "-RSL")

-- "any starting with ANG and any starting with HL (DATA only)"
unfoldable pub listed_start : Bool → List ℕ → Bool
listed_start in_data f = starts_with f (text "ANG") || (in_data && starts_with f (text "HL"))

unfoldable pub may_repeat : Bool → List ℕ → Bool
may_repeat in_data f = listed_word in_data f || (listed_ending f || listed_start in_data f)
