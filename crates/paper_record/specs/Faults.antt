-- Pointers, headings and units (document 01, "BIB, headings, pointers").
use Rattle.std.specs.Prelude.{ℕ, Bool, cond, not, ◌&&◌, ◌||◌, List, ltb}
use Rattle.paper_record.specs.Text.{is_blank, is_from}
use Rattle.paper_record.specs.Word.{blank_to, is_word, pointer_of}

-- ---- "A pointer is one of 1-9, A-Z. Blank means no pointer."

abbrev pub is_pointer : ℕ → Bool
is_pointer b = is_from "1" "9" b || is_from "A" "Z" b

unfoldable pub bad_pointer : List ℕ → Bool
bad_pointer f = not (is_blank (pointer_of f) || is_pointer (pointer_of f))

-- ---- "A heading is a word in ten columns, with a pointer or blank in the eleventh. A unit is a word in ten columns,
-- eleventh blank." "[U]nused fields are blank." A test says that the field k is at fault where `used` fields are used.

unfoldable pub is_unit_word : List ℕ → Bool
is_unit_word f = is_word 10 f && is_blank (pointer_of f)

abbrev pub filled : List ℕ → Bool
filled f = not (blank_to 11 f)

-- refusal 11: "bad pointer character (unused fields aside)"
unfoldable pub pointer_fault : ℕ → ℕ → List ℕ → Bool
pointer_fault used k f = ltb k used && bad_pointer f

-- refusal 12: "heading or unit no word, unit's eleventh column filled, unused field filled"
unfoldable pub heading_fault : ℕ → ℕ → List ℕ → Bool
heading_fault used k f = cond (ltb k used) (not (is_word 10 f)) (filled f)

unfoldable pub unit_fault : ℕ → ℕ → List ℕ → Bool
unit_fault used k f = cond (ltb k used) (not (is_unit_word f)) (filled f)
