-- The rules for text records, those inside BIB: refusal 10, and 11 as far as it is theirs.
use Rattle.std.specs.Prelude.{ℕ, ◌+◌, ◌*◌, ◌/◌, Bool, cond, not, ◌&&◌, ◌||◌, List, [], eqb, length, get_or}
use Rattle.laws.specs.Members.{list_of, any_of}
use Rattle.paper_record.specs.Columns.{columns_at}
use Rattle.paper_record.specs.Text.{is_blank}
use Rattle.paper_record.specs.Word.{blank_to, equal_to, eight_at, is_word, pointer_of}
use Rattle.paper_record.specs.Faults.{bad_pointer}
use Rattle.paper_rules.specs.declared.types.Track.{Track}
use Rattle.paper_rules.specs.Record.{Fields}
use Rattle.paper_faults.specs.Fault.{Columns, when}

-- "BIB: columns 1-10 a keyword (word) or blank, 11 a pointer or blank, 12-66 text."

-- columns 1 to 11 of the records of a part, and their pointers alone
abbrev pub place_in_part : List ℕ → ℕ → List ℕ
place_in_part part i = columns_at (i * 81) 11 part

unfoldable pub places_of : List ℕ → List (List ℕ)
places_of part = list_of (place_in_part part) 0 (length part / 81)

-- columns 3 to 10 of the records of a part, as numbers
unfoldable pub eights_of : List ℕ → List ℕ
eights_of part = list_of (λ i. eight_at part (i * 81 + 2)) 0 (length part / 81)

abbrev pub pointer_at : List ℕ → ℕ → ℕ
pointer_at part i = get_or part (i * 81 + 10) 0

unfoldable pub pointers_of : List ℕ → List ℕ
pointers_of part = list_of (pointer_at part) 0 (length part / 81)

-- "The first record has a keyword. No keyword occurs twice in a section"; `bib` is the section so far
abbrev pub keyword_fault : List ℕ → Track → List ℕ → Bool
keyword_fault bib t f =
    cond (blank_to 10 f) (eqb t.section 0)
    (not (is_word 10 f) || any_of (equal_to 10 f) (places_of bib))

-- 10, "keyword missing, malformed or repeated", column 1
unfoldable pub rule10 : List ℕ → Track → Fields → Columns
rule10 bib t fs = when (keyword_fault bib t (get_or fs 0 [])) 1

-- "no pointer twice under one keyword"; `under` are the records under the keyword in hand, none where this record has
-- one
abbrev pub pointer_repeated : List ℕ → List ℕ → Bool
pointer_repeated under f =
    not (is_blank (pointer_of f)) && (blank_to 10 f && any_of (eqb (pointer_of f)) (pointers_of under))

-- 11, "bad pointer character (unused fields aside), or repeated under its keyword", column "the pointer's"
unfoldable pub rule11_text : List ℕ → Fields → Columns
rule11_text under fs = when (bad_pointer (get_or fs 0 []) || pointer_repeated under (get_or fs 0 [])) 11
