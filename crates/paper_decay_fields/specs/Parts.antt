-- Where a field of a code stands in the code's characters: fields are cut at commas, types and energies at slashes, the
-- nuclide at its hyphens.
use Rattle.std.specs.Prelude.{cond, List, [], ◌∷◌, ℕ, zero, suc, ◌+◌, ◌-◌, min, eqb, leb, length, get_or, take, drop}
use Rattle.paper_number.specs.declared.types.Reading.TheVariants.{Blank}
use Rattle.paper_number.specs.Reading.{read_field}
use Rattle.paper_decay.specs.Fields.{front, cut_at}
use Rattle.paper_decay_run.specs.Run.{lead_of, without_last}
use Rattle.paper_decay_fields.specs.declared.types.Part.{Part}
use Rattle.paper_decay_fields.specs.declared.types.NumberPart.{NumberPart}

abbrev pub part : ℕ → ℕ → Part
part first length = record { first = first; length = length }

abbrev pub NO-PART : Part
NO-PART = part 0 0

-- an empty part has no place
unfoldable pub or_none : Part → Part
or_none p = cond (eqb p.length 0) NO-PART p

-- the characters of a part
abbrev pub text_in : List ℕ → Part → List ℕ
text_in l p = take p.length (drop p.first l)

-- ---- words

-- behind so many words, and a character behind each but the last
abbrev pub behind_words : List (List ℕ) → ℕ → ℕ
behind_words ws zero = 0
behind_words [] (suc k) = 0
behind_words (w ∷ []) (suc k) = length w
behind_words (w ∷ x ∷ ws) (suc k) = length w + 1 + behind_words (x ∷ ws) k

-- the word k of a text that is cut at a character, counted from 0; empty where there is none
unfoldable pub word_at : ℕ → List ℕ → ℕ → Part
word_at c l k = part (behind_words (cut_at c l) k) (length (get_or (cut_at c l) k []))

-- the same within a part
unfoldable pub word_in : ℕ → List ℕ → Part → ℕ → Part
word_in c l p k = part (p.first + (word_at c (text_in l p) k).first) (word_at c (text_in l p) k).length

-- how many there are; an empty part has none
unfoldable pub words_in : ℕ → List ℕ → Part → ℕ
words_in c l p = cond (eqb p.length 0) 0 (length (cut_at c (text_in l p)))

-- ---- fields

-- without its first characters
abbrev pub part_from : Part → ℕ → Part
part_from p k = part (p.first + k) (p.length - k)

-- its first characters alone
abbrev pub part_to : Part → ℕ → Part
part_to p k = part p.first k

-- without the blanks at its beginning
unfoldable pub unspaced : List ℕ → Part → Part
unspaced l p = part_from p (lead_of (text_in l p))

-- the field k of a code, counted from 0: flag and nuclide, half-life, then types, energies and abundance over and over
unfoldable pub field_at : List ℕ → ℕ → Part
field_at l k = unspaced l (word_at 44 (without_last l) k)

-- a number's place and its reading: "numbers [..] have at most eleven characters"
unfoldable pub number_in : List ℕ → Part → NumberPart
number_in l p = record { part = or_none p; value = cond (leb p.length 11) (read_field (text_in l p)) Blank }

-- ---- the flag and the nuclide

-- the flag, "digits and a point", stands behind two opening parentheses
unfoldable pub flag_at : List ℕ → Part
flag_at l = cond (eqb (get_or l 1 0) 40) (part 2 ((word_at 46 (drop 2 l) 0).length + 1)) NO-PART

-- the nuclide begins behind the flag's parenthesis, or behind the first
unfoldable pub nuclide_from : List ℕ → ℕ
nuclide_from l = cond (eqb (flag_at l).length 0) 1 ((flag_at l).length + 3)

-- of other characters than a code's the field may end before
unfoldable pub nuclide_at : List ℕ → Part
nuclide_at l = unspaced l (part_from (field_at l 0) (min (nuclide_from l) (field_at l 0).length))

-- ---- the half-life: its number, and its unit behind it

unfoldable pub half_at : List ℕ → Part
half_at l = part_to (field_at l 1) (front (text_in l (field_at l 1)))

unfoldable pub unit_at : List ℕ → Part
unit_at l = part_from (field_at l 1) (front (text_in l (field_at l 1)))
