-- What a DECAY-DATA code is (document 02, M-106):
--
--   "optional flag (digits and a point in parentheses), nuclide (004, 3.5, S in capitals, without T), optional half-life
--   as number and unit, then radiation groups of type, energies and abundance, types and energies split by slashes [..].
--   A type is capitals, digits, + and -; a unit one to ten capitals; numbers contain no blanks and have at most eleven
--   characters. Groups go by position, none wholly empty, no comma before the closing parenthesis."
--
-- Blanks stand at the beginning of a field (000, ch. 8): before the nuclide and behind a comma, and nowhere else.
use Rattle.std.specs.Prelude.{◌≡◌, true, List, [], ◌∷◌, ◌++◌, ◌⊎◌, ℕ, ◌+◌, ◌≤◌, length, get_or}
use Rattle.laws.specs.Walk.{All}
use Rattle.paper_number.specs.Grammar.{Digits, digits_text, blanks}
use Rattle.paper_record.specs.Text.{is_capital}
use Rattle.paper_decay.specs.Characters.{is_type}
use Rattle.paper_decay.specs.Numerals.{Numeral}

-- ---- the nuclide (004, 3.5)

-- X: "G", "M", "M1", "M2", or none
pub data Isomer : Type 0 where
  unsaid ground_state metastable first second : Isomer

abbrev pub isomer_text : Isomer → List ℕ
isomer_text unsaid = []
isomer_text ground_state = 45 ∷ 71 ∷ []
isomer_text metastable = 45 ∷ 77 ∷ []
isomer_text first = 45 ∷ 77 ∷ 49 ∷ []
isomer_text second = 45 ∷ 77 ∷ 50 ∷ []

-- Z and A are digits, each by its value
pub record Nuclide : Type 0 where
  pub z : List ℕ
  pub symbol : List ℕ
  pub a : List ℕ
  pub isomer : Isomer

abbrev pub nuclide_text : Nuclide → List ℕ
nuclide_text n = digits_text n.z ++ (45 ∷ (n.symbol ++ (45 ∷ (digits_text n.a ++ isomer_text n.isomer))))

-- "up to 3 digits, no leading zeros"
pub record Short (ds : List ℕ) : Type 0 where
  pub digits : Digits ds
  pub some : 1 ≤ length ds
  pub few : length ds ≤ 3
  pub lead : get_or ds 0 0 ≡ 0 → length ds ≡ 1

abbrev pub Capital : ℕ → Type 0
Capital b = is_capital b ≡ true

pub record GoodNuclide (n : Nuclide) : Type 0 where
  pub z : Short n.z
  pub symbol : All Capital n.symbol
  pub one : 1 ≤ length n.symbol
  pub two : length n.symbol ≤ 2
  pub a : Short n.a

-- ---- the places behind the nuclide, each with a comma before it

-- "Groups go by position": the half-life, then types, energies and abundance over and over
pub data Sort : Type 0 where
  half_life types energies abundance : Sort

abbrev pub after : Sort → Sort
after half_life = types
after types = energies
after energies = abundance
after abundance = types

-- blanks at the beginning, and the characters
pub record Place : Type 0 where
  pub lead : ℕ
  pub said : List ℕ

abbrev pub places_text : List Place → List ℕ
places_text [] = []
places_text (p ∷ ps) = 44 ∷ (blanks p.lead ++ (p.said ++ places_text ps))

-- ---- what may stand in a place

-- "a unit one to ten capitals"
pub record GoodUnit (u : List ℕ) : Type 0 where
  pub capitals : All Capital u
  pub some : 1 ≤ length u
  pub few : length u ≤ 10

-- "half-life as number and unit"
pub record HalfLife (l : List ℕ) : Type 0 where
  pub number : List ℕ
  pub unit : List ℕ
  pub numeral : Numeral number
  pub capitals : GoodUnit unit
  pub same : number ++ unit ≡ l

-- words with a character between them
abbrev pub split : ℕ → List (List ℕ) → List ℕ
split c [] = []
split c (w ∷ []) = w
split c (w ∷ x ∷ ws) = w ++ (c ∷ split c (x ∷ ws))

-- "split by slashes": one or more words of a form
pub record Slashed (Word : List ℕ → Type 0) (l : List ℕ) : Type 0 where
  pub words : List (List ℕ)
  pub some : 1 ≤ length words
  pub each : All Word words
  pub same : split 47 words ≡ l

-- "A type is capitals, digits, + and -"
abbrev pub OneType : List ℕ → Type 0
OneType t = All (λ b. is_type b ≡ true) t × (1 ≤ length t)

abbrev pub Fits : Sort → List ℕ → Type 0
Fits half_life l = HalfLife l
Fits types l = Slashed OneType l
Fits energies l = Slashed Numeral l
Fits abundance l = Numeral l

abbrev pub EmptyOr : (List ℕ → Type 0) → List ℕ → Type 0
EmptyOr F l = (l ≡ []) ⊎ F l

-- each place is empty or as its position has it
abbrev pub Fitting : Sort → List Place → Type 0
Fitting s [] = Unit {0}
Fitting s (p ∷ ps) = EmptyOr (Fits s) p.said × Fitting (after s) ps

abbrev pub Empty : Place → Type 0
Empty p = p.said ≡ []

-- "no comma before the closing parenthesis": the last place is not empty
abbrev pub EndsFilled : List Place → Type 0
EndsFilled [] = Unit {0}
EndsFilled (p ∷ []) = Empty p → ⊥
EndsFilled (p ∷ q ∷ ps) = EndsFilled (q ∷ ps)

-- "none wholly empty": of each three places one is not
abbrev pub GroupsFilled : List Place → Type 0
GroupsFilled [] = Unit {0}
GroupsFilled (t ∷ []) = Unit {0}
GroupsFilled (t ∷ e ∷ []) = Unit {0}
GroupsFilled (t ∷ e ∷ a ∷ ps) = (Empty t × (Empty e × Empty a) → ⊥) × GroupsFilled ps

-- the groups stand behind the half-life's place
abbrev pub behind_first : List Place → List Place
behind_first [] = []
behind_first (p ∷ ps) = ps

pub record GoodPlaces (ps : List Place) : Type 0 where
  pub fitting : Fitting half_life ps
  pub last : EndsFilled ps
  pub groups : GroupsFilled (behind_first ps)

-- ---- the code

-- the flag's digits, none where there is no flag; the blanks before the nuclide
pub record Code : Type 0 where
  pub flag : List ℕ
  pub lead : ℕ
  pub nuclide : Nuclide
  pub places : List Place

-- "digits and a point in parentheses"
abbrev pub flag_text : List ℕ → List ℕ
flag_text [] = []
flag_text (d ∷ ds) = 40 ∷ (digits_text (d ∷ ds) ++ (46 ∷ 41 ∷ []))

unfoldable pub write : Code → List ℕ
write c =
    40 ∷ (flag_text c.flag
    ++ (blanks c.lead
    ++ (nuclide_text c.nuclide
    ++ (places_text c.places
    ++ (41 ∷ [])))))

-- the flag is a number too: with its point at most eleven characters
pub record Good (c : Code) : Type 0 where
  pub flag : Digits c.flag
  pub flag_few : length c.flag ≤ 10
  pub nuclide : GoodNuclide c.nuclide
  pub places : GoodPlaces c.places

-- the characters l are the code c; that they are one code only is the law `spelt-once`
pub record Spells (l : List ℕ) (c : Code) : Type 0 where
  pub good : Good c
  pub same : write c ≡ l

-- some code begins so
pub record Viable (l : List ℕ) : Type 0 where
  pub code : Code
  pub rest : List ℕ
  pub spells : Spells (l ++ rest) code
