-- What is to be proved of the fields' places, as statements.
use Rattle.std.specs.Prelude.{◌≡◌, List, [], ◌∷◌, ◌++◌, ◌↔◌, ℕ, ◌+◌, ◌≤◌, ◌<◌, length, get_or, take, drop}
use Rattle.paper_number.specs.declared.types.Reading.TheVariants.{Blank}
use Rattle.paper_number.specs.Reading.{read_field}
use Rattle.paper_number.specs.Grammar.{digits_text}
use Rattle.paper_decay.specs.Code.{isomer_text, Code, write, Good, Spells, Viable}
use Rattle.paper_decay.specs.Fields.{Group as CodeGroup, fields_of, run_of}
use Rattle.paper_decay_fields.specs.declared.types.Part.{Part}
use Rattle.paper_decay_fields.specs.declared.types.NumberPart.{NumberPart}
use Rattle.paper_decay_fields.specs.Parts.{NO-PART, text_in}
use Rattle.paper_decay_fields.specs.Asked.{NO-NUMBER, NO-GROUP, head_of, no_head, group_of, type_of, energy_of}

-- ---- of a code: flag, nuclide, half-life and unit are the code's

-- "digits and a point", or none
abbrev pub flag_said : List ℕ → List ℕ
flag_said [] = []
flag_said (d ∷ ds) = digits_text (d ∷ ds) ++ (46 ∷ [])

pub record HeadSays (l : List ℕ) (c : Code) : Type 0 where
  pub number : (head_of l).number ≡ 0
  pub at : (head_of l).at ≡ 0
  pub flag : text_in l (head_of l).flag ≡ flag_said (fields_of c).flag
  pub z : text_in l (head_of l).z ≡ digits_text (fields_of c).nuclide.z
  pub symbol : text_in l (head_of l).symbol ≡ (fields_of c).nuclide.symbol
  pub a : text_in l (head_of l).a ≡ digits_text (fields_of c).nuclide.a
  -- without its hyphen
  pub isomer : text_in l (head_of l).isomer ≡ drop 1 (isomer_text (fields_of c).nuclide.isomer)
  pub half : (head_of l).half.value ≡ (fields_of c).half
  pub unit : text_in l (head_of l).unit ≡ (fields_of c).unit
  pub groups : (head_of l).groups ≡ length (fields_of c).groups

abbrev pub HeadRight : Type 0
HeadRight = (l : List ℕ) (c : Code) → Spells l c → HeadSays l c

-- ---- and so are the groups, counted from 1

abbrev pub NO-FIELDS : CodeGroup
NO-FIELDS = record { types = []; energies = []; abundance = Blank }

-- the group k + 1; none has no types, no energies and a blank abundance
abbrev pub code_group : Code → ℕ → CodeGroup
code_group c k = get_or (fields_of c).groups k NO-FIELDS

pub record GroupSays (l : List ℕ) (c : Code) (k : ℕ) : Type 0 where
  pub types : (group_of l (k + 1)).types ≡ length (code_group c k).types
  pub energies : (group_of l (k + 1)).energies ≡ length (code_group c k).energies
  pub abundance : (group_of l (k + 1)).abundance.value ≡ (code_group c k).abundance
  pub each_type : (i : ℕ) → text_in l (type_of l (k + 1) (i + 1)) ≡ get_or (code_group c k).types i []
  pub each_energy : (i : ℕ) → (energy_of l (k + 1) (i + 1)).value ≡ get_or (code_group c k).energies i Blank

abbrev pub GroupsRight : Type 0
GroupsRight = (l : List ℕ) (c : Code) → Spells l c → (k : ℕ) → GroupSays l c k

-- ---- every part lies in the characters, and a number's place holds what it reads from

abbrev pub Lies : List ℕ → Part → Type 0
Lies l p = p.first + p.length ≤ length l

-- an empty one has no place
pub record Placed (l : List ℕ) (p : Part) : Type 0 where
  pub lies : Lies l p
  pub none : p.length ≡ 0 → p.first ≡ 0

pub record Holds (l : List ℕ) (n : NumberPart) : Type 0 where
  pub placed : Placed l n.part
  pub reads : n.value ≡ read_field (text_in l n.part)

pub record PartsLie (l : List ℕ) : Type 0 where
  pub flag : Placed l (head_of l).flag
  pub z : Placed l (head_of l).z
  pub symbol : Placed l (head_of l).symbol
  pub a : Placed l (head_of l).a
  pub isomer : Placed l (head_of l).isomer
  pub half : Holds l (head_of l).half
  pub unit : Placed l (head_of l).unit
  pub abundance : (k : ℕ) → Holds l (group_of l k).abundance
  pub each_type : (k i : ℕ) → Placed l (type_of l k i)
  pub each_energy : (k i : ℕ) → Holds l (energy_of l k i)

abbrev pub PartsIn : Type 0
PartsIn = (l : List ℕ) → PartsLie l

-- ---- nothing else is a code: 50, and the first character that no code has there

-- a code, of which all characters are taken
abbrev pub CodeExactly : Type 0
CodeExactly = (l : List ℕ) → ((head_of l).number ≡ 0) ↔ ((c : Code) × Spells l c)

pub record StopsAt (l : List ℕ) (at : ℕ) : Type 0 where
  pub there : at ≤ length l
  -- what stands before begins a code, or is one and something stands behind it
  pub begun : Viable (take at l)
  -- and with the next character none begins so; or there is none
  pub no_further : at < length l → Viable (take (at + 1) l) → ⊥
  pub not_code : (c : Code) → Spells l c → ⊥

abbrev pub HeadRefused : Type 0
HeadRefused = (l : List ℕ) (at : ℕ) → (head_of l ≡ no_head at) ↔ StopsAt l at

-- no group, type or energy but those of a code
abbrev pub NoneElse : Type 0
NoneElse =
    (l : List ℕ) → ((head_of l).number ≡ 50)
    → (k i : ℕ) → (group_of l k ≡ NO-GROUP) × ((type_of l k i ≡ NO-PART) × (energy_of l k i ≡ NO-NUMBER))

-- they are numbered from 1
pub record NoneAt (l : List ℕ) (k i : ℕ) : Type 0 where
  pub group : group_of l 0 ≡ NO-GROUP
  pub group_type : type_of l 0 i ≡ NO-PART
  pub group_energy : energy_of l 0 i ≡ NO-NUMBER
  pub type : type_of l k 0 ≡ NO-PART
  pub energy : energy_of l k 0 ≡ NO-NUMBER

abbrev pub NoneAtZero : Type 0
NoneAtZero = (l : List ℕ) (k i : ℕ) → NoneAt l k i

-- and there is none behind the last
pub record NonePast (l : List ℕ) (k i : ℕ) : Type 0 where
  pub group : (head_of l).groups < k → group_of l k ≡ NO-GROUP
  pub type : (group_of l k).types < i → type_of l k i ≡ NO-PART
  pub energy : (group_of l k).energies < i → energy_of l k i ≡ NO-NUMBER

abbrev pub NoneBehind : Type 0
NoneBehind = (l : List ℕ) (k i : ℕ) → NonePast l k i

-- ---- "the run reads to the same fields": of what is asked, words and values are those of the code as it was written

pub record SameFields (l m : List ℕ) : Type 0 where
  -- both are codes
  pub number : (head_of l).number ≡ 0
  pub as_was : (head_of m).number ≡ 0
  pub flag : text_in l (head_of l).flag ≡ text_in m (head_of m).flag
  pub z : text_in l (head_of l).z ≡ text_in m (head_of m).z
  pub symbol : text_in l (head_of l).symbol ≡ text_in m (head_of m).symbol
  pub a : text_in l (head_of l).a ≡ text_in m (head_of m).a
  pub isomer : text_in l (head_of l).isomer ≡ text_in m (head_of m).isomer
  pub half : (head_of l).half.value ≡ (head_of m).half.value
  pub unit : text_in l (head_of l).unit ≡ text_in m (head_of m).unit
  pub groups : (head_of l).groups ≡ (head_of m).groups
  pub types : (k : ℕ) → (group_of l k).types ≡ (group_of m k).types
  pub energies : (k : ℕ) → (group_of l k).energies ≡ (group_of m k).energies
  pub abundance : (k : ℕ) → (group_of l k).abundance.value ≡ (group_of m k).abundance.value
  pub each_type : (k i : ℕ) → text_in l (type_of l k i) ≡ text_in m (type_of m k i)
  pub each_energy : (k i : ℕ) → (energy_of l k i).value ≡ (energy_of m k i).value

abbrev pub RunFields : Type 0
RunFields = (c : Code) → Good c → SameFields (run_of c) (write c)
