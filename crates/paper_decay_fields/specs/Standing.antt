-- Where each part of a code stands, said by the characters around it, also where the same characters stand twice.
use Rattle.std.specs.Prelude.{◌≡◌, cond, List, [], ◌∷◌, ◌++◌, ◌⊎◌, ℕ, ◌+◌, ◌-◌, ◌*◌, ◌≤◌, ◌<◌, eqb, length, get_or, take}
use Rattle.paper_number.specs.Grammar.{blanks}
use Rattle.paper_decay.specs.Code.{Code, flag_text, Spells}
use Rattle.paper_decay_fields.specs.declared.types.Part.{Part}
use Rattle.paper_decay_fields.specs.Parts.{part, text_in}
use Rattle.paper_decay_fields.specs.Asked.{head_of, group_of, type_of, energy_of}

-- how often a character stands in a text
unfoldable pub times : ℕ → List ℕ → ℕ
times c [] = 0
times c (b ∷ l) = cond (eqb b c) 1 0 + times c l

-- not empty
abbrev pub Some : Part → Type 0
Some p = 1 ≤ p.length

-- the place of the character behind a part
abbrev pub past : Part → ℕ
past p = p.first + p.length

-- a field begins behind the comma n and the blanks there, if any
pub record Opens (l : List ℕ) (n at : ℕ) : Type 0 where
  -- what stands before this comma
  pub text : List ℕ
  pub commas : times 44 text + 1 ≡ n
  pub lead : ℕ
  pub before : take at l ≡ text ++ (44 ∷ blanks lead)
  pub inside : at < length l
  pub filled : get_or l at 0 ≡ 32 → ⊥

-- a word ends at the next comma, the next slash or the last character
pub record Ends (l : List ℕ) (p : Part) : Type 0 where
  pub behind : (get_or l (past p) 0 ≡ 44) ⊎ ((get_or l (past p) 0 ≡ 47) ⊎ (past p + 1 ≡ length l))
  pub no_comma : times 44 (text_in l p) ≡ 0
  pub no_slash : times 47 (text_in l p) ≡ 0

-- a word follows another: one character stands between them
pub record Follows (c : ℕ) (l : List ℕ) (p q : Part) : Type 0 where
  pub between : get_or l (past p) 0 ≡ c
  pub next : q.first ≡ past p + 1

-- ---- flag, nuclide, half-life and unit

-- number and unit are the field behind the first comma, with nothing between them
pub record HalfStands (l : List ℕ) (number unit : Part) : Type 0 where
  pub opens : Opens l 1 number.first
  pub next : unit.first ≡ past number
  pub ends : Ends l (part number.first (number.length + unit.length))

pub record HeadStands (l : List ℕ) (c : Code) : Type 0 where
  pub flag : Some (head_of l).flag → (head_of l).flag.first ≡ 2
  -- before it stand the parenthesis, the flag in its own, and blanks
  pub z : take (head_of l).z.first l ≡ 40 ∷ (flag_text c.flag ++ blanks c.lead)
  -- a hyphen between each two
  pub symbol : Follows 45 l (head_of l).z (head_of l).symbol
  pub a : Follows 45 l (head_of l).symbol (head_of l).a
  pub isomer : Some (head_of l).isomer → Follows 45 l (head_of l).a (head_of l).isomer
  pub half : Some (head_of l).half.part → HalfStands l (head_of l).half.part (head_of l).unit
  -- no unit without a number
  pub unit : Some (head_of l).unit → Some (head_of l).half.part

-- ---- groups

-- so many words are the field behind the comma n; they are counted from 1
pub record WordsStand (l : List ℕ) (n many : ℕ) (word : ℕ → Part) : Type 0 where
  pub some : (i : ℕ) → i < many → Some (word (i + 1))
  pub first : 1 ≤ many → Opens l n (word 1).first
  pub next : (i : ℕ) → i + 1 < many → Follows 47 l (word (i + 1)) (word (i + 2))
  pub ends : (i : ℕ) → i < many → Ends l (word (i + 1))

-- "Groups go by position": before the group 1 stand two commas, and three more before each further one
pub record GroupStands (l : List ℕ) (k : ℕ) : Type 0 where
  pub types : WordsStand l (3 * k - 1) (group_of l k).types (type_of l k)
  pub energies : WordsStand l (3 * k) (group_of l k).energies (λ i. (energy_of l k i).part)
  pub abundance : Some (group_of l k).abundance.part → Opens l (3 * k + 1) (group_of l k).abundance.part.first
  pub abundance_ends : Some (group_of l k).abundance.part → Ends l (group_of l k).abundance.part

pub record Standing (l : List ℕ) (c : Code) : Type 0 where
  pub head : HeadStands l c
  pub groups : (k : ℕ) → GroupStands l k

abbrev pub PartsStand : Type 0
PartsStand = (l : List ℕ) (c : Code) → Spells l c → Standing l c

-- ---- there is one such place only

-- of a whole field
abbrev pub FieldOnce : Type 0
FieldOnce =
    (l : List ℕ) (n : ℕ) (p q : Part) → Opens l n p.first → Opens l n q.first → Ends l p → Ends l q → p ≡ q

-- of each word of a field
abbrev pub WordsOnce : Type 0
WordsOnce =
    (l : List ℕ) (n many : ℕ) (f g : ℕ → Part) → WordsStand l n many f → WordsStand l n many g
    → (i : ℕ) → i < many → f (i + 1) ≡ g (i + 1)

-- of number and unit, for a unit of so many characters
abbrev pub HalfOnce : Type 0
HalfOnce =
    (l : List ℕ) (n u m v : Part) → HalfStands l n u → HalfStands l m v → u.length ≡ v.length → (n ≡ m) × (u ≡ v)
