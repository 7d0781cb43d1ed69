-- The headings that may repeat, in document 02's own words: of the letters of a heading's word, with no search.
--
-- The code follows the tests of Repeats. That they say the same is stated here (`RepeatExactly`), and proved in
-- proofs/PlainRepeats.
use Rattle.std.specs.Prelude.{ℕ, ◌<◌, ◌≤◌, ◌≡◌, Bool, true, ◌↔◌, List, ◌++◌, length, get_or}
use Rattle.paper_record.specs.Text.{text}
use Rattle.paper_record.specs.Same.{SameColumns}
use Rattle.paper_record.specs.Repeats.{may_repeat}

-- "A heading is a word in ten columns": its letters are the columns before the first blank, or all ten
pub record Letters (f letters : List ℕ) : Type 0 where
  pub most : length letters ≤ 10
  pub same : SameColumns (length letters) f letters
  pub filled : (i : ℕ) → i < length letters → get_or f i 0 ≡ 32 → ⊥
  pub ends : length letters < 10 → get_or f (length letters) 0 ≡ 32

-- "E-LVL, EN-RES, FLAG (DATA only), any word ending in -ERR or -RSL, any starting with ANG and any starting with HL
-- (DATA only)"
pub data Listed (in_data : Bool) (letters : List ℕ) : Type 0 where
  e_lvl : letters ≡ text "E-LVL" → Listed in_data letters
  en_res : letters ≡ text "EN-RES" → Listed in_data letters
  flag : in_data ≡ true → letters ≡ text "FLAG" → Listed in_data letters
  ends_in_err : (front : List ℕ) → letters ≡ front ++ text "-ERR" → Listed in_data letters
  ends_in_rsl : (front : List ℕ) → letters ≡ front ++ text "-RSL" → Listed in_data letters
  starts_with_ang : (rest : List ℕ) → letters ≡ text "ANG" ++ rest → Listed in_data letters
  starts_with_hl : in_data ≡ true → (rest : List ℕ) → letters ≡ text "HL" ++ rest → Listed in_data letters

pub record MayRepeat (in_data : Bool) (f : List ℕ) : Type 0 where
  pub letters : List ℕ
  pub spelt : Letters f letters
  pub listed : Listed in_data letters

-- ---- that the tests say the same

abbrev pub RepeatExactly : Type 0
RepeatExactly = (in_data : Bool) (f : List ℕ) → (may_repeat in_data f ≡ true) ↔ MayRepeat in_data f

-- a heading has one word
abbrev pub OneWord : Type 0
OneWord = (f a b : List ℕ) → Letters f a → Letters f b → a ≡ b

-- "with a pointer or blank in the eleventh": the list looks at the word alone
abbrev pub WordAlone : Type 0
WordAlone = (in_data : Bool) (f g : List ℕ) → SameColumns 10 f g → MayRepeat in_data f → MayRepeat in_data g
