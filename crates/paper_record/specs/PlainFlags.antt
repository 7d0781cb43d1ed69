-- A code in plain words (document 02, M-105): letters one behind the other, with no search.
use Rattle.std.specs.Prelude.{ℕ, ◌+◌, ◌≤◌, ◌≡◌, true, ◌&&◌, ◌↔◌, List, [], ◌∷◌, ◌++◌, eqb, length, take}
use Prim.Native.Char.{code}
use Rattle.paper_number.specs.Grammar.{Digits, digits_text, num}
use Rattle.paper_record.specs.Flags.{is_code, code_number}

-- "an opening parenthesis in column 12, digits, a point, a closing parenthesis"
abbrev pub code_text : List ℕ → List ℕ
code_text digits = code "(" ∷ (digits_text digits ++ (code "." ∷ code ")" ∷ []))

-- the columns x start with the code n
pub record Code (x : List ℕ) (n : ℕ) : Type 0 where
  pub digits : List ℕ
  pub good : Digits digits
  pub some : 1 ≤ length digits
  pub starts : take (length digits + 3) x ≡ code_text digits
  pub says : num digits ≡ n

-- the columns 12 to 66 of a record
pub record TextColumns (x : List ℕ) : Type 0 where
  pub long : length x ≡ 55

-- the search finds the codes, and nothing else
abbrev pub CodeExactly : Type 0
CodeExactly = (x : List ℕ) (n : ℕ) → TextColumns x → ((is_code x && eqb n (code_number x)) ≡ true) ↔ Code x n
