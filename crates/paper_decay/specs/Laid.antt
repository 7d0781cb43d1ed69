-- A code in the records of its passage (document 02, M-106): "a code breaks (rest of the record blank) only after a
-- comma and goes on in column 12; text after it is passed over".
use Rattle.std.specs.Prelude.{List, ◌∷◌, ◌++◌, ℕ, ◌+◌, ◌-◌}
use Rattle.laws.specs.Members.{list_of}
use Rattle.paper_number.specs.Grammar.{blanks}
use Rattle.paper_decay.specs.Records.{text_at}
use Rattle.paper_decay.specs.Code.{Code, write, Good}

-- columns 12 to 66 of the records from one index up to another
abbrev pub texts_of : List ℕ → ℕ → ℕ → List (List ℕ)
texts_of s from past = list_of (text_at s) from (past - from)

-- the texts of records, and the characters that stand in them up to the end of a code
pub data Laid : List (List ℕ) → List ℕ → Type 0 where
  -- "text after it is passed over"
  ends : (t rest : List ℕ) (rs : List (List ℕ)) → Laid ((t ++ rest) ∷ rs) t
  -- "breaks (rest of the record blank) only after a comma and goes on in column 12"; with b something follows, so that no
  -- code ends in its break
  breaks : (t : List ℕ) (k : ℕ) (b : ℕ) (u : List ℕ) (rs : List (List ℕ)) → Laid rs (b ∷ u)
      → Laid ((t ++ (44 ∷ blanks k)) ∷ rs) (t ++ (44 ∷ b ∷ u))

-- some code is laid in the records from one index up to another
pub record CodeLaid (s : List ℕ) (from past : ℕ) : Type 0 where
  pub code : Code
  pub good : Good code
  pub laid : Laid (texts_of s from past) (write code)
