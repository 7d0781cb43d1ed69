-- Demand 3 of the mission, the questions: the canonical copy of an accepted entry "answers every such question with the
-- same values and words at the same places". A question, inside the entry's shape or not, is answered or refused alike.
use Rattle.std.specs.Prelude.{ℕ, ◌≡◌, List, [], ◌∷◌}
use Rattle.paper_number.specs.Digits.{digit_count}
use Rattle.paper_canonical.specs.Replacing.{canonical}
use Rattle.paper_record.specs.declared.types.LineNo.{LineNo}
use Rattle.paper_entry.specs.Judging.{Accepted}
use Rattle.paper_questions.specs.declared.types.ValueAnswer.{ValueAnswer}
use Rattle.paper_questions.specs.declared.types.PartAnswer.{PartAnswer}
use Rattle.paper_questions.specs.Ask.{value_asked, heading_asked, unit_asked, passage_asked}
use Rattle.paper_questions.specs.PartAnswers.{bytes_in}
use Rattle.paper_copy.specs.Copy.{copy_of}
use Rattle.paper_copy.specs.Demand.{Alike}

-- ---- values

-- two answers to a question about a value: the same numbers, and values that are alike. The count of digits may differ
-- (document 02, M-104): "From then on the claim that the canonical copy answers alike leaves this count out."
pub record AlikeAnswer (a b : ValueAnswer) : Type 0 where
  pub numbers : a.answer ≡ b.answer
  pub values : Alike a.value b.value

abbrev pub SameValues : Type 0
SameValues =
    (s : List ℕ) → Accepted s → (n section : ℕ) (line : LineNo) (column : ℕ)
    → AlikeAnswer (value_asked (copy_of s) n section line column) (value_asked s n section line column)

-- why it is left out: 0.140 has three digits, and its canonical field, .14, has two
abbrev pub CountLeftOut : Type 0
CountLeftOut =
    let field : List ℕ = 32 ∷ 32 ∷ 32 ∷ 32 ∷ 32 ∷ 32 ∷ 48 ∷ 46 ∷ 49 ∷ 52 ∷ 48 ∷ [] in
    (digit_count field ≡ 3) × (digit_count (canonical field) ≡ 2)

-- ---- words: headings, units and passages

-- two answers that hand back a part, a of the entry s and b of the entry t: the same numbers, place and pointer, and
-- the same bytes there
pub record SamePart (s t : List ℕ) (a b : PartAnswer) : Type 0 where
  pub places : a ≡ b
  pub words : bytes_in s a ≡ bytes_in t b

abbrev pub SameHeadings : Type 0
SameHeadings =
    (s : List ℕ) → Accepted s → (n section column : ℕ)
    → SamePart (copy_of s) s (heading_asked (copy_of s) n section column) (heading_asked s n section column)

abbrev pub SameUnits : Type 0
SameUnits =
    (s : List ℕ) → Accepted s → (n section column : ℕ)
    → SamePart (copy_of s) s (unit_asked (copy_of s) n section column) (unit_asked s n section column)

abbrev pub SamePassages : Type 0
SamePassages =
    (s : List ℕ) → Accepted s → (n : ℕ) (keyword : List ℕ) (pointer : ℕ)
    → SamePart (copy_of s) s (passage_asked (copy_of s) n keyword pointer) (passage_asked s n keyword pointer)
