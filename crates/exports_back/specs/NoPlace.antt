-- A keyword that is not ten bytes (document 01, "Refusal numbers and their order"):
--
--   "36 no passage with that keyword place (ten bytes) and pointer byte"
use Rattle.std.specs.Prelude.{ℕ, ◌≡◌, true, List, [], ◌∷◌, ◌++◌, length}
use Rattle.paper_entry.specs.Judging.{judge_of}
use Rattle.paper_entry.specs.Answer.{refusal, first_of}
use Rattle.paper_questions.specs.Located.{row_of}
use Rattle.paper_questions.specs.Ask.{passage_asked}
use Rattle.paper_questions.specs.Refused.{section_refusals}
use Rattle.paper_index.specs.ByIndex.{passage_by_index}
use Rattle.exports_parts.specs.Questions.{keyword_place}

-- it is no place, so no passage stands there: 36 where neither 31 nor 32 nor 33 is given, and no other number
abbrev pub NoPlace : Type 0
NoPlace =
    (s : List ℕ) (n : ℕ) (keyword : List ℕ) (pointer : ℕ) → (length keyword ≡ 10 → ⊥)
    → (passage_asked s n (keyword_place keyword) pointer).answer.number
    ≡ first_of (section_refusals s (judge_of s) (row_of s n) (row_of s n).bib ++ (refusal 36 true ∷ []))

-- by an index of any numbers it is never answered; which refusal it is goes by what is read (36, or 39 where the text
-- records leave the entry, or one before these)
abbrev pub NoPlaceByIndex : Type 0
NoPlaceByIndex =
    (s t : List ℕ) (n : ℕ) (keyword : List ℕ) (pointer : ℕ) → (length keyword ≡ 10 → ⊥)
    → (passage_by_index s t n (keyword_place keyword) pointer).answer.number ≡ 0 → ⊥
