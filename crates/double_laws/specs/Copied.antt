-- Demand 3 of the mission, for doubles: the canonical copy of an accepted entry "answers every such question with the same
-- values": the same one of the three, and the same double or decimal. A question outside the shape is refused alike.
use Rattle.std.specs.Prelude.{ℕ, ◌≡◌, List}
use Rattle.paper_record.specs.declared.types.LineNo.{LineNo}
use Rattle.paper_entry.specs.Judging.{Accepted}
use Rattle.paper_copy.specs.Copy.{copy_of}
use Rattle.paper_double_asking.specs.declared.types.DoubleAnswer.{DoubleAnswer}
use Rattle.paper_double_asking.specs.Ask.{double_asked}

-- the count of digits is left out, as it is of values (`AlikeAnswer`, demand3)
pub record AlikeDouble (a b : DoubleAnswer) : Type 0 where
  pub numbers : a.answer ≡ b.answer
  pub values : a.value ≡ b.value

abbrev pub DoubleCopied : Type 0
DoubleCopied =
    (s : List ℕ) → Accepted s → (n section : ℕ) (line : LineNo) (column : ℕ)
    → AlikeDouble (double_asked (copy_of s) n section line column) (double_asked s n section line column)
