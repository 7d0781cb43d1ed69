-- Whichever way a value is asked for, its double is the same: by an entry's own index, and by a walk over a table.
use Rattle.std.specs.Prelude.{ℕ, ◌≡◌, List}
use Rattle.paper_number.specs.declared.types.FieldRead.{FieldRead}
use Rattle.paper_record.specs.declared.types.LineNo.{LineNo}
use Rattle.paper_entry.specs.Judging.{Accepted}
use Rattle.paper_index.specs.Rows.{index_of}
use Rattle.paper_walk.specs.Walk.{start_of, given_at, at_place}
use Rattle.paper_double_asking.specs.declared.types.DoubleAnswer.{DoubleAnswer}
use Rattle.paper_double.specs.Double.{doubled}
use Rattle.paper_double_asking.specs.Ask.{double_asked, double_by_index}

-- by its own index an accepted entry answers as it does without
abbrev pub SameDouble : Type 0
SameDouble =
    (s : List ℕ) → Accepted s → (n section : ℕ) (line : LineNo) (column : ℕ)
    → double_by_index s (index_of s) n section line column ≡ double_asked s n section line column

-- what a walk gives, turned into a double, is what the question there answers
pub record WalkedDouble (field : FieldRead) (a : DoubleAnswer) : Type 0 where
  pub answered : a.answer.number ≡ 0
  pub value : doubled field.reading ≡ a.value
  pub counted : field.digits ≡ a.digits

abbrev pub WalkDoubles : Type 0
WalkDoubles =
    (s : List ℕ) (n section : ℕ) → (start_of s n section).answer.number ≡ 0
    → (i : ℕ) (line : LineNo) (column : ℕ) (field : FieldRead) → given_at s (start_of s n section) i ≡ at_place line column field
    → WalkedDouble field (double_asked s n section line column)
