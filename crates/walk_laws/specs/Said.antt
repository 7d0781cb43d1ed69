-- What a walk over an accepted entry gives is blank or a number: 15, which would stand for a malformed field, is never
-- said of it.
use Rattle.std.specs.Prelude.{ℕ, ◌≡◌, true, List}
use Rattle.paper_number.specs.declared.types.FieldRead.{FieldRead}
use Rattle.paper_record.specs.declared.types.LineNo.{LineNo}
use Rattle.inside.specs.Inside.{is_said}
use Rattle.paper_walk.specs.Walk.{start_of, given_at, at_place}

abbrev pub WalkSaid : Type 0
WalkSaid =
    (s : List ℕ) (n section : ℕ) → (start_of s n section).answer.number ≡ 0
    → (i : ℕ) (line : LineNo) (column : ℕ) (field : FieldRead) → given_at s (start_of s n section) i ≡ at_place line column field
    → is_said field.reading ≡ true
