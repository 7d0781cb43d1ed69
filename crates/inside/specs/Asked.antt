-- Nothing else is inside: a question that is answered is one about an accepted entry and lies inside its own shape.
-- With what is claimed in Inside, "answered" and "inside" are one.
use Rattle.std.specs.Prelude.{ℕ, ◌≡◌, true, List}
use Rattle.paper_record.specs.declared.types.LineNo.{LineNo}
use Rattle.paper_entry.specs.Judging.{Accepted}
use Rattle.paper_questions.specs.Ask.{value_asked, heading_asked, unit_asked, passage_asked}
use Rattle.inside.specs.Inside.{InsideValue, InsideColumn, InsidePassage, is_said}

abbrev pub ValueInside : Type 0
ValueInside =
    (s : List ℕ) (n section : ℕ) (line : LineNo) (column : ℕ) → (value_asked s n section line column).answer.number ≡ 0
    → Accepted s × InsideValue s n section line column

abbrev pub HeadingInside : Type 0
HeadingInside =
    (s : List ℕ) (n section column : ℕ) → (heading_asked s n section column).answer.number ≡ 0
    → Accepted s × InsideColumn s n section column

abbrev pub UnitInside : Type 0
UnitInside =
    (s : List ℕ) (n section column : ℕ) → (unit_asked s n section column).answer.number ≡ 0
    → Accepted s × InsideColumn s n section column

abbrev pub PassageInside : Type 0
PassageInside =
    (s : List ℕ) (n : ℕ) (keyword : List ℕ) (pointer : ℕ) → (passage_asked s n keyword pointer).answer.number ≡ 0
    → Accepted s × InsidePassage s n keyword pointer

-- so, whatever was asked: an answered value is blank or a number, an answered heading or unit is ten columns
abbrev pub AnsweredSaid : Type 0
AnsweredSaid =
    (s : List ℕ) (n section : ℕ) (line : LineNo) (column : ℕ) → (value_asked s n section line column).answer.number ≡ 0
    → is_said (value_asked s n section line column).value ≡ true

abbrev pub AnsweredTen : Type 0
AnsweredTen =
    (s : List ℕ) (n section column : ℕ)
    → ((heading_asked s n section column).answer.number ≡ 0 → (heading_asked s n section column).length ≡ 10)
    × ((unit_asked s n section column).answer.number ≡ 0 → (unit_asked s n section column).length ≡ 10)
