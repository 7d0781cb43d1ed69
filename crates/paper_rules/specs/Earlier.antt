-- Headings met before, and the first of them that is equal (document 01, "BIB, headings, pointers").
use Rattle.std.specs.Prelude.{ℕ, ◌+◌, ◌*◌, ◌/◌, ◌%◌, ◌^◌, ◌≤◌, ◌<◌, ◌≡◌, Bool, cond, List, eqb, ltb, length, Option, Some, None}
use Rattle.laws.specs.Search.{first}
use Rattle.laws.specs.Turns.{Turn, go, out, run}
use Rattle.paper_record.specs.Columns.{columns_at}
use Rattle.paper_record.specs.Word.{equal_to}
use Rattle.paper_rules.specs.declared.types.HeadingPlace.{HeadingPlace}

-- the heading m, counted from 0, of a part of heading records, six to a record. An unused field is blank, and equals no
-- heading that 12 lets pass.
abbrev pub heading_at : List ℕ → ℕ → List ℕ
heading_at part m = columns_at (m / 6 * 81 + m % 6 * 11) 11 part

abbrev pub headings_in : List ℕ → ℕ
headings_in part = length part / 81 * 6

-- "A heading is compared with all earlier ones, section by section, and the search ends at the first equal heading":
-- the COMMON of 001, this subentry's COMMON, the section in hand so far, and the headings to the left in its record
pub record Earlier : Type 0 where
  pub common001 : List ℕ
  pub common : List ℕ
  pub table : List ℕ
  pub here : List ℕ
  pub left : ℕ

abbrev pub part_of : Earlier → ℕ → List ℕ
part_of e s =
    cond (eqb s 0) e.common001
    (cond (eqb s 1) e.common
    (cond (eqb s 2) e.table e.here))

abbrev pub heading_count : List ℕ → ℕ → ℕ → ℕ
heading_count part left s = cond (eqb s 3) left (headings_in part)

-- the record in hand has the headings to the left
pub record Left (part : List ℕ) (left s : ℕ) : Type 0 where
  pub few : s ≡ 3 → left ≤ headings_in part

-- the first heading of a part that is equal to f, or their number
abbrev pub equal_at : List ℕ → List ℕ → ℕ → Bool
equal_at f part m = equal_to 11 f (heading_at part m)

abbrev pub equal_in : List ℕ → List ℕ → ℕ → ℕ
equal_in f part n = first (equal_at f part) 0 n

-- more headings than any bytes hold: no place among them passes 64 bits
abbrev pub FAR : ℕ
FAR = 2 ^ 61

pub record Near (before s m : ℕ) : Type 0 where
  pub section : s < 4
  pub headings : before < FAR
  pub place : m < FAR

-- a section and a column of it, both numbered from 1; the record in hand belongs to the third section
abbrev pub place_at : ℕ → ℕ → HeadingPlace
place_at section column = record { section = section; column = column }

abbrev pub heading_found : ℕ → ℕ → ℕ → HeadingPlace
heading_found before s m = cond (eqb s 3) (place_at 3 (before + (m + 1))) (place_at (s + 1) (m + 1))

abbrev pub section_turn : List ℕ → Earlier → Unit {0} → ℕ → Turn (Unit {0}) (Option HeadingPlace)
section_turn f e u s =
    let n : ℕ = heading_count (part_of e s) e.left s in
    let m : ℕ = equal_in f (part_of e s) n in
    cond (ltb m n) (out (Some (heading_found (headings_in e.table) s m))) (go u)

abbrev pub nowhere : Unit {0} → Option HeadingPlace
nowhere u = None

-- the first earlier heading that is equal to f
unfoldable pub equal_heading : List ℕ → Earlier → Option HeadingPlace
equal_heading f e = run (section_turn f e) nowhere tt 0 4

abbrev pub earlier : List ℕ → List ℕ → List ℕ → List ℕ → ℕ → Earlier
earlier common001 common table r k =
    record { common001 = common001; common = common; table = table; here = r; left = k }
