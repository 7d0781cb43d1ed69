-- A walk from a row begins at the table's first place, or is done where a read is refused.
-- Assumes nothing.
use Prim.Native.Nat.{ℕ}
use mathlib.Core.Path.{◌≡◌, refl}
use mathlib.Core.List.{List}
use borrow.Author.Tests.{ne_eqb, eq-eqb}
use Rattle.paper_record.specs.declared.types.RecordNo.{RecordNo}
use Rattle.paper_entry.specs.Answer.{first_of, answer_of}
use Rattle.paper_questions.specs.declared.types.Row.{Row}
use Rattle.paper_questions.specs.declared.types.Shape.{Shape}
use Rattle.paper_questions.specs.Place.{shape_of}
use Rattle.paper_questions.specs.Refused.{section_in}
use Rattle.paper_index.specs.Reads.{read_refusals, table_identifier}
use Rattle.paper_walk.specs.Walk.{done_walk, walk_from, start_from_row}

module _ (s : List ℕ) (x : Row) (section : ℕ) where
  pub begun-refused : (n : ℕ) → n ≡ first_of (read_refusals s x (section_in x section) (table_identifier section))
      → (n ≡ 0 → ⊥) → done_walk (answer_of n) ≡ start_from_row s x section
  unfolding start_from_row
  begun-refused n e h = rw (← e, ne_eqb n 0 h) refl

  pub begun-made : (at : RecordNo) → at ≡ section_in x section
      → first_of (read_refusals s x (section_in x section) (table_identifier section)) ≡ 0
      → (shape : Shape) → shape ≡ shape_of s section (section_in x section) → walk_from at shape ≡ start_from_row s x section
  unfolding start_from_row
  begun-made at found z shape e =
      rw (
        eq-eqb (first_of (read_refusals s x (section_in x section) (table_identifier section))) 0 z,
        found,
        e,
      ) refl
