-- THE THEOREM: a walk is made from the row of its subentry, by the reads of every question by a row. So of the row of an
-- accepted entry 39 is never given.
-- Assumes nothing.
use Prim.Native.Nat.{ℕ, ◌-◌}
use mathlib.Core.Path.{◌≡◌, refl, sym, ap, subst, ◌∙◌}
use mathlib.Core.Bool.{Bool, true, false, cond, not}
use mathlib.Core.List.{List, [], ◌∷◌}
use native.Mathlib.Omega.{arith}
use lib.Dec.{eqb}
use borrow.Author.Tests.{eqb-true, eqb-false, ne_eqb}
use Rattle.paper_record.specs.declared.types.RecordNo.{RecordNo}
use Rattle.paper_entry.specs.declared.types.Verdict.{Verdict}
use Rattle.paper_entry.specs.Judging.{judge_of, Accepted}
use Rattle.paper_entry.specs.Answer.{refusal, first_of, answer_of, answer_for}
use Rattle.paper_questions.specs.declared.types.Row.{Row}
use Rattle.paper_questions.specs.Located.{row_of}
use Rattle.paper_questions.specs.Place.{shape_of}
use Rattle.paper_questions.specs.Refused.{is_subent, section_in, no_section, section_refusals}
use Rattle.paper_questions.proofs.RowChanges.{opener}
use Rattle.inside.proofs.Answered.{section_no, section_of}
use Rattle.inside.proofs.Asked.{section-named}
use Rattle.paper_index.specs.Reads.{read_refusals, table_identifier, good_section}
use Rattle.row_answers.proofs.FirstRecord.{none-there}
use Rattle.row_answers.proofs.RowReads.{section-good, reads_at}
use Rattle.paper_walk.specs.declared.types.Walk.{Walk}
use Rattle.paper_walk.specs.Walk.{done_walk, walk_from, start_by, start_of, start_from_row}
use Rattle.paper_walk.specs.Claims.{start_found, StartByRow}

-- neither of these is 31
not-31 : (a b : Bool) → first_of (refusal 32 a ∷ refusal 33 b ∷ []) ≡ 31 → ⊥
not-31 true b e = omega arith
not-31 false true e = omega arith
not-31 false false e = omega arith

-- beside another number than 31 stand zeros
zeros-beside : (v : Verdict) (number : ℕ) (w : Walk) → (number ≡ 31 → ⊥)
    → cond (eqb number 0) w (done_walk (answer_for v number)) ≡ cond (eqb number 0) w (done_walk (answer_of number))
zeros-beside v number w h = rw (ne_eqb number 31 h)

identifier-of : (section : ℕ) (b : Bool) → section ≡ section_no b → opener (section_of b) ≡ table_identifier section
identifier-of section true e = rw e
identifier-of section false e = rw e

-- ---- in an accepted entry that has the subentry

module _ (s : List ℕ) (accepted : Accepted s) (n : ℕ) (some : (row_of s n).first.0 ≡ 0 → ⊥) (section : ℕ) where
  abbrev x : Row
  x = row_of s n

  abbrev at : RecordNo
  at = section_in x section

  abbrev asked : ℕ
  asked = first_of (section_refusals s (judge_of s) x at)

  abbrev read : ℕ
  read = first_of (read_refusals s x at (table_identifier section))

  table-good : (at.0 ≡ 0 → ⊥) → good_section s at (table_identifier section) ≡ true
  table-good there =
      let (b, (e, o)) = section-named s n section accepted there in
      subst (λ (k : ℕ). good_section s at k ≡ true) (identifier-of section b e)
      (section-good s accepted n (section_of b) (at.0 - 1) o at (omega (arith, there)))

  same_number : asked ≡ read
  same_number = sym (reads_at s accepted n some at (table_identifier section) table-good [])

  asked-not-31 : asked ≡ 31 → ⊥
  asked-not-31 e = not-31 (not (is_subent s x)) (no_section at) (rw accepted at e)

  from_row : start_by s (judge_of s) x section ≡ start_from_row s x section
  unfolding start_by start_from_row
  from_row =
      zeros-beside (judge_of s) asked (walk_from at (shape_of s section at)) asked-not-31
      ∙ ap (λ (number : ℕ). cond (eqb number 0) (walk_from at (shape_of s section at)) (done_walk (answer_of number)))
      same_number

-- ---- of any bytes: refused, without the subentry, or made

module _ (s : List ℕ) (n section : ℕ) where
  abbrev SameWalk : Type 0
  SameWalk = start_of s n section ≡ start_found (judge_of s) (row_of s n) (start_from_row s (row_of s n) section)

  entry-refused : eqb (judge_of s).refusal 0 ≡ false → SameWalk
  unfolding start_of start_by
  entry-refused p = rw p

  subentry-absent : eqb (judge_of s).refusal 0 ≡ true → eqb (row_of s n).first.0 0 ≡ true → SameWalk
  unfolding start_of start_by
  subentry-absent p q = rw (p, q, none-there s (row_of s n) (eqb-true _ 0 q))

  subentry-there : eqb (judge_of s).refusal 0 ≡ true → eqb (row_of s n).first.0 0 ≡ false → SameWalk
  unfolding start_of
  subentry-there p q = rw (p, q) (from_row s (eqb-true _ 0 p) n (eqb-false _ 0 q) section)

  by_tests : (p : Bool) → eqb (judge_of s).refusal 0 ≡ p → (q : Bool) → eqb (row_of s n).first.0 0 ≡ q → SameWalk
  by_tests false p q u = entry-refused p
  by_tests true p true u = subentry-absent p u
  by_tests true p false u = subentry-there p u

pub start-by-row : StartByRow
start-by-row s n section = by_tests s n section _ refl _ refl
