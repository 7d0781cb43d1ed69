-- A row by itself is an index.
-- Assumes nothing.
use Prim.Native.Nat.{ℕ, zero, suc, ◌+◌, ◌*◌, ◌/◌, ◌%◌, ◌<◌, ◌≤◌}
use mathlib.Core.Path.{◌≡◌, refl, sym, ap, ◌∙◌}
use mathlib.Core.Bool.{Bool, true, false, cond, not}
use mathlib.Core.List.{List, [], ◌∷◌}
use native.Mathlib.Omega.{arith}
use native.Mathlib.Nat.{add-zero}
use borrow.Author.Tests.{eqb-false}
use lib.Dec.{eqb}
use lib.ListN.{length, get_or, take, drop, length-drop}
use lib.Seq.{length-take-le, get_or-take, get_or-drop}
use Rattle.laws.specs.Search.{first}
use Rattle.laws.proofs.Search.{first_to}
use Rattle.laws.proofs.Counting.{first_holds}
use Rattle.paper_entry.specs.Answer.{refusal, first_of}
use Rattle.paper_questions.specs.declared.types.Row.{Row}
use Rattle.paper_index.specs.ByIndex.{row_in, has_row, rows_before, row_refusal}
use Rattle.paper_index.specs.ByIndex.{value_by_index, heading_by_index, unit_by_index, passage_by_index}
use Rattle.index_answers.specs.Alone.{row_alone, AnsweredAlone, RowAlone}

-- where neither is given
neither : (a b : Bool) → first_of (refusal 38 (not a) ∷ refusal 32 b ∷ []) ≡ 0 → b ≡ false
neither false b h = absurd (omega arith)
neither true true h = absurd (omega arith)
neither true false h = refl

module _ (t : List ℕ) (n : ℕ) (none : row_refusal t n ≡ 0) where
  abbrev i : ℕ
  i = rows_before t n

  before-few : i < length t / 5
  unfolding rows_before
  before-few =
      let e = eqb-false i (length t / 5) (neither (eqb (length t % 5) 0) (eqb i (length t / 5)) none) in
      let l = first_to (has_row t n) 0 (length t / 5) in
      omega (arith, e)

  abbrev u : List ℕ
  u = row_alone t n

  five : length u ≡ 5
  five = length-take-le 5 (drop (i * 5) t) (let l = before-few in simp length-drop (omega arith))

  numbers : (k : ℕ) → k < 5 → get_or u k 0 ≡ get_or t (i * 5 + k) 0
  numbers k h = get_or-take 5 (drop (i * 5) t) k 0 h ∙ get_or-drop (i * 5) t k 0

  found : has_row t n i ≡ true
  unfolding rows_before
  found = first_holds (has_row t n) 0 (length t / 5) (let l = before-few in omega arith)

  -- its one row has the number
  has : has_row u n 0 ≡ true
  has =
      ap (λ (m : ℕ). eqb m n) (numbers 0 (omega arith) ∙ ap (λ (m : ℕ). get_or t m 0) (add-zero (i * 5))) ∙ found

  at_once : rows_before u n ≡ 0
  unfolding rows_before first
  at_once = rw (five, has)

  pub alone-none : row_refusal u n ≡ 0
  alone-none = rw (five, at_once)

  pub alone-row : row_in u (rows_before u n) ≡ row_in t i
  alone-row =
      rw at_once
      (λ j. record {
        number = (numbers 0 (omega arith) ∙ ap (λ (m : ℕ). get_or t m 0) (add-zero (i * 5))) j;
        first = record { 0 = numbers 1 (omega arith) j };
        bib = record { 0 = numbers 2 (omega arith) j };
        common = record { 0 = numbers 3 (omega arith) j };
        «data» = record { 0 = numbers 4 (omega arith) j };
      })

-- THE THEOREM
pub row-alone : RowAlone
unfolding value_by_index heading_by_index unit_by_index passage_by_index
row-alone s t n none =
    let e = alone-none t n none in
    let x = alone-row t n none in
    record {
      value = λ section line column. rw (e, none, x) refl;
      heading = λ section column. rw (e, none, x) refl;
      unit = λ section column. rw (e, none, x) refl;
      passage = λ keyword pointer. rw (e, none, x) refl;
    }
