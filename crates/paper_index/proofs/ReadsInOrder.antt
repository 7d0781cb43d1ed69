-- The refusals of the row's two records come first, in their order: what is refused later waits for them.
-- Assumes nothing.
use Prim.Native.Nat.{ℕ, ◌≤◌}
use mathlib.Core.Path.{◌≡◌, refl, sym, ◌∙◌}
use mathlib.Core.Bool.{Bool, true, false, not, ◌&&◌}
use mathlib.Core.List.{List, [], ◌∷◌, ◌++◌}
use native.Mathlib.Omega.{arith}
use lib.Dec.{leb}
use borrow.Author.Tests.{leb-true}
use Rattle.laws.proofs.Booleans.{and_left, and_right}
use Rattle.paper_record.specs.declared.types.RecordNo.{RecordNo}
use Rattle.paper_rules.specs.Limits.{MOST-RECORDS}
use Rattle.paper_entry.specs.Answer.{Refusal, refusal, first_of}
use Rattle.paper_entry.proofs.Firsts.{first-given, none-given}
use Rattle.paper_questions.specs.declared.types.Row.{Row}
use Rattle.paper_questions.specs.Place.{has_record, fields_at}
use Rattle.paper_questions.specs.Refused.{no_section}
use Rattle.paper_index.specs.Reads.{in_entry, is_there, is_nosubent, good_first, good_counts, good_section, read_refusals}

abbrev four : Bool → Bool → Bool → Bool → List Refusal → List Refusal
four a b c d ys = refusal 32 a ∷ refusal 39 b ∷ refusal 33 c ∷ refusal 39 d ∷ ys

last-four : (a b c d : Bool) → first_of (four a b c (not d) []) ≡ 0 → d ≡ true
last-four true b c d e = absurd (omega arith)
last-four false true c d e = absurd (omega arith)
last-four false false true d e = absurd (omega arith)
last-four false false false true e = refl
last-four false false false false e = absurd (omega arith)

module _ (s : List ℕ) (x : Row) (at : RecordNo) (identifier : ℕ) where
  pub read_none : (ys : List Refusal) → first_of (read_refusals s x at identifier) ≡ 0
      → first_of (read_refusals s x at identifier ++ ys) ≡ first_of ys
  read_none ys e = none-given (read_refusals s x at identifier) ys refl e

  pub read_first : (ys : List Refusal) → (first_of (read_refusals s x at identifier) ≡ 0 → ⊥)
      → first_of (read_refusals s x at identifier ++ ys) ≡ first_of (read_refusals s x at identifier)
  read_first ys h = first-given (read_refusals s x at identifier) ys h

  -- a section that is read is one of the entry's 20,000 records at most
  there : good_section s at identifier ≡ true → in_entry s at ≡ true
  unfolding good_section
  there g =
      and_left (in_entry s at) _
      (and_left (is_there s at identifier) (good_counts identifier (fields_at s at)) g)

  pub section-there : first_of (read_refusals s x at identifier) ≡ 0 → at.0 ≤ MOST-RECORDS
  section-there e =
      let g =
      there (last-four (is_nosubent s x) (not (good_first s x)) (no_section at) (good_section s at identifier) e) in
      leb-true at.0 MOST-RECORDS (and_right (has_record s at) (leb at.0 MOST-RECORDS) g)

  abbrev of_first : List Refusal
  of_first = refusal 32 (is_nosubent s x) ∷ refusal 39 (not (good_first s x)) ∷ []

  abbrev of_section : List Refusal
  of_section = refusal 33 (no_section at) ∷ refusal 39 (not (good_section s at identifier)) ∷ []

  -- the subentry's first record decides, or waits for the section's
  pub first-refused : (n : ℕ) → n ≡ first_of (refusal 32 (is_nosubent s x) ∷ refusal 39 (not (good_first s x)) ∷ [])
      → (n ≡ 0 → ⊥) → first_of (read_refusals s x at identifier) ≡ n
  first-refused n e h = first-given of_first of_section (λ z. h (e ∙ z)) ∙ sym e

  pub first_read : first_of (refusal 32 (is_nosubent s x) ∷ refusal 39 (not (good_first s x)) ∷ []) ≡ 0
      → first_of (read_refusals s x at identifier)
      ≡ first_of (refusal 33 (no_section at) ∷ refusal 39 (not (good_section s at identifier)) ∷ [])
  first_read e = none-given of_first of_section refl e
