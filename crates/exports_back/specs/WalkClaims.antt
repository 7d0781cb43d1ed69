-- What is claimed of the words and arrays of calls about a walk: they say all of it, for every entry, any five numbers and
-- whatever the arrays held. Each type is that of a law in proofs/WalkBack, under the law's name.
use Rattle.std.specs.Prelude.{ℕ, zero, suc, ◌≡◌, cond, List, eqb, get_or, Option, None}
use Rattle.paper_walk.specs.declared.types.Given.{Given}
use Rattle.paper_walk.specs.Walk.{start_of, step_of, after, given_at, at_place}
use Rattle.exports_words.specs.Words.{answer_word, answer_in}
use Rattle.exports_values.specs.Values.{reading_in}
use Rattle.exports_places.specs.Walks.{walk_numbers, walk_stored, walk_in, place_numbers, given_answer, given_stored}

-- what is given, by a word, a place and a value: what a host does with them
abbrev pub given_in : ℕ → List ℕ → List ℕ → Option Given
given_in w place value =
    cond (eqb (get_or place 0 0) 0) None (at_place (record { 0 = get_or place 1 0 }) (get_or place 2 0) (reading_in w value))

abbrev pub StartBack : Type 0
StartBack =
    (s before : List ℕ) (n section : ℕ)
    → let w = start_of s n section in
    (answer_in (answer_word w.answer) ≡ w.answer) × (w.answer.number ≡ 0 → walk_in (walk_stored before w) ≡ w)

abbrev pub GivenBack : Type 0
GivenBack =
    (s t before : List ℕ)
    → let g = (step_of s (walk_in t)).given in
    given_in (answer_word (given_answer g)) (place_numbers g) (given_stored before g) ≡ g

abbrev pub OnwardBack : Type 0
OnwardBack =
    (s t : List ℕ) → walk_in (walk_numbers (step_of s (walk_in t)).walk) ≡ (step_of s (walk_in t)).walk

-- ---- one call after another

-- the five numbers after so many calls of x4_walk_next, each with those that the one before it left
unfoldable pub numbers_after : List ℕ → List ℕ → ℕ → List ℕ
numbers_after s t zero = t
numbers_after s t (suc i) = walk_numbers (step_of s (walk_in (numbers_after s t i))).walk

-- they are where the walk stands after so many steps
abbrev pub NumbersAfter : Type 0
NumbersAfter = (s t : List ℕ) (i : ℕ) → walk_in (numbers_after s t i) ≡ after s (walk_in t) i

-- and what the call after them stores is what the walk gives there
abbrev pub CallsGive : Type 0
CallsGive =
    (s t before : List ℕ) (i : ℕ)
    → let g = (step_of s (walk_in (numbers_after s t i))).given in
    given_in (answer_word (given_answer g)) (place_numbers g) (given_stored before g) ≡ given_at s (walk_in t) i

-- from a walk that x4_walk has made on
abbrev pub CallsFromStart : Type 0
CallsFromStart =
    (s before : List ℕ) (n section i : ℕ)
    → let w = start_of s n section in
    w.answer.number ≡ 0 → walk_in (numbers_after s (walk_stored before w) i) ≡ after s w i
