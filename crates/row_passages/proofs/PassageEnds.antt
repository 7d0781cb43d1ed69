-- Where the two searches of a passage from a row end. For any bytes.
-- Assumes nothing.
use Prim.Native.Nat.{ℕ, ◌+◌, ◌-◌, ◌<◌, ◌≤◌}
use mathlib.Core.Path.{◌≡◌, refl}
use mathlib.Core.Bool.{true, false}
use mathlib.Core.List.{List}
use native.Mathlib.Omega.{arith}
use borrow.Author.Tests.{lt-ltb, le-ltb}
use Rattle.laws.proofs.Search.{first-from, first_to}
use Rattle.laws.proofs.Counting.{first-before, first_holds}
use Rattle.paper_record.specs.declared.types.RecordNo.{RecordNo}
use Rattle.paper_questions.specs.Passage.{text_at, begins, first_text}
use Rattle.paper_index.specs.PassageAnswers.{begins_at, begun_at, ended_at}

module _ (s : List ℕ) (bib : RecordNo) where
  -- the first that begins it
  pub begun_to : (keyword : List ℕ) (pointer n : ℕ) → begun_at s bib keyword pointer n ≤ n
  unfolding begun_at
  begun_to keyword pointer n = let h = first_to (begins_at s bib keyword pointer) 0 n in omega arith

  -- and behind it the first that begins any
  module _ (p n : ℕ) (l : p < n) where
    ended_is : ended_at s bib p n ≡ first_text s bib begins (p + 1) n
    unfolding ended_at
    ended_is = rw (lt-ltb p n l) refl

    pub ended-bounds : (p < ended_at s bib p n) × (ended_at s bib p n ≤ n)
    ended-bounds =
        let a = first-from (λ m. begins (text_at s bib m)) (p + 1) (n - (p + 1)) in
        let b = first_to (λ m. begins (text_at s bib m)) (p + 1) (n - (p + 1)) in
        rw ended_is (omega arith, omega arith)

    pub ended-before : (j : ℕ) → p < j → j < ended_at s bib p n → begins (text_at s bib j) ≡ false
    ended-before j a b =
        let (c, d) = ended-bounds in
        first-before (λ m. begins (text_at s bib m)) (p + 1) (n - (p + 1)) j (omega arith) (rw ended_is at b)
        (omega arith)

    pub ended-begins : ended_at s bib p n < n → begins (text_at s bib (ended_at s bib p n)) ≡ true
    ended-begins h =
        let z = ended_is in
        rw ended_is (first_holds (λ m. begins (text_at s bib m)) (p + 1) (n - (p + 1)) (omega arith))

  pub ended-end : (p n : ℕ) → n ≤ p → ended_at s bib p n ≡ n
  unfolding ended_at
  ended-end p n l = rw (le-ltb p n l) refl
