-- What stands under a keyword: from its record up to the next with another. For any bytes.
-- Assumes nothing.
use Prim.Native.Nat.{ℕ, zero, suc, ◌+◌, ◌<◌, ◌≤◌}
use mathlib.Core.Path.{◌≡◌, refl, ◌∙◌}
use mathlib.Core.Bool.{Bool, true, false, cond, ◌&&◌}
use mathlib.Core.List.{List}
use native.Mathlib.Omega.{arith}
use Rattle.laws.proofs.Booleans.{and_left, and_right}
use Rattle.paper_record.specs.Word.{equal_to}
use Rattle.paper_record.specs.declared.types.RecordNo.{RecordNo}
use Rattle.paper_questions.specs.Passage.{text_at, has_keyword, is_keyword}
use Rattle.paper_index.specs.PassageAnswers.{is_under}

module _ (s : List ℕ) (bib : RecordNo) (keyword : List ℕ) where
  -- ---- one record

  -- its own
  under-own : (i : ℕ) → is_keyword keyword (text_at s bib i) ≡ true → is_under s bib keyword (suc i) ≡ true
  unfolding is_under
  under-own i e =
      let f = text_at s bib i in
      rw (and_left (has_keyword f) (equal_to 10 f keyword) e) (and_right (has_keyword f) (equal_to 10 f keyword) e)

  -- one without a keyword
  under-on : (i : ℕ) → has_keyword (text_at s bib i) ≡ false → is_under s bib keyword (suc i) ≡ is_under s bib keyword i
  unfolding is_under
  under-on i e = rw e refl

  -- one with another
  under-other : (i : ℕ) → has_keyword (text_at s bib i) ≡ true → is_keyword keyword (text_at s bib i) ≡ false
      → is_under s bib keyword (suc i) ≡ false
  unfolding is_under
  under-other i k e = rw k (rw k at e)

  -- one with another or none
  under-not : (i : ℕ) → is_keyword keyword (text_at s bib i) ≡ false → is_under s bib keyword i ≡ false
      → is_under s bib keyword (suc i) ≡ false
  unfolding is_under
  under-not i e before = by-test (has_keyword (text_at s bib i)) e
    where
      by-test : (b : Bool) → (b && equal_to 10 (text_at s bib i) keyword) ≡ false
          → cond b (equal_to 10 (text_at s bib i) keyword) (is_under s bib keyword i) ≡ false
      by-test true q = q
      by-test false q = before

  -- ---- a run of records

  -- before it
  pub under-before : (e : ℕ) → ((j : ℕ) → j < e → is_keyword keyword (text_at s bib j) ≡ false)
      → is_under s bib keyword e ≡ false
  unfolding is_under
  under-before zero h = refl
  under-before (suc i) h = under-not i (h i (omega arith)) (under-before i (λ j l. h j (omega arith)))

  -- from it up to the next keyword
  pub under-from : (k e : ℕ) → is_keyword keyword (text_at s bib k) ≡ true
      → ((j : ℕ) → k < j → j ≤ k + e → has_keyword (text_at s bib j) ≡ false)
      → is_under s bib keyword (suc (k + e)) ≡ true
  under-from k zero here rest = let z : k + 0 ≡ k = omega arith in rw z (under-own k here)
  under-from k (suc e) here rest =
      let z : k + suc e ≡ suc (k + e) = omega arith in
      rw z
      (under-on (suc (k + e)) (rest (suc (k + e)) (omega arith) (omega arith))
      ∙ under-from k e here (λ j a b. rest j a (omega arith)))

  -- from another on
  pub under-behind : (u e : ℕ) → has_keyword (text_at s bib u) ≡ true
      → ((j : ℕ) → u ≤ j → j ≤ u + e → is_keyword keyword (text_at s bib j) ≡ false)
      → is_under s bib keyword (suc (u + e)) ≡ false
  under-behind u zero here rest =
      let z : u + 0 ≡ u = omega arith in
      rw z (under-other u here (rest u (omega arith) (omega arith)))
  under-behind u (suc e) here rest =
      let z : u + suc e ≡ suc (u + e) = omega arith in
      rw z
      (under-not (suc (u + e)) (rest (suc (u + e)) (omega arith) (omega arith))
      (under-behind u e here (λ j a b. rest j a (omega arith))))
