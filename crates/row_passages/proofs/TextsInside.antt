-- The text records that lie inside the entry, and what each of them begins, said plainly.
-- Assumes nothing.
use Prim.Native.Nat.{ℕ, zero, suc, ◌+◌, ◌-◌, ◌/◌, ◌<◌, ◌≤◌}
use mathlib.Core.Path.{◌≡◌, refl, sym}
use mathlib.Core.Bool.{Bool, true, false, cond}
use mathlib.Core.List.{List}
use mathlib.Core.Logic.{◌↔◌}
use native.Mathlib.Omega.{arith}
use lib.Dec.{eqb, leb}
use lib.ListN.{length}
use borrow.Author.Tests.{eqb-true, eq-eqb, leb-true, leb-false}
use Rattle.laws.proofs.Booleans.{differ, and_left, and_right, and_both}
use Rattle.laws.proofs.Search.{either}
use Rattle.paper_record.specs.Word.{equal_to, pointer_of}
use Rattle.paper_record.specs.declared.types.RecordNo.{RecordNo}
use Rattle.paper_rules.specs.Limits.{MOST-RECORDS}
use Rattle.paper_questions.specs.Passage.{text_at, has_keyword, begins, begins_with}
use Rattle.paper_index.specs.PassageAnswers.{least, records_held, texts_counted, texts_held, is_under, begins_at}
use Rattle.row_passages.specs.Plain.{TextInside, Under, Begins}
use Rattle.row_passages.proofs.UnderKeyword.{under-from}

-- ---- the lesser of two

least-below : (a b : ℕ) → (least a b ≤ a) × (least a b ≤ b)
least-below a b = by-test (leb a b) refl
  where
    by-test : (t : Bool) → leb a b ≡ t → (cond t a b ≤ a) × (cond t a b ≤ b)
    by-test true e = let h = leb-true a b e in (omega arith, omega arith)
    by-test false e = let h = leb-false a b e in (omega arith, omega arith)

below-least : (j a b : ℕ) → j ≤ a → j ≤ b → j ≤ least a b
below-least j a b p q = by-test (leb a b)
  where
    by-test : (t : Bool) → j ≤ cond t a b
    by-test true = p
    by-test false = q

-- ---- those inside

module _ (s : List ℕ) (bib : RecordNo) where
  pub held-counted : texts_held s bib ≤ texts_counted s bib
  held-counted = (least-below (texts_counted s bib) (records_held s - bib.0)).0

  pub held-inside : (j : ℕ) → j < texts_held s bib → TextInside s bib j
  held-inside j h =
      let a = (least-below (texts_counted s bib) (records_held s - bib.0)).1 in
      let (b, c) = least-below (length s / 81) MOST-RECORDS in
      record { bytes = omega arith; few = omega arith }

  pub inside-held : (j : ℕ) → j < texts_counted s bib → TextInside s bib j → j < texts_held s bib
  inside-held j h x =
      let l = below-least (bib.0 + (j + 1)) (length s / 81) MOST-RECORDS (omega (arith, x.bytes))
      (omega (arith, x.few)) in
      let m = below-least (j + 1) (texts_counted s bib) (records_held s - bib.0) (omega arith) (omega arith) in
      omega arith

  -- ---- under the keyword

  module _ (keyword : List ℕ) where
    under-plain : (i : ℕ) → is_under s bib keyword (suc i) ≡ true → Under s bib keyword i
    unfolding is_under
    under-plain zero e = by-test (has_keyword (text_at s bib 0)) refl e
      where
        by-test : (b : Bool) → has_keyword (text_at s bib 0) ≡ b
            → cond b (equal_to 10 (text_at s bib 0) keyword) false ≡ true → Under s bib keyword 0
        by-test true q e =
            record { at = 0; before = omega arith; own = q; same = e; last = λ j a b. absurd (omega arith) }
        by-test false q e = differ (sym e)
    under-plain (suc i) e = by-test (has_keyword (text_at s bib (suc i))) refl e (under-plain i)
      where
        by-test : (b : Bool) → has_keyword (text_at s bib (suc i)) ≡ b
            → cond b (equal_to 10 (text_at s bib (suc i)) keyword) (is_under s bib keyword (suc i)) ≡ true
            → (is_under s bib keyword (suc i) ≡ true → Under s bib keyword i) → Under s bib keyword (suc i)
        by-test true q e rest =
            record { at = suc i; before = omega arith; own = q; same = e; last = λ j a b. absurd (omega arith) }
        by-test false q e rest =
            let u = rest e in
            record {
              at = u.at;
              before = omega (arith, u.before);
              own = u.own;
              same = u.same;
              last =
                  λ j a b.
                  either j (suc i) (λ l. u.last j a (omega arith))
                  (λ l. let z : j ≡ suc i = omega arith in rw z q);
            }

    plain-under : (i : ℕ) → Under s bib keyword i → is_under s bib keyword (suc i) ≡ true
    plain-under i u =
        let z : u.at + (i - u.at) ≡ i = omega (arith, u.before) in
        rw z at
        (under-from s bib keyword u.at (i - u.at) (and_both u.own u.same)
        (λ j a b. u.last j a (omega arith)))

    -- ---- what begins there

    pub begins-plain : (pointer i : ℕ) → (begins_at s bib keyword pointer i ≡ true) ↔ Begins s bib keyword pointer i
    begins-plain pointer i = (
      λ e.
          let f = text_at s bib i in
          let w = and_right (is_under s bib keyword (suc i)) (begins_with pointer f) e in
          record {
            under = under-plain i (and_left (is_under s bib keyword (suc i)) (begins_with pointer f) e);
            begun = and_left (begins f) (eqb (pointer_of f) pointer) w;
            pointed = eqb-true (pointer_of f) pointer (and_right (begins f) (eqb (pointer_of f) pointer) w);
          },
      λ b.
          and_both (plain-under i b.under)
          (and_both b.begun (eq-eqb (pointer_of (text_at s bib i)) pointer b.pointed)),
    )
