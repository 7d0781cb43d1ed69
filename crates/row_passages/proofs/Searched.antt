-- One search over the text records finds what three find: where no two of them bear one keyword, the first that begins
-- the passage under the keyword stands between the keyword's record and the next. For any bytes.
-- Assumes nothing.
use Prim.Native.Nat.{ℕ, suc, ◌+◌, ◌-◌, ◌<◌, ◌≤◌}
use mathlib.Core.Path.{◌≡◌, refl, sym, ◌∙◌}
use mathlib.Core.Bool.{Bool, true, false, cond, ◌&&◌}
use mathlib.Core.List.{List}
use native.Mathlib.Omega.{arith}
use lib.Dec.{ltb}
use borrow.Author.Tests.{lt-ltb, le-ltb}
use Rattle.laws.proofs.Booleans.{differ, and_right}
use Rattle.laws.proofs.Search.{either, first-from, first_to, pass-first}
use Rattle.laws.proofs.Counting.{first-before, first_holds, first-is}
use Rattle.paper_record.specs.Word.{equal_to}
use Rattle.paper_record.specs.declared.types.RecordNo.{RecordNo}
use Rattle.paper_record.proofs.EqualColumns.{equal-both}
use Rattle.paper_questions.specs.declared.types.Passage.{Passage}
use Rattle.paper_questions.specs.Passage.{text_records, text_record, text_at, has_keyword, is_keyword, begins_with}
use Rattle.paper_questions.specs.Passage.{first_text, NO-PASSAGE, passage_under, passage_of}
use Rattle.paper_index.specs.PassageAnswers.{is_under, begins_at, begun_at, ended_at}
use Rattle.row_passages.proofs.UnderKeyword.{under-before, under-from, under-behind}

-- "No keyword occurs twice in a section": among the first n text records
abbrev pub KeywordOnce : List ℕ → RecordNo → ℕ → Type 0
KeywordOnce s bib n =
    (i j : ℕ) → i < n → j < i → has_keyword (text_at s bib i) ≡ true
    → equal_to 10 (text_at s bib i) (text_at s bib j) ≡ false

module _ (s : List ℕ) (bib : RecordNo) (keyword : List ℕ) (pointer n : ℕ) (once : KeywordOnce s bib n) where
  -- the record with the keyword, the next keyword, and the first with the pointer between them
  abbrev k : ℕ
  k = first_text s bib (is_keyword keyword) 0 n

  abbrev u : ℕ
  u = first_text s bib has_keyword (k + 1) n

  abbrev p : ℕ
  p = first_text s bib (begins_with pointer) k u

  -- and the one search
  abbrev test : ℕ → Bool
  test j = begins_at s bib keyword pointer j

  abbrev begun : ℕ
  begun = begun_at s bib keyword pointer n

  keyword-to : k ≤ n
  keyword-to = let h = first_to (λ m. is_keyword keyword (text_at s bib m)) 0 (n - 0) in omega arith

  -- ---- it passes what stands before the keyword

  before-keyword : (j : ℕ) → j < k → is_keyword keyword (text_at s bib j) ≡ false
  before-keyword j h =
      let l = keyword-to in
      first-before (λ m. is_keyword keyword (text_at s bib m)) 0 (n - 0) j (omega arith) h (omega arith)

  passes-before : (j : ℕ) → j < k → test j ≡ false
  passes-before j h =
      let e : is_under s bib keyword (suc j) ≡ false =
      under-before s bib keyword (suc j) (λ i l. before-keyword i (omega arith)) in
      rw e refl

  begun-unkeyed : n ≤ k → begun ≡ n
  unfolding begun_at
  begun-unkeyed h = pass-first test 0 n (λ j a b. passes-before j (omega arith)) ∙ omega arith

  module _ (keyed : k < n) where
    keyword-here : is_keyword keyword (text_at s bib k) ≡ true
    keyword-here = first_holds (λ m. is_keyword keyword (text_at s bib m)) 0 (n - 0) (omega arith)

    -- no other record bears it
    no_other : (j : ℕ) → k < j → j < n → is_keyword keyword (text_at s bib j) ≡ false
    no_other j a b = by-test (has_keyword (text_at s bib j)) refl (equal_to 10 (text_at s bib j) keyword) refl
      where
        by-test : (c : Bool) → has_keyword (text_at s bib j) ≡ c → (d : Bool) → equal_to 10 (text_at s bib j) keyword ≡ d
            → (c && d) ≡ false
        by-test false x d y = refl
        by-test true x false y = refl
        by-test true x true y =
            let here = and_right (has_keyword (text_at s bib k)) (equal_to 10 (text_at s bib k) keyword) keyword-here in
            differ (sym (equal-both 10 (text_at s bib j) (text_at s bib k) keyword y here) ∙ once j k b a x)

    next-bounds : (k < u) × (u ≤ n)
    next-bounds =
        let a = first-from (λ m. has_keyword (text_at s bib m)) (k + 1) (n - (k + 1)) in
        let b = first_to (λ m. has_keyword (text_at s bib m)) (k + 1) (n - (k + 1)) in
        (omega arith, omega arith)

    no_keyword : (j : ℕ) → k < j → j < u → has_keyword (text_at s bib j) ≡ false
    no_keyword j a b =
        let (c, d) = next-bounds in
        first-before (λ m. has_keyword (text_at s bib m)) (k + 1) (n - (k + 1)) j (omega arith) b (omega arith)

    -- ---- from the keyword up to the next it goes by the pointer

    by-pointer : (j : ℕ) → k ≤ j → j < u → test j ≡ begins_with pointer (text_at s bib j)
    by-pointer j a b =
        let z : k + (j - k) ≡ j = omega arith in
        let e : is_under s bib keyword (suc j) ≡ true =
        rw z at
        (under-from s bib keyword k (j - k) keyword-here (λ i c d. no_keyword i c (omega arith))) in
        rw e refl

    -- ---- and it passes what stands behind

    passes-behind : (j : ℕ) → u ≤ j → j < n → test j ≡ false
    passes-behind j a b =
        let (c, d) = next-bounds in
        let z : u + (j - u) ≡ j = omega arith in
        let h = first_holds (λ m. has_keyword (text_at s bib m)) (k + 1) (n - (k + 1)) (omega arith) in
        let e : is_under s bib keyword (suc j) ≡ false =
        rw z at
        (under-behind s bib keyword u (j - u) h (λ i v w. no_other i (omega arith) (omega arith))) in
        rw e refl

    no_pointer : (j : ℕ) → k ≤ j → j < p → j < u → test j ≡ false
    no_pointer j a b c =
        by-pointer j a c
        ∙ first-before (λ m. begins_with pointer (text_at s bib m)) k (u - k) j a b (omega arith)

    begun-found : p < u → begun ≡ p
    unfolding begun_at
    begun-found h =
        let (c, d) = next-bounds in
        let a = first-from (λ m. begins_with pointer (text_at s bib m)) k (u - k) in
        first-is test 0 n p (omega arith) (omega arith)
        (by-pointer p a h
        ∙ first_holds (λ m. begins_with pointer (text_at s bib m)) k (u - k) (omega arith))
        (λ j v w. either j k (λ l. passes-before j l) (λ l. no_pointer j l w (omega arith)))

    begun-none : u ≤ p → begun ≡ n
    unfolding begun_at
    begun-none h =
        pass-first test 0 n
        (λ j v w.
        either j k (λ l. passes-before j l)
        (λ l. either j u (λ m. no_pointer j l (omega arith) m) (λ m. passes-behind j m (omega arith))))
        ∙ omega arith

  -- ---- the passage

  abbrev found : Passage
  found =
      cond (ltb begun n) (record { first = text_record bib begun; records = ended_at s bib begun n - begun }) NO-PASSAGE

  -- THE TWO WAYS, for any bytes
  pub passage-found : text_records s bib ≡ n → passage_of s bib keyword pointer ≡ found
  unfolding passage_of passage_under ended_at
  passage-found t =
      rw t
      (either k n
      (λ l.
      either p u
      (λ h.
      let (c, d) = next-bounds l in
      rw (lt-ltb k n l, lt-ltb p u h, begun-found l h, lt-ltb p n (omega arith)) refl)
      (λ h. rw (lt-ltb k n l, le-ltb p u h, begun-none l h, le-ltb n n (omega arith)) refl))
      (λ l. rw (le-ltb k n l, begun-unkeyed l, le-ltb n n (omega arith)) refl))
