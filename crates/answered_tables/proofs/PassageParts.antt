-- The text records of a BIB section as a passage cuts them: those of the keywords before its own, its own, and those of
-- the keywords behind.
-- Assumes nothing.
use Prim.Native.Nat.{ℕ, suc, ◌+◌, ◌-◌, ◌<◌}
use mathlib.Core.Path.{◌≡◌, refl, sym, ◌∙◌, ap, subst}
use mathlib.Core.Bool.{true, not}
use mathlib.Core.List.{List, [], ◌∷◌, ◌++◌, append_assoc}
use native.Mathlib.Omega.{arith}
use lib.ListN.{length, get_or, length-append}
use Rattle.laws.specs.Walk.{All}
use Rattle.laws.proofs.Listing.{all_right}
use Rattle.paper_record.proofs.WordsAndBlanks.{word_blank}
use Rattle.paper_record.proofs.PlainColumns.{word-exactly}
use Rattle.paper_questions.specs.Passage.{has_keyword}
use Rattle.rules_plain.specs.Places.{bib_place}
use Rattle.good.specs.Parts.{Record, Keyword, Bib, texts_of}
use Rattle.good.specs.Bib.{GoodKeyword, GoodBib}
use Rattle.answered_tables.specs.Passages.{PassageIn}

texts-append : (ks js : List Keyword) → texts_of (ks ++ js) ≡ texts_of ks ++ texts_of js
unfolding texts_of
texts-append [] js = refl
texts-append (k ∷ ks) js =
    ap (λ (rs : List Record). k.first ∷ (k.more ++ rs)) (texts-append ks js)
    ∙ ap (λ (rs : List Record). k.first ∷ rs) (sym (append_assoc k.more (texts_of ks) (texts_of js)))

texts-split : (ks : List Keyword) (k : Keyword) (js : List Keyword)
    → texts_of (ks ++ (k ∷ js)) ≡ texts_of ks ++ ((k.first ∷ k.more) ++ texts_of js)
unfolding texts_of
texts-split ks k js = texts-append ks (k ∷ js)

-- the first record of keywords has one
pub first_of : (ks : List Keyword) → All GoodKeyword ks → 0 < length (texts_of ks)
    → has_keyword (bib_place (get_or (texts_of ks) 0 [])) ≡ true
unfolding texts_of
first_of [] g h = absurd (omega arith)
first_of (k ∷ ks) g h =
    ap not (word_blank (bib_place k.first) ((word-exactly 10 (bib_place k.first)).1 g.0.word))

-- ---- the cut

module _ {b : Bib} {keyword : List ℕ} {pointer : ℕ} (x : PassageIn b keyword pointer) where
  abbrev texts : List Record
  texts = texts_of b.keywords

  abbrev X : List Record
  X = texts_of x.earlier

  abbrev Y : List Record
  Y = x.own.first ∷ x.own.more

  abbrev Z : List Record
  Z = texts_of x.later

  abbrev k : ℕ
  k = length X

  abbrev p : ℕ
  p = length x.before

  pub whole : texts ≡ X ++ (Y ++ Z)
  whole = ap texts_of x.among ∙ texts-split x.earlier x.own x.later

  pub size_of : length texts ≡ k + (length Y + length Z)
  size_of = ap length whole ∙ length-append X (Y ++ Z) ∙ ap (λ (m : ℕ). k + m) (length-append Y Z)

  pub own-size : length Y ≡ p + suc (length x.run + length x.after)
  own-size =
      ap length x.split
      ∙ length-append x.before (x.head ∷ (x.run ++ x.after))
      ∙ ap (λ (m : ℕ). p + suc m) (length-append x.run x.after)

  pub own_below : (q : ℕ) → q < length Y → k + q < length texts
  own_below q h = let c = size_of in omega arith

  pub keywords-good : GoodBib b → All GoodKeyword (x.own ∷ x.later)
  keywords-good good =
      all_right GoodKeyword x.earlier (x.own ∷ x.later)
      (subst (λ (ks : List Keyword). All GoodKeyword ks) x.among good.each)
