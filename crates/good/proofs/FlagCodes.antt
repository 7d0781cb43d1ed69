-- The codes of a good BIB: those that the judge finds, going from record to record, are those under the keyword FLAG.
-- Assumes nothing.
use Prim.Native.Nat.{ℕ}
use mathlib.Core.Path.{◌≡◌, sym, ◌∙◌, ap}
use mathlib.Core.Bool.{Bool, true, false}
use mathlib.Core.List.{List, [], ◌∷◌, ◌++◌, append-nil}
use mathlib.Core.Logic.{◌↔◌, ◌⊎◌, inl, inr, ⊎_elim}
use native.Mathlib.Omega.{arith}
use lib.Dec.{eqb}
use Rattle.laws.specs.Blocks.{joined}
use Rattle.laws.specs.Members.{any_of}
use Rattle.laws.specs.Walk.{All}
use Rattle.laws.proofs.Booleans.{differ}
use Rattle.laws.proofs.Listing.{all_left, all_right}
use Rattle.paper_record.proofs.WordsAndBlanks.{word_blank}
use Rattle.paper_record.specs.Plain.{Word}
use Rattle.paper_record.proofs.PlainColumns.{word-exactly}
use Rattle.paper_record.specs.Flags.{is_flag}
use Rattle.paper_record.specs.PlainFlags.{Code}
use Rattle.paper_rules.specs.Codes.{under_flag, codes_from, codes_of}
use Rattle.rules_plain.specs.Places.{Some, here, further, Long, bib_place, bib_text}
use Rattle.rules_plain.specs.Texts.{NoKeyword}
use Rattle.rules_plain.specs.Flags.{CodesAre}
use Rattle.rules_plain.proofs.Somewhere.{some_at}
use Rattle.rules_plain.proofs.FlagFields.{word-exactly as flag-exactly}
use Rattle.rules_plain.proofs.FlagCodes.{blank-under, Test, first-or, codes-joined}
use Rattle.good.specs.Parts.{Record, Keyword, Bib, Section, present, absent, texts_of}
use Rattle.good.specs.Bib.{GoodKeyword, GoodBibPart, texts_of_part}
use Rattle.good.specs.Flags.{CodeUnder, CodeIn}

word-under : (u : Bool) (r : Record) → Word 10 (bib_place r) → under_flag u r ≡ is_flag (bib_place r)
word-under u r w = rw (word_blank (bib_place r) ((word-exactly 10 (bib_place r)).1 w))

module _ (n : ℕ) where
  abbrev Says : Record → Type 0
  Says r = Code (bib_text r) n

  nothing_said : Some Says [] → ⊥
  nothing_said s = let (m, l, p) = some_at Says [] [] s in omega arith

  -- ---- records under one keyword

  -- a code among these, which are under FLAG or not, or one behind them
  abbrev Met : Bool → List Record → List Record → Type 0
  Met u rs rest = ((u ≡ true) × Some Says rs) ⊎ Test n u rest

  one_more : (u v : Bool) (r : Record) (more rest : List Record) → Long r → under_flag u r ≡ v
      → Test n v (more ++ rest) ↔ Met v more rest → Test n u (r ∷ (more ++ rest)) ↔ Met v (r ∷ more) rest
  one_more u v r more rest l e behind =
      let first = first-or n u v r (more ++ rest) l e in (
        λ h. ⊎_elim (λ x. inl (x.0, here x.1)) (λ t. by_place (behind.0 t)) (first.0 h),
        λ x. first.1 (by_side x),
      )
    where
      by_place : Met v more rest → Met v (r ∷ more) rest
      by_place (inl x) = inl (x.0, further x.1)
      by_place (inr t) = inr t

      by_code : v ≡ true → Some Says (r ∷ more) → ((v ≡ true) × Says r) ⊎ Test n v (more ++ rest)
      by_code f (here s) = inl (f, s)
      by_code f (further s) = inr (behind.1 (inl (f, s)))

      by_side : Met v (r ∷ more) rest → ((v ≡ true) × Says r) ⊎ Test n v (more ++ rest)
      by_side (inl x) = by_code x.0 x.1
      by_side (inr t) = inr (behind.1 (inr t))

  more-codes : (u : Bool) (more rest : List Record) → All NoKeyword more → All Long more
      → Test n u (more ++ rest) ↔ Met u more rest
  more-codes u [] rest b l = (λ t. inr t, λ x. ⊎_elim (λ y. absurd (nothing_said y.1)) (λ t. t) x)
  more-codes u (r ∷ more) rest b l =
      one_more u u r more rest l.0 (blank-under u r b.0) (more-codes u more rest b.1 l.1)

  -- ---- keywords

  keyword-codes : (u : Bool) (k : Keyword) (rest : List Record) → GoodKeyword k
      → All Long (k.first ∷ (k.more ++ rest))
      → Test n u (k.first ∷ (k.more ++ rest)) ↔ Met (is_flag (bib_place k.first)) (k.first ∷ k.more) rest
  keyword-codes u k rest g l =
      let v = is_flag (bib_place k.first) in
      one_more u v k.first k.more rest l.0 (word-under u k.first g.word)
      (more-codes v k.more rest g.blank (all_left Long k.more rest l.1))

  -- whether the record before is under FLAG plays no part where a keyword comes: u is any
  keywords-codes : (u : Bool) (ks : List Keyword) → All GoodKeyword ks → All Long (texts_of ks) → Some (CodeUnder n) ks
      → Test n u (texts_of ks)
  unfolding texts_of
  keywords-codes u [] g l x3 = elim x3 [ ]
  keywords-codes u (k ∷ ks) g l (here c) =
      (keyword-codes u k (texts_of ks) g.0 l).1 (inl ((flag-exactly (bib_place k.first)).1 c.named, c.code))
  keywords-codes u (k ∷ ks) g l (further s) =
      let v = is_flag (bib_place k.first) in
      (keyword-codes u k (texts_of ks) g.0 l).1
      (inr (keywords-codes v ks g.1 (all_right Long k.more (texts_of ks) l.1) s))

  codes-keywords : (u : Bool) (ks : List Keyword) → All GoodKeyword ks → All Long (texts_of ks)
      → Test n u (texts_of ks) → Some (CodeUnder n) ks
  unfolding texts_of codes_from any_of
  codes-keywords u [] g l h = differ (sym h)
  codes-keywords u (k ∷ ks) g l h =
      ⊎_elim
      (λ x. here (record { named = (flag-exactly (bib_place k.first)).0 x.0; code = x.1 }))
      (λ t.
      further
      (codes-keywords (is_flag (bib_place k.first)) ks g.1 (all_right Long k.more (texts_of ks) l.1) t))
      ((keyword-codes u k (texts_of ks) g.0 l).0 h)

-- ---- the bytes of a BIB

pub bib-codes : (part : Section Bib) → GoodBibPart part → All Long (texts_of_part part)
    → CodesAre (codes_of (joined (texts_of_part part))) (CodeIn part)
unfolding codes_from any_of
bib-codes (present b) g a n =
    let e = ap (any_of (eqb n)) (codes-joined (texts_of b.keywords) a) in (
      λ h. codes-keywords n false b.keywords g.each a (sym e ∙ h),
      λ s. e ∙ keywords-codes n false b.keywords g.each a s,
    )
bib-codes (absent r) g a n =
    (λ h. differ (sym h ∙ ap (any_of (eqb n)) (codes-joined [] tt)), λ s. absurd s)

-- inside 001 nothing is kept of 001 as yet
pub own-codes : (bib : List ℕ) (Own : ℕ → Type 0) → CodesAre (codes_of bib) Own
    → CodesAre (codes_of bib ++ codes_of []) Own
unfolding codes_from joined
own-codes bib Own a n =
    let e : codes_of [] ≡ [] = codes-joined [] tt in
    let q = ap (λ (x : List ℕ). codes_of bib ++ x) e ∙ append-nil (codes_of bib) in
    let w = ap (any_of (eqb n)) q in
    (λ h. (a n).0 (sym w ∙ h), λ x. w ∙ (a n).1 x)
