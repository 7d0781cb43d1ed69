-- The records of a passage of a good entry stand in the run that is answered: its question is inside the entry's shape,
-- and the run is no longer and no shorter, by what begins a passage and what ends it.
-- Assumes nothing.
use Prim.Native.Nat.{ℕ, suc, ◌+◌, ◌-◌, ◌*◌, ◌<◌, ◌≤◌}
use mathlib.Core.Path.{◌≡◌, sym, ◌∙◌, ap, subst}
use mathlib.Core.Bool.{Bool, true, false, not, ◌||◌}
use mathlib.Core.List.{List, [], ◌∷◌, ◌++◌}
use native.Mathlib.Omega.{arith}
use borrow.Author.Tests.{eq-eqb}
use lib.ListN.{length, get_or, take, length-append, get_or-append}
use lib.Seq.{get_or-append-add, get_or-append_seam}
use Rattle.laws.proofs.Booleans.{differ, and_both, or-first, or-second}
use Rattle.laws.proofs.Search.{either}
use Rattle.laws.proofs.Walk.{all-at}
use Rattle.paper_record.specs.Text.{is_blank}
use Rattle.paper_record.specs.Word.{blank_to, equal_to, pointer_of}
use Rattle.paper_record.proofs.EqualColumns.{equal-taken}
use Rattle.paper_record.proofs.WordsAndBlanks.{word_blank}
use Rattle.paper_record.specs.Plain.{BlankColumns}
use Rattle.paper_record.proofs.PlainColumns.{blank-exactly, word-exactly}
use Rattle.paper_rules.specs.Text.{place_in_part}
use Rattle.paper_questions.specs.Passage.{has_keyword, begins, begins_with}
use Rattle.paper_questions.specs.Ask.{passage_asked}
use Rattle.inside.specs.Inside.{TextOf, Under, InsidePassage, RunFrom}
use Rattle.inside.proofs.PassageAnswered.{passage-answered}
use Rattle.inside.proofs.TextPlaced.{text-behind}
use Rattle.rules_plain.specs.Places.{bib_place}
use Rattle.good.specs.Parts.{Record, Bib, texts_of}
use Rattle.good.specs.Bib.{GoodBib}
use Rattle.good.specs.Good.{GoodBytes}
use Rattle.answered_tables.specs.Passages.{has_pointer, BeginsBehind, with_keyword, with_pointer, Stops}
use Rattle.answered_tables.specs.Passages.{at_keyword, at_pointer, PassageIn}
use Rattle.answered_tables.proofs.Indexed.{accepted}
use Rattle.answered_tables.proofs.Reached.{BibReached}
use Rattle.answered_tables.proofs.PassageParts.{first_of, whole, size_of, own-size, own_below, keywords-good}
use Rattle.answered_tables.proofs.TextRecords.{opening, announced, text-of, place-of}

or-neither : (p q : Bool) → p ≡ false → q ≡ false → (p || q) ≡ false
or-neither true q e f = e
or-neither false q e f = f

-- what is answered: so many records from the record with the index i on
pub record Ran (s : List ℕ) (n : ℕ) (keyword : List ℕ) (pointer i many : ℕ) : Type 0 where
  pub number : (passage_asked s n keyword pointer).answer.number ≡ 0
  pub first : (passage_asked s n keyword pointer).first ≡ i * 81
  pub bytes : (passage_asked s n keyword pointer).length ≡ many * 81

-- ---- the records under the keyword

module _ (s : List ℕ) (g : GoodBytes s) (n : ℕ) (b : Bib) (r : BibReached g.entry n b) (good : GoodBib b)
    (keyword : List ℕ) (pointer : ℕ) (x : PassageIn b keyword pointer) where
  abbrev a : ℕ
  a = length r.before

  abbrev texts : List Record
  texts = texts_of b.keywords

  abbrev X : List Record
  X = texts_of x.earlier

  abbrev Y : List Record
  Y = x.own.first ∷ x.own.more

  abbrev Z : List Record
  Z = texts_of x.later

  abbrev k : ℕ
  k = length X

  abbrev p : ℕ
  p = length x.before

  at_own : (q : ℕ) → q < length Y → place_in_part s (suc a + (k + q)) ≡ bib_place (get_or Y q [])
  at_own q h =
      place-of s g n b r good (k + q) (own_below x q h)
      ∙ ap bib_place
      (ap (λ (xs : List Record). get_or xs (k + q) []) (whole x)
      ∙ get_or-append-add X (Y ++ Z) q []
      ∙ get_or-append Y Z [] q h)

  blank-at : (q : ℕ) → q < length x.own.more → blank_to 10 (place_in_part s (suc a + (k + suc q))) ≡ true
  blank-at q h =
      let l : suc q < length Y = omega arith in
      ap (blank_to 10) (at_own (suc q) l)
      ∙ (blank-exactly 10 (bib_place (get_or x.own.more q []))).1
      (all-at (λ (y : Record). BlankColumns 10 (bib_place y)) [] x.own.more (keywords-good x good).0.blank q h)

  abbrev index : ℕ
  index = suc a + (k + p)

  head-below : p < length Y
  head-below = let c = own-size x in omega arith

  head-place : place_in_part s index ≡ bib_place x.head
  head-place =
      at_own p head-below
      ∙ ap bib_place
      (ap (λ (xs : List Record). get_or xs p []) x.split
      ∙ get_or-append_seam x.before x.head (x.run ++ x.after) [])

  own-some : 0 < length Y
  own-some = omega arith

  own-place : place_in_part s (suc a + (k + 0)) ≡ bib_place x.own.first
  own-place = at_own 0 own-some

  own-word : has_keyword (bib_place x.own.first) ≡ true
  own-word = ap not
      (word_blank (bib_place x.own.first)
      ((word-exactly 10 (bib_place x.own.first)).1 (keywords-good x good).0.word))

  begins-head : (before : List Record) (h : Record) (rest : List Record) → BeginsBehind before h
      → x.own.first ∷ x.own.more ≡ before ++ (h ∷ rest) → begins (bib_place h) ≡ true
  begins-head before h rest (with_keyword y) e =
      let z : x.own.first ≡ h = ap (λ (xs : List Record). get_or xs 0 []) e in
      or-first (has_keyword (bib_place h)) (has_pointer h)
      (subst (λ (y : Record). has_keyword (bib_place y) ≡ true) z own-word)
  begins-head before h rest (with_pointer u y q) e = or-second (has_keyword (bib_place h)) (has_pointer h) q

  begun-is : begins_with pointer (place_in_part s index) ≡ true
  begun-is =
      subst (λ (f : List ℕ). begins_with pointer f ≡ true) (sym head-place)
      (and_both
      (begins-head x.before x.head (x.run ++ x.after) x.begun x.split)
      (eq-eqb (pointer_of (bib_place x.head)) pointer x.pointed))

  no_keyword : (j : ℕ) → suc a + (k + 0) < j → j ≤ index → has_keyword (place_in_part s j) ≡ false
  no_keyword j l h =
      let q : ℕ = j - (suc a + (k + 1)) in
      let c = own-size x in
      let z : suc a + (k + suc (j - (suc a + (k + 1)))) ≡ j = omega arith in
      let m : j - (suc a + (k + 1)) < length x.own.more = omega arith in
      subst (λ (i : ℕ). has_keyword (place_in_part s i) ≡ false) z (ap not (blank-at q m))

  under : Under s n (suc a + (k + 0)) index
  under =
      record {
        text = text-of s g n b r good (k + 0) (own_below x 0 own-some);
        keyword = subst (λ (f : List ℕ). has_keyword f ≡ true) (sym own-place) own-word;
        before = omega arith;
        last = no_keyword;
      }

  inside : InsidePassage s n keyword pointer
  inside =
      record {
        index = index;
        text = text-of s g n b r good (k + p) (own_below x p head-below);
        begun = begun-is;
        keyword-at = suc a + (k + 0);
        under = under;
        same = subst (λ (w : List ℕ). equal_to 10 (place_in_part s (suc a + (k + 0))) w ≡ true) (sym x.named)
            (ap (λ (f : List ℕ). equal_to 10 f (take 10 (bib_place x.own.first))) own-place
            ∙ equal-taken 10 (bib_place x.own.first));
      }

  -- ---- where the run ends

  abbrev end : ℕ
  end = suc a + (k + (p + suc (length x.run)))

  run-below : (t : ℕ) → t < length x.run → p + suc t < length Y
  run-below t h = let c = own-size x in omega arith

  run-place : (t : ℕ) → t < length x.run
      → place_in_part s (suc a + (k + (p + suc t))) ≡ bib_place (get_or x.run t [])
  run-place t h =
      at_own (p + suc t) (run-below t h)
      ∙ ap bib_place
      (ap (λ (xs : List Record). get_or xs (p + suc t) []) x.split
      ∙ get_or-append-add x.before (x.head ∷ (x.run ++ x.after)) (suc t) []
      ∙ get_or-append x.run x.after [] t h)

  quiet : (t : ℕ) → t < length x.run → begins (place_in_part s (suc a + (k + (p + suc t)))) ≡ false
  quiet t h =
      let c = own-size x in
      let m : p + t < length x.own.more = omega arith in
      let z : suc a + (k + suc (p + t)) ≡ suc a + (k + (p + suc t)) = omega arith in
      or-neither (has_keyword (place_in_part s (suc a + (k + (p + suc t)))))
      (not (is_blank (pointer_of (place_in_part s (suc a + (k + (p + suc t)))))))
      (subst (λ (i : ℕ). has_keyword (place_in_part s i) ≡ false) z (ap not (blank-at (p + t) m)))
      (ap (λ (f : List ℕ). not (is_blank (pointer_of f))) (run-place t h)
      ∙ all-at (λ (y : Record). has_pointer y ≡ false) [] x.run x.none t h)

  -- behind the run a pointer comes, or the next keyword, where a text record comes at all
  by-stop : (after : List Record) → Stops after
      → x.own.first ∷ x.own.more ≡ x.before ++ (x.head ∷ (x.run ++ after))
      → TextOf s n end → begins (place_in_part s end) ≡ true
  by-stop after (at_pointer y ys q) e t =
      let c : length Y ≡ p + suc (length (x.run ++ (y ∷ ys))) =
      ap length e ∙ length-append x.before (x.head ∷ (x.run ++ (y ∷ ys))) in
      let d = length-append x.run (y ∷ ys) in
      let l : p + suc (length x.run) < length Y = omega arith in
      let z : place_in_part s end ≡ bib_place y =
      at_own (p + suc (length x.run)) l
      ∙ ap bib_place
      (ap (λ (xs : List Record). get_or xs (p + suc (length x.run)) []) e
      ∙ get_or-append-add x.before (x.head ∷ (x.run ++ (y ∷ ys))) (suc (length x.run)) []
      ∙ get_or-append_seam x.run y ys []) in
      subst (λ (f : List ℕ). begins f ≡ true) (sym z) (or-second (has_keyword (bib_place y)) (has_pointer y) q)
  by-stop after at_keyword e t =
      let c : length Y ≡ p + suc (length (x.run ++ [])) =
      ap length e ∙ length-append x.before (x.head ∷ (x.run ++ [])) in
      let d = length-append x.run [] in
      let f = (text-behind s (accepted s g) n a (opening s g n b r good) end t).1 in
      let h = announced s g n b r good in
      let i = size_of x in
      let u : p + suc (length x.run) ≡ length Y + 0 = omega arith in
      let some : 0 < length Z = omega arith in
      let l : k + (length Y + 0) < length texts = omega arith in
      let z : place_in_part s end ≡ bib_place (get_or Z 0 []) =
      ap (λ (m : ℕ). place_in_part s (suc a + (k + m))) u
      ∙ place-of s g n b r good (k + (length Y + 0)) l
      ∙ ap bib_place
      (ap (λ (xs : List Record). get_or xs (k + (length Y + 0)) []) (whole x)
      ∙ get_or-append-add X (Y ++ Z) (length Y + 0) []
      ∙ get_or-append-add Y Z 0 []) in
      subst (λ (f : List ℕ). begins f ≡ true) (sym z)
      (or-first (has_keyword (bib_place (get_or Z 0 []))) (has_pointer (get_or Z 0 []))
      (first_of x.later (keywords-good x good).1 some))

  past_is : (v : RunFrom s n index (passage_asked s n keyword pointer)) → v.past ≡ end
  past_is v =
      either v.past end
      (λ l.
      let some = v.some in
      let c = own-size x in
      let t : ℕ = v.past - (index + 1) in
      let z : suc a + (k + (p + suc (v.past - (index + 1)))) ≡ v.past = omega arith in
      let few : v.past - (index + 1) < length x.run = omega arith in
      let text =
      subst (λ (i : ℕ). TextOf s n i) z
      (text-of s g n b r good (k + (p + suc t)) (own_below x (p + suc t) (run-below t few))) in
      let none = subst (λ (i : ℕ). begins (place_in_part s i) ≡ false) z (quiet t few) in
      differ (sym (v.ends text) ∙ none))
      (λ l.
      either end v.past
      (λ m.
      let (text, none) = v.inside end (omega arith) m in
      differ (sym (by-stop x.after x.stops x.split text) ∙ none))
      (λ m. omega arith))

  -- ---- the run that is answered

  pub ran : Ran s n keyword pointer (suc a + (length (texts_of x.earlier) + length x.before))
      (suc (length x.run))
  unfolding inside
  ran =
      let (number, v) = passage-answered s n keyword pointer (accepted s g) inside in
      let past = past_is v in
      let many : v.past - index ≡ suc (length x.run) = omega arith in
      record { number = number; first = v.first; bytes = v.bytes ∙ ap (λ (m : ℕ). m * 81) many }
