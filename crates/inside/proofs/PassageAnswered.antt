-- Demand 3, its first half, for passages: every passage inside an accepted entry is answered with its own records, and
-- a keyword and a pointer have one passage only.
-- Assumes nothing.
use Prim.Native.Nat.{ℕ, suc, ◌+◌, ◌*◌, ◌-◌, ◌<◌, ◌≤◌}
use mathlib.Core.Path.{◌≡◌, refl, sym, ◌∙◌, ap}
use mathlib.Core.Bool.{Bool, true, false, not}
use mathlib.Core.List.{List, [], ◌∷◌}
use native.Mathlib.Omega.{arith}
use lib.Dec.{eqb}
use lib.ListN.{length, get_or}
use borrow.Author.Tests.{eqb-true, eqb-false, eq-eqb, ne_eqb, le-leb, lt-ltb, not-true}
use Rattle.laws.proofs.Booleans.{differ, and_left, and_right, or-other, and_none}
use Rattle.laws.proofs.Search.{first-from, first_to}
use Rattle.laws.proofs.Counting.{first-before, first_past, first_holds, first-is}
use Rattle.paper_record.specs.Text.{is_blank}
use Rattle.paper_record.specs.Word.{equal_to, pointer_of}
use Rattle.paper_record.specs.declared.types.RecordNo.{RecordNo}
use Rattle.paper_record.proofs.EqualColumns.{equal-both, equal-taken}
use Rattle.paper_rules.specs.Text.{place_in_part}
use Rattle.paper_entry.specs.Judging.{judge_of, Accepted}
use Rattle.paper_entry.specs.Answer.{first_of, refusal}
use Rattle.paper_questions.specs.declared.types.Row.{Row}
use Rattle.paper_questions.specs.declared.types.Passage.{Passage}
use Rattle.paper_questions.specs.Located.{row_of}
use Rattle.paper_questions.specs.Place.{first_byte}
use Rattle.paper_questions.specs.Passage.{text_record, text_at, has_keyword, is_keyword, begins, begins_with, first_text}
use Rattle.paper_questions.specs.Passage.{passage_under, passage_of}
use Rattle.paper_questions.specs.Refused.{no_section, no_passage, section_refusals, passage_refusal}
use Rattle.paper_questions.specs.PartAnswers.{passage_by}
use Rattle.paper_questions.specs.Ask.{passage_asked}
use Rattle.paper_questions.proofs.InOrder.{section-none}
use Rattle.paper_questions.proofs.RowChanges.{bib}
use Rattle.inside.specs.Inside.{TextOf, InsidePassage, RunFrom, PassageAnswered, BegunInside, OnePassage}
use Rattle.inside.proofs.RecordsFrom.{place-field}
use Rattle.inside.proofs.RowWalked.{fields-at}
use Rattle.inside.proofs.RowFound.{Opening, row-names, row-subent}
use Rattle.inside.proofs.TextLaid.{texts_of, texts-there, text-laid, texts-number}
use Rattle.inside.proofs.TextPlaced.{text-placed, text-behind}
use Rattle.inside.proofs.TextsSeen.{keyword-once, pointer-once, text-under}

module _ (s : List ℕ) (accepted : Accepted s) (n : ℕ) (keyword : List ℕ) (pointer : ℕ)
    (x : InsidePassage s n keyword pointer) where
  abbrev i : ℕ
  i = x.index

  abbrev k : ℕ
  k = x.keyword-at

  -- no record before k has its keyword
  keyword-first : (j : ℕ) → TextOf s n j → j < k → is_keyword keyword (place_in_part s j) ≡ false
  keyword-first j t h = by-test (equal_to 10 (place_in_part s j) keyword) refl
    where
      by-test : (b : Bool) → equal_to 10 (place_in_part s j) keyword ≡ b → is_keyword keyword (place_in_part s j) ≡ false
      by-test true e =
          let u = x.under in
          differ
          (sym (equal-both 10 (place_in_part s k) (place_in_part s j) keyword x.same e)
          ∙ keyword-once s accepted n k j u.text t h u.keyword)
      by-test false e = and_none (has_keyword (place_in_part s j)) (equal_to 10 (place_in_part s j) keyword) e

  -- no record from k on, before i, begins with its pointer
  pointer-first : (j : ℕ) → k ≤ j → j < i → begins_with pointer (place_in_part s j) ≡ false
  pointer-first j h l =
      let u = x.under in
      let f = place_in_part s i in
      let g = place_in_part s j in
      let e : pointer_of f ≡ pointer = eqb-true (pointer_of f) pointer (and_right (begins f) _ x.begun) in
      let filled : not (is_blank (pointer_of f)) ≡ true =
      or-other (has_keyword f) _ (and_left (begins f) _ x.begun) (u.last i (omega arith) (omega arith)) in
      let once = pointer-once s accepted n k i j u x.text h l (not-true (is_blank (pointer_of f)) filled) in
      and_none (begins g) (eqb (pointer_of g) pointer)
      (ne_eqb (pointer_of g) pointer (λ q. eqb-false (pointer_of f) (pointer_of g) once (e ∙ sym q)))

  -- ---- by the section's own record

  abbrev a : ℕ
  a = (text-placed s accepted n i x.text).at

  o : Opening s n bib a
  o = (text-placed s accepted n i x.text).opening

  abbrev N : ℕ
  N = texts_of s a

  abbrev section : RecordNo
  section = (row_of s n).bib

  section-record : section.0 ≡ suc a
  section-record = row-names s accepted n bib a o

  text_at_lem : (m : ℕ) → m < N → text_at s section m ≡ place_in_part s (suc a + m)
  text_at_lem m h =
      let t = (text-laid s accepted n a o m h).there in
      let e : (text_record section m).0 ≡ suc (suc a + m) = omega (arith, section-record) in
      ap (λ (fs : List (List ℕ)). get_or fs 0 []) (fields-at s (suc a + m) (omega arith) (text_record section m) e)
      ∙ place-field s (suc a + m)

  -- the places of k and i among the text records
  abbrev q : ℕ
  q = k - suc a

  abbrev p : ℕ
  p = i - suc a

  places : ((suc a + q ≡ k) × (suc a + p ≡ i)) × ((q ≤ p) × (p < N))
  places =
      let (b, c) = text-behind s accepted n a o i x.text in
      let (d, e) = text-behind s accepted n a o k x.under.text in
      let l = x.under.before in
      ((omega arith, omega arith), (omega arith, omega arith))

  -- what holds of a record holds of the text at its place
  text-test : (test : List ℕ → Bool) (b : Bool) (m j : ℕ) → m < N → suc a + m ≡ j → test (place_in_part s j) ≡ b
      → test (text_at s section m) ≡ b
  text-test test b m j h e t = rw (text_at_lem m h, e) t

  -- the search for the keyword ends at k
  keyword-found : first_text s section (is_keyword keyword) 0 N ≡ q
  keyword-found =
      let ((d, e), (l, h)) = places in
      first-is (λ m. is_keyword keyword (text_at s section m)) 0 (N - 0) q (omega arith) (omega arith)
      (text-test (is_keyword keyword) true q k (omega arith) d (rw x.under.keyword x.same))
      (λ j b c.
      text-test (is_keyword keyword) false j (suc a + j) (omega arith) refl
      (keyword-first (suc a + j) (text-laid s accepted n a o j (omega arith)) (omega arith)))

  abbrev u : ℕ
  u = first_text s section has_keyword (q + 1) N

  -- the next keyword stands behind i
  next-keyword : (p < u) × (u ≤ N)
  next-keyword =
      let ((d, e), (l, h)) = places in
      let before =
      first_past (λ m. has_keyword (text_at s section m)) (q + 1) (N - (q + 1)) (p + 1) (omega arith) (omega arith)
      (λ m b c.
      text-test has_keyword false m (suc a + m) (omega arith) refl
      (x.under.last (suc a + m) (omega arith) (omega arith))) in
      let end = first_to (λ m. has_keyword (text_at s section m)) (q + 1) (N - (q + 1)) in
      (omega arith, omega arith)

  -- and the search for the pointer ends at i
  pointer-found : first_text s section (begins_with pointer) q u ≡ p
  pointer-found =
      let ((d, e), (l, h)) = places in
      let (b, c) = next-keyword in
      first-is (λ m. begins_with pointer (text_at s section m)) q (u - q) p l (omega arith)
      (text-test (begins_with pointer) true p i h e x.begun)
      (λ j v w.
      text-test (begins_with pointer) false j (suc a + j) (omega arith) refl
      (pointer-first (suc a + j) (omega arith) (omega arith)))

  abbrev end : ℕ
  end = first_text s section begins (p + 1) N

  abbrev found : Passage
  found = record { first = text_record section p; records = end - p }

  found-under : passage_under s section pointer q N ≡ found
  unfolding passage_under
  found-under = rw (pointer-found, lt-ltb p u next-keyword.0)

  passage-found : passage_of s section keyword pointer ≡ found
  unfolding passage_of
  passage-found =
      let ((d, e), (l, h)) = places in
      rw (texts-number s accepted n a o, keyword-found, lt-ltb q N (omega arith)) found-under

  end-bounds : (p < end) × (end ≤ N)
  end-bounds =
      let ((d, e), (l, h)) = places in
      let b = first-from (λ m. begins (text_at s section m)) (p + 1) (N - (p + 1)) in
      let c = first_to (λ m. begins (text_at s section m)) (p + 1) (N - (p + 1)) in
      (omega arith, omega arith)

  -- ---- the answer

  abbrev row : Row
  row = row_of s n

  section-there : first_of (section_refusals s (judge_of s) row section) ≡ 0
  section-there =
      let z : no_section section ≡ false = ne_eqb section.0 0 (λ e. let r = section-record in omega arith) in
      rw (accepted, row-subent s accepted n bib a o, z)

  none-refused : passage_refusal s (judge_of s) row found ≡ 0
  unfolding passage_refusal
  none-refused =
      let (b, c) = end-bounds in
      section-none s (judge_of s) row section (refusal 36 (no_passage found) ∷ []) section-there
      ∙ rw (ne_eqb (end - p) 0 (λ e. omega arith))

  first_byte_lem : first_byte (text_record section p) ≡ i * 81
  first_byte_lem = let ((d, e), (l, h)) = places in let r = section-record in omega arith

  lies : first_byte (text_record section p) + (end - p) * 81 ≤ length s
  lies =
      let ((d, e), (l, h)) = places in
      let (b, c) = end-bounds in
      let t = texts-there s accepted n a o in
      let f = first_byte_lem in
      omega arith

  answered : ((passage_asked s n keyword pointer).answer.number ≡ 0)
      × (((passage_asked s n keyword pointer).first ≡ i * 81)
      × ((passage_asked s n keyword pointer).length ≡ (end - p) * 81))
  unfolding passage_asked passage_by
  answered =
      rw (passage-found, none-refused, le-leb _ _ lies) (refl, (first_byte_lem, refl))

  -- the records of the run do not begin another
  run_inside : (j : ℕ) → i < j → j < suc a + end → TextOf s n j × (begins (place_in_part s j) ≡ false)
  run_inside j h l =
      let ((d, e), (b, c)) = places in
      let (v, w) = end-bounds in
      let m = j - suc a in
      let z : suc a + m ≡ j = omega arith in
      let none =
      first-before (λ m. begins (text_at s section m)) (p + 1) (N - (p + 1)) m (omega arith) (omega arith)
      (omega arith) in
      (rw z at (text-laid s accepted n a o m (omega arith)), rw (text_at_lem m (omega arith), z) at none)

  -- the one behind it does
  run_ends : TextOf s n (suc a + end) → begins (place_in_part s (suc a + end)) ≡ true
  run_ends t =
      let ((d, e), (b, c)) = places in
      let l = (text-behind s accepted n a o (suc a + end) t).1 in
      let here = first_holds (λ m. begins (text_at s section m)) (p + 1) (N - (p + 1)) (omega arith) in
      rw (text_at_lem end (omega arith)) at here

  run-from : RunFrom s n i (passage_asked s n keyword pointer)
  run-from =
      let ((d, e), (b, c)) = places in
      let (v, w) = end-bounds in
      let bytes : (end - p) * 81 ≡ (suc a + end - i) * 81 = omega arith in
      record {
        first = answered.1.0;
        past = suc a + end;
        some = omega arith;
        bytes = answered.1.1 ∙ bytes;
        inside = run_inside;
        ends = run_ends;
      }

-- a record that begins a passage is inside, under its own keyword and pointer
pub begun-inside : BegunInside
begun-inside s n i accepted t e =
    let (k, u) = text-under s accepted n i t in (
      k,
      (
        record {
          index = i;
          text = t;
          begun = rw (e, eq-eqb (pointer_of (place_in_part s i)) (pointer_of (place_in_part s i)) refl);
          keyword-at = k;
          under = u;
          same = equal-taken 10 (place_in_part s k);
        },
        refl,
      ),
    )

-- THE THEOREM, for passages
pub passage-answered : PassageAnswered
passage-answered s n keyword pointer accepted x =
    ((answered s accepted n keyword pointer x).0, run-from s accepted n keyword pointer x)

-- a keyword and a pointer have one passage, since the answer has one place
pub one_passage : OnePassage
one_passage s n keyword pointer accepted x y =
    let a = (passage-answered s n keyword pointer accepted x).1.first in
    let b = (passage-answered s n keyword pointer accepted y).1.first in
    omega arith
