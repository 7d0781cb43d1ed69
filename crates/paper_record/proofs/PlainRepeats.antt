-- What is computed of a heading's word is what is said plainly of its letters. Assumes nothing.
use Prim.Native.Nat.{ℕ, ◌+◌, ◌-◌, ◌<◌, ◌≤◌}
use mathlib.Core.Path.{◌≡◌, refl, sym, ap, ◌∙◌}
use Prim.Native.String.{String}
use mathlib.Core.Bool.{Bool, true, false, ◌&&◌, ◌||◌}
use mathlib.Core.Logic.{◌↔◌}
use mathlib.Core.List.{List, ◌++◌}
use native.Mathlib.Omega.{arith}
use lib.Dec.{eqb, leb}
use lib.ListN.{length, get_or, drop, get_or-append, length-append}
use lib.Seq.{get_or-take, get_or-drop, get_or-append-add, ext_get_or}
use borrow.Author.Tests.{eqb-true, eqb-false, eq-eqb, leb-true, le-leb}
use Rattle.laws.specs.Members.{list_of}
use Rattle.laws.proofs.Booleans.{and_both, and_left, and_right, or-either, or-first, or-second}
use Rattle.laws.proofs.Counting.{first-before, first_holds}
use Rattle.laws.proofs.Listing.{list-split}
use Rattle.laws.proofs.Members.{list_at, list_length}
use Rattle.laws.proofs.Search.{either, first_to}
use Rattle.paper_record.specs.Columns.{columns_at}
use Rattle.paper_record.specs.Text.{text}
use Rattle.paper_record.specs.Word.{blank_at, word_end}
use Rattle.paper_record.proofs.EqualColumns.{equal-at, at-equal}
use Rattle.paper_record.specs.Repeats.{letters_at, spells, ends_in, starts_with}
use Rattle.paper_record.specs.Repeats.{listed_word, listed_ending, listed_start, may_repeat}
use Rattle.paper_record.specs.PlainRepeats.{Letters, Listed, RepeatExactly, OneWord, WordAlone}
use Rattle.paper_record.specs.PlainRepeats.{e_lvl, en_res, flag, ends_in_err, ends_in_rsl}
use Rattle.paper_record.specs.PlainRepeats.{starts_with_ang, starts_with_hl}

-- ---- the letters are those that the search for a blank passes

-- two such lists have one length: the column behind the shorter one would be blank, and a letter of the longer
not-longer : (f a b : List ℕ) → Letters f a → Letters f b → length a < length b → ⊥
not-longer f a b p q l = let m = q.most in q.filled (length a) l (p.ends (omega arith))

pub one_word : OneWord
one_word f a b p q =
    let n : length a ≡ length b =
    either (length a) (length b) (λ l. absurd (not-longer f a b p q l))
    (λ l. either (length b) (length a) (λ m. absurd (not-longer f b a q p m)) (λ m. omega arith)) in
    ext_get_or 0 a b n (λ i l. sym (p.same i l) ∙ q.same i (omega arith))

column_in : List ℕ → ℕ → ℕ
column_in f i = get_or f i 0

abbrev letters_of : List ℕ → List ℕ
letters_of f = list_of (column_in f) 0 (word_end 10 f)

end-most : (f : List ℕ) → word_end 10 f ≤ 10
end-most f = first_to (blank_at f) 0 10

letters-long : (f : List ℕ) → length (letters_of f) ≡ word_end 10 f
letters-long f = list_length (column_in f) 0 (word_end 10 f)

letters-are : (f : List ℕ) → Letters f (letters_of f)
unfolding column_in
letters-are f =
    let n = letters-long f in
    let m = end-most f in
    record {
      most = omega arith;
      same = λ i l.
          let z : 0 + i ≡ i = omega arith in sym (rw z at (list_at (column_in f) 0 (word_end 10 f) i 0 (omega arith)));
      filled = λ i l.
          eqb-false (get_or f i 0) 32 (first-before (blank_at f) 0 10 i (omega arith) (omega arith) (omega arith));
      ends = λ l. rw n (eqb-true (get_or f (word_end 10 f) 0) 32 (first_holds (blank_at f) 0 10 (omega arith)));
    }

-- ---- letters at a place

module _ (f : List ℕ) (i : ℕ) (w : List ℕ) where
  column-at : (k : ℕ) → k < length w → get_or (columns_at i (length w) f) k 0 ≡ get_or f (i + k) 0
  column-at k l = get_or-take (length w) (drop i f) k 0 l ∙ get_or-drop i f k 0

  at-letters : letters_at f i w ≡ true → list_of (column_in f) i (length w) ≡ w
  unfolding letters_at column_in
  at-letters e =
      let n = list_length (column_in f) i (length w) in
      ext_get_or 0 (list_of (column_in f) i (length w)) w n
      (λ k l.
      list_at (column_in f) i (length w) k 0 (omega arith) ∙ sym (column-at k (omega arith))
      ∙ equal-at (length w) (columns_at i (length w) f) w e k (omega arith))

  letters-at : ((k : ℕ) → k < length w → get_or f (i + k) 0 ≡ get_or w k 0) → letters_at f i w ≡ true
  unfolding letters_at
  letters-at h = at-equal (length w) (columns_at i (length w) f) w (λ k l. column-at k l ∙ h k l)

letters-many : (f x : List ℕ) → letters_of f ≡ x → word_end 10 f ≡ length x
letters-many f x e = sym (letters-long f) ∙ ap length e

-- a letter of the word stands in its column
letter : (f x : List ℕ) → letters_of f ≡ x → (k : ℕ) → k < length x → get_or f k 0 ≡ get_or x k 0
unfolding column_in
letter f x e k l =
    let n = letters-many f x e in
    let z : 0 + k ≡ k = omega arith in
    sym (rw z at (list_at (column_in f) 0 (word_end 10 f) k 0 (omega arith))) ∙ ap (λ (y : List ℕ). get_or y k 0) e

-- ---- the three tests

module _ (f w : List ℕ) where
  spells-exactly : (spells f w ≡ true) ↔ (letters_of f ≡ w)
  unfolding spells
  spells-exactly = (
    λ h.
        let n = eqb-true (word_end 10 f) (length w) (and_left (eqb (word_end 10 f) (length w)) (letters_at f 0 w) h) in
        rw n (at-letters f 0 w (and_right (eqb (word_end 10 f) (length w)) (letters_at f 0 w) h)),
    λ e.
        and_both
        (eq-eqb (word_end 10 f) (length w) (letters-many f w e))
        (letters-at f 0 w (λ k l. let z : 0 + k ≡ k = omega arith in rw z (letter f w e k l))),
  )

  ends-said : ends_in f w ≡ true → (front : List ℕ) × (letters_of f ≡ front ++ w)
  unfolding ends_in
  ends-said h =
      let n = word_end 10 f in
      let m = length w in
      let l = leb-true m n (and_left (leb m n) (letters_at f (n - m) w) h) in
      let z : n ≡ (n - m) + m = omega arith in
      let y : 0 + (n - m) ≡ n - m = omega arith in (
        list_of (column_in f) 0 (n - m),
        ap (list_of (column_in f) 0) z ∙ list-split (column_in f) 0 (n - m) m
            ∙ ap (λ (x : List ℕ). list_of (column_in f) 0 (n - m) ++ x)
            (ap (λ (k : ℕ). list_of (column_in f) k m) y
            ∙ at-letters f (n - m) w (and_right (leb m n) (letters_at f (n - m) w) h)),
      )

  said-ends : (front : List ℕ) → letters_of f ≡ front ++ w → ends_in f w ≡ true
  unfolding ends_in
  said-ends front e =
      let n : word_end 10 f ≡ length front + length w = letters-many f (front ++ w) e ∙ length-append front w in
      let z : word_end 10 f - length w ≡ length front = omega arith in
      and_both
      (le-leb (length w) (word_end 10 f) (omega arith))
      (rw z
      (letters-at f (length front) w
      (λ k l.
      letter f (front ++ w) e (length front + k) (rw length-append (omega arith)) ∙ get_or-append-add front w k 0)))

  starts-said : starts_with f w ≡ true → (rest : List ℕ) × (letters_of f ≡ w ++ rest)
  unfolding starts_with
  starts-said h =
      let n = word_end 10 f in
      let m = length w in
      let l = leb-true m n (and_left (leb m n) (letters_at f 0 w) h) in
      let z : n ≡ m + (n - m) = omega arith in (
        list_of (column_in f) (0 + m) (n - m),
        ap (list_of (column_in f) 0) z ∙ list-split (column_in f) 0 m (n - m)
            ∙ ap (λ (x : List ℕ). x ++ list_of (column_in f) (0 + m) (n - m))
            (at-letters f 0 w (and_right (leb m n) (letters_at f 0 w) h)),
      )

  said-starts : (rest : List ℕ) → letters_of f ≡ w ++ rest → starts_with f w ≡ true
  unfolding starts_with
  said-starts rest e =
      let n : word_end 10 f ≡ length w + length rest = letters-many f (w ++ rest) e ∙ length-append w rest in
      and_both
      (le-leb (length w) (word_end 10 f) (omega arith))
      (letters-at f 0 w
      (λ k l.
      let z : 0 + k ≡ k = omega arith in
      rw z (letter f (w ++ rest) e k (rw length-append (omega arith))) ∙ get_or-append w rest 0 k l))

-- ---- the list

module _ (in_data : Bool) (f : List ℕ) where
  abbrev In : Type 0
  In = Listed in_data (letters_of f)

  word-listed : listed_word in_data f ≡ true → In
  unfolding listed_word
  word-listed h =
      or-either _ _ h (λ a. e_lvl ((spells-exactly f (text "E-LVL")).0 a))
      (λ t. or-either _ _ t (λ a. en_res ((spells-exactly f (text "EN-RES")).0 a))
      (λ u. flag (and_left in_data _ u) ((spells-exactly f (text "FLAG")).0 (and_right in_data _ u))))

  ending-listed : listed_ending f ≡ true → In
  unfolding listed_ending
  ending-listed h =
      or-either _ _ h
      (λ a. let (front, e) = ends-said f (text "-ERR") a in ends_in_err front e)
      (λ a. let (front, e) = ends-said f (text "-RSL") a in ends_in_rsl front e)

  start-listed : listed_start in_data f ≡ true → In
  unfolding listed_start
  start-listed h =
      or-either _ _ h
      (λ a. let (rest, e) = starts-said f (text "ANG") a in starts_with_ang rest e)
      (λ u.
      let (rest, e) = starts-said f (text "HL") (and_right in_data _ u) in starts_with_hl (and_left in_data _ u) rest e)

  -- each item brings its part of the list, and each part the whole
  by_word : listed_word in_data f ≡ true → may_repeat in_data f ≡ true
  unfolding may_repeat
  by_word e = or-first (listed_word in_data f) (listed_ending f || listed_start in_data f) e

  by-ending : listed_ending f ≡ true → may_repeat in_data f ≡ true
  unfolding may_repeat
  by-ending e =
      or-second (listed_word in_data f) (listed_ending f || listed_start in_data f)
      (or-first (listed_ending f) (listed_start in_data f) e)

  by-start : listed_start in_data f ≡ true → may_repeat in_data f ≡ true
  unfolding may_repeat
  by-start e =
      or-second (listed_word in_data f) (listed_ending f || listed_start in_data f)
      (or-second (listed_ending f) (listed_start in_data f) e)

  abbrev is_word_of : String → Bool
  is_word_of w = spells f (text w)

  listed-repeat : In → may_repeat in_data f ≡ true
  unfolding listed_word listed_ending listed_start
  listed-repeat (e_lvl e) =
      by_word
      (or-first (is_word_of "E-LVL") (is_word_of "EN-RES" || (in_data && is_word_of "FLAG"))
      ((spells-exactly f (text "E-LVL")).1 e))
  listed-repeat (en_res e) =
      by_word
      (or-second (is_word_of "E-LVL") (is_word_of "EN-RES" || (in_data && is_word_of "FLAG"))
      (or-first (is_word_of "EN-RES") (in_data && is_word_of "FLAG") ((spells-exactly f (text "EN-RES")).1 e)))
  listed-repeat (flag d e) =
      by_word
      (or-second (is_word_of "E-LVL") (is_word_of "EN-RES" || (in_data && is_word_of "FLAG"))
      (or-second (is_word_of "EN-RES") (in_data && is_word_of "FLAG")
      (and_both d ((spells-exactly f (text "FLAG")).1 e))))
  listed-repeat (ends_in_err front e) =
      by-ending (or-first (ends_in f (text "-ERR")) (ends_in f (text "-RSL")) (said-ends f (text "-ERR") front e))
  listed-repeat (ends_in_rsl front e) =
      by-ending (or-second (ends_in f (text "-ERR")) (ends_in f (text "-RSL")) (said-ends f (text "-RSL") front e))
  listed-repeat (starts_with_ang rest e) =
      by-start
      (or-first (starts_with f (text "ANG")) (in_data && starts_with f (text "HL")) (said-starts f (text "ANG") rest e))
  listed-repeat (starts_with_hl d rest e) =
      by-start
      (or-second (starts_with f (text "ANG")) (in_data && starts_with f (text "HL"))
      (and_both d (said-starts f (text "HL") rest e)))

  repeat-listed : may_repeat in_data f ≡ true → In
  unfolding may_repeat
  repeat-listed h =
      or-either _ _ h word-listed (λ t. or-either _ _ t ending-listed start-listed)

pub repeat-exactly : RepeatExactly
repeat-exactly in_data f = (
  λ h. record { letters = letters_of f; spelt = letters-are f; listed = repeat-listed in_data f h },
  λ m.
      let e = one_word f m.letters (letters_of f) m.spelt (letters-are f) in
      listed-repeat in_data f (rw e at m.listed),
)

-- ---- the word alone

pub word-alone : WordAlone
word-alone in_data f g same m =
    let x = m.spelt in
    let l = x.most in
    record {
      letters = m.letters;
      spelt = record {
        most = x.most;
        same = λ i k. sym (same i (omega arith)) ∙ x.same i k;
        filled = λ i k e. x.filled i k (same i (omega arith) ∙ e);
        ends = λ k. sym (same (length m.letters) k) ∙ x.ends k;
      };
      listed = m.listed;
    }
