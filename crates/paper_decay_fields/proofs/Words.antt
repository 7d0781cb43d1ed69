-- The characters at a part: those of a word's place are the word, also within a part.
-- Assumes nothing.
use mathlib.Core.Path.{◌≡◌, refl, sym, ap, ◌∙◌}
use mathlib.Core.Bool.{Bool, true, false, cond}
use mathlib.Core.List.{List, [], ◌∷◌}
use Prim.Native.Nat.{ℕ, zero, suc, ◌+◌, ◌-◌, ◌≤◌}
use native.Mathlib.Omega.{arith}
use borrow.Author.Tests.{eqb-true, eqb-false, ne_eqb}
use lib.Dec.{eqb}
use lib.ListN.{length, get_or, take, drop, length-take, length-drop}
use lib.Seq.{take-nil, take-take, drop-drop, length-take-le}
use Rattle.paper_decay.specs.Fields.{cut_step, cut_at, words_of}
use Rattle.paper_decay_run.specs.Run.{lead_of, without_last, fields_in}
use Rattle.paper_decay_fields.specs.declared.types.Part.{Part}
use Rattle.paper_decay_fields.specs.Parts.{part, NO-PART, or_none, text_in, behind_words, word_at, word_in, part_from, part_to, unspaced}
use Rattle.paper_decay_fields.specs.Parts.{words_in, field_at}
use Rattle.paper_decay_fields.specs.Claims.{Lies, Placed}

-- ---- parts of parts

pub few-taken : (n : ℕ) (l : List ℕ) → length (take n l) ≤ n
few-taken n l = omega (arith, length-take n l)

less-taken : (n : ℕ) (l : List ℕ) → length (take n l) ≤ length l
less-taken n l = omega (arith, length-take n l)

drop-take : (k n : ℕ) (l : List ℕ) → drop k (take n l) ≡ take (n - k) (drop k l)
drop-take zero n l = let e : n - 0 ≡ n = omega arith in ap (λ (m : ℕ). take m l) (sym e)
drop-take (suc k) zero l = let e : 0 - suc k ≡ 0 = omega arith in ap (λ (m : ℕ). take m (drop (suc k) l)) (sym e)
drop-take (suc k) (suc n) [] = sym (take-nil (suc n - suc k))
drop-take (suc k) (suc n) (b ∷ l) =
    let e : suc n - suc k ≡ n - k = omega arith in
    drop-take k n l ∙ ap (λ (m : ℕ). take m (drop k l)) (sym e)

-- all its characters are there
abbrev pub Whole : List ℕ → Part → Type 0
Whole l p = length (text_in l p) ≡ p.length

pub text-from : (l : List ℕ) (p : Part) (k : ℕ) → text_in l (part_from p k) ≡ drop k (text_in l p)
text-from l p k =
    ap (take (p.length - k)) (sym (drop-drop k p.first l)) ∙ sym (drop-take k p.length (drop p.first l))

pub whole_from : (l : List ℕ) (p : Part) (k : ℕ) → Whole l p → Whole l (part_from p k)
whole_from l p k h = ap length (text-from l p k) ∙ length-drop k (text_in l p) ∙ ap (λ (n : ℕ). n - k) h

pub text-to : (l : List ℕ) (p : Part) (k : ℕ) → k ≤ p.length → text_in l (part_to p k) ≡ take k (text_in l p)
text-to l p k n = sym (take-take k p.length (drop p.first l) n)

pub whole_to : (l : List ℕ) (p : Part) (k : ℕ) → k ≤ p.length → Whole l p → Whole l (part_to p k)
whole_to l p k n h = ap length (text-to l p k n) ∙ length-take-le k (text_in l p) (omega arith)

pub text-part : (l : List ℕ) (p q : Part) → Whole (text_in l p) q
    → text_in l (part (p.first + q.first) q.length) ≡ text_in (text_in l p) q
text-part l p q h =
    let d = drop q.first (drop p.first l) in
    let e : text_in (text_in l p) q ≡ take q.length (take (p.length - q.first) d) =
    ap (take q.length) (drop-take q.first p.length (drop p.first l)) in
    let f : length (take q.length (take (p.length - q.first) d)) ≡ q.length = ap length (sym e) ∙ h in
    let x = less-taken q.length (take (p.length - q.first) d) in
    let y = few-taken (p.length - q.first) d in
    let n : q.length ≤ p.length - q.first = omega arith in
    ap (take q.length) (sym (drop-drop q.first p.first l))
    ∙ sym (take-take q.length (p.length - q.first) d n)
    ∙ sym e

-- ---- an empty part

pub text-none : (l : List ℕ) (p : Part) → text_in l (or_none p) ≡ text_in l p
unfolding or_none
text-none l p = by_length (eqb p.length 0) refl
  where
    by_length : (t : Bool) → eqb p.length 0 ≡ t → text_in l (cond t NO-PART p) ≡ text_in l p
    by_length true e = ap (λ (n : ℕ). take n (drop p.first l)) (sym (eqb-true p.length 0 e))
    by_length false e = refl

pub placed-none : (l : List ℕ) (p : Part) → Whole l p → Placed l (or_none p)
unfolding or_none
placed-none l p h = by_length (eqb p.length 0) refl
  where
    by_length : (t : Bool) → eqb p.length 0 ≡ t → Placed l (cond t NO-PART p)
    by_length true e = record { lies = omega arith; none = λ z. refl }
    by_length false e =
        let n = eqb-false p.length 0 e in
        let x = less-taken p.length (drop p.first l) in
        let y = length-drop p.first l in
        record { lies = omega arith; none = λ z. absurd (n z) }

-- ---- words

-- each word stands at its place
abbrev Stand : List ℕ → List (List ℕ) → Type 0
Stand l ws = (k : ℕ) → take (length (get_or ws k [])) (drop (behind_words ws k) l) ≡ get_or ws k []

stand-more : (t : Bool) (b : ℕ) (l : List ℕ) (ws : List (List ℕ)) → Stand l ws → Stand (b ∷ l) (cut_step t b ws)
stand-more true b l ws h zero = refl
stand-more true b l [] h (suc k) = refl
stand-more true b l (x ∷ ws) h (suc k) =
    let e : 0 + 1 + behind_words (x ∷ ws) k ≡ suc (behind_words (x ∷ ws) k) = omega arith in
    ap (λ (n : ℕ). take (length (get_or (x ∷ ws) k [])) (drop n (b ∷ l))) e ∙ h k
stand-more false b l [] h zero = refl
stand-more false b l [] h (suc k) = refl
stand-more false b l (w ∷ ws) h zero = ap (λ (r : List ℕ). b ∷ r) (h zero)
stand-more false b l (w ∷ []) h (suc k) = refl
stand-more false b l (w ∷ x ∷ ws) h (suc k) =
    let e : suc (length w) + 1 + behind_words (x ∷ ws) k ≡ suc (length w + 1 + behind_words (x ∷ ws) k) = omega arith in
    ap (λ (n : ℕ). take (length (get_or (x ∷ ws) k [])) (drop n (b ∷ l))) e ∙ h (suc k)

stand : (c : ℕ) (l : List ℕ) → Stand l (cut_at c l)
stand c [] zero = refl
stand c [] (suc k) = refl
stand c (b ∷ l) k = stand-more (eqb b c) b l (cut_at c l) (stand c l) k

pub word-text : (c : ℕ) (l : List ℕ) (k : ℕ) → text_in l (word_at c l k) ≡ get_or (cut_at c l) k []
unfolding word_at
word-text c l k = stand c l k

pub word-whole : (c : ℕ) (l : List ℕ) (k : ℕ) → Whole l (word_at c l k)
unfolding word_at
word-whole c l k = ap length (stand c l k)

-- and lies in the text
abbrev Lie : List ℕ → List (List ℕ) → Type 0
Lie l ws = (k : ℕ) → behind_words ws k + length (get_or ws k []) ≤ length l

lie-more : (t : Bool) (b : ℕ) (l : List ℕ) (ws : List (List ℕ)) → Lie l ws → Lie (b ∷ l) (cut_step t b ws)
lie-more true b l ws h zero = omega arith
lie-more true b l [] h (suc k) = omega arith
lie-more true b l (x ∷ ws) h (suc k) = let y = h k in omega arith
lie-more false b l [] h zero = omega arith
lie-more false b l [] h (suc k) = omega arith
lie-more false b l (w ∷ ws) h zero = let y = h zero in omega arith
lie-more false b l (w ∷ []) h (suc k) = let y = h zero in omega arith
lie-more false b l (w ∷ x ∷ ws) h (suc k) = let y = h (suc k) in omega arith

lie : (c : ℕ) (l : List ℕ) → Lie l (cut_at c l)
lie c [] zero = omega arith
lie c [] (suc k) = omega arith
lie c (b ∷ l) k = lie-more (eqb b c) b l (cut_at c l) (lie c l) k

pub word-lies : (c : ℕ) (l : List ℕ) (k : ℕ) → Lies l (word_at c l k)
unfolding word_at
word-lies c l k = lie c l k

pub word-in-text : (c : ℕ) (l : List ℕ) (p : Part) (k : ℕ) → text_in l (word_in c l p k) ≡ get_or (cut_at c (text_in l p)) k []
unfolding word_in
word-in-text c l p k =
    text-part l p (word_at c (text_in l p) k) (word-whole c (text_in l p) k) ∙ word-text c (text_in l p) k

pub word-in-whole : (c : ℕ) (l : List ℕ) (p : Part) (k : ℕ) → Whole l (word_in c l p k)
unfolding word_in
word-in-whole c l p k =
    ap length (text-part l p (word_at c (text_in l p) k) (word-whole c (text_in l p) k)) ∙ word-whole c (text_in l p) k

-- ---- words between slashes

-- a text without characters has no word, and its first is empty
word-or-none : (l : List ℕ) (i : ℕ) → get_or (cut_at 47 l) i [] ≡ get_or (words_of l) i []
word-or-none [] zero = refl
word-or-none [] (suc i) = refl
word-or-none (b ∷ l) i = refl

words-or-none : (l : List ℕ) → cond (eqb (length l) 0) 0 (length (cut_at 47 l)) ≡ length (words_of l)
words-or-none [] = refl
words-or-none (b ∷ l) = rw (ne_eqb (suc (length l)) 0 (λ e. omega arith)) refl

pub words_count : (l : List ℕ) (p : Part) → Whole l p → words_in 47 l p ≡ length (words_of (text_in l p))
unfolding words_in
words_count l p h =
    ap (λ (n : ℕ). cond (eqb n 0) 0 (length (cut_at 47 (text_in l p)))) (sym h) ∙ words-or-none (text_in l p)

pub slashed-text : (l : List ℕ) (p : Part) (i : ℕ) → text_in l (word_in 47 l p i) ≡ get_or (words_of (text_in l p)) i []
slashed-text l p i = word-in-text 47 l p i ∙ word-or-none (text_in l p) i

-- ---- fields

-- without the blanks at its beginning
abbrev pub unled : List ℕ → List ℕ
unled w = drop (lead_of w) w

pub unspaced-text : (l : List ℕ) (p : Part) → text_in l (unspaced l p) ≡ unled (text_in l p)
unfolding unspaced
unspaced-text l p = text-from l p (lead_of (text_in l p))

pub unspaced-whole : (l : List ℕ) (p : Part) → Whole l p → Whole l (unspaced l p)
unfolding unspaced
unspaced-whole l p h = whole_from l p (lead_of (text_in l p)) h

-- what stands in the text without its last character stands in the text
pub shorter : (l : List ℕ) (q : Part) → Whole (without_last l) q → text_in l q ≡ text_in (without_last l) q
shorter l q h =
    let e : q.first ≡ 0 + q.first = omega arith in
    ap (λ (n : ℕ). take q.length (drop n l)) e ∙ text-part l (part 0 (length l - 1)) q h

pub field-text : (l : List ℕ) (k : ℕ) → text_in l (field_at l k) ≡ unled (get_or (fields_in l) k [])
unfolding field_at
field-text l k =
    unspaced-text l (word_at 44 (without_last l) k)
    ∙ ap unled (shorter l (word_at 44 (without_last l) k) (word-whole 44 (without_last l) k) ∙ word-text 44 (without_last l) k)

pub field-whole : (l : List ℕ) (k : ℕ) → Whole l (field_at l k)
unfolding field_at
field-whole l k =
    unspaced-whole l (word_at 44 (without_last l) k)
    (ap length (shorter l (word_at 44 (without_last l) k) (word-whole 44 (without_last l) k)) ∙ word-whole 44 (without_last l) k)
