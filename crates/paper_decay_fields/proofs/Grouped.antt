-- Types, energies and abundance of a code's groups stand in their fields, word by word.
-- Assumes nothing.
use mathlib.Core.Path.{◌≡◌, refl, sym, ap, ◌∙◌, subst}
use mathlib.Core.Bool.{Bool, true, false, cond, ◌&&◌}
use mathlib.Core.List.{List, [], ◌∷◌}
use mathlib.Core.Logic.{◌⊎◌, inl, inr}
use Prim.Native.Nat.{ℕ, zero, suc, ◌+◌, ◌-◌, ◌*◌, ◌≤◌, ◌<◌}
use native.Mathlib.Omega.{arith}
use borrow.Author.Tests.{eqb-false, ne_eqb, le-leb}
use lib.Dec.{eqb}
use lib.ListN.{length, get_or}
use Rattle.laws.specs.Walk.{All}
use Rattle.laws.proofs.Booleans.{and_both, either-as}
use Rattle.paper_record.specs.Text.{within}
use Rattle.paper_decay.specs.Numerals.{Numeral}
use Rattle.paper_decay.specs.Code.{types, energies, abundance, split, Slashed, OneType, Fits, EmptyOr, Code, write, Good}
use Rattle.paper_decay.specs.Fields.{cut_at, words_of}
use Rattle.paper_decay.proofs.Cuts.{all_map}
use Rattle.paper_decay.proofs.Words.{words-some, types-once, energies-once, numeral-some}
use Rattle.paper_decay_fields.specs.declared.types.Part.{Part}
use Rattle.paper_decay_fields.specs.declared.types.NumberPart.{NumberPart}
use Rattle.paper_decay_fields.specs.declared.types.Group.{Group}
use Rattle.paper_decay_fields.specs.Parts.{NO-PART, or_none, text_in, word_at, word_in, words_in, field_at, number_in}
use Rattle.paper_decay_fields.specs.Asked.{NO-NUMBER, types_at, energies_at, abundance_at, has_group, NO-GROUP}
use Rattle.paper_decay_fields.specs.Asked.{group_of, type_of, energy_of}
use Rattle.paper_decay_fields.specs.Standing.{times, Some, Opens, Ends, Follows, WordsStand, GroupStands}
use Rattle.paper_decay_fields.proofs.Words.{Whole, field-whole}
use Rattle.paper_decay_fields.proofs.Cutting.{cut-none}
use Rattle.paper_decay_fields.proofs.Edges.{field-opens, Shut, field-shut, word-follows, word-ends}
use Rattle.paper_decay_fields.proofs.Groups.{types_said, energies_said, abundance_said, types-text, energies-text, abundance-text}
use Rattle.paper_decay_fields.proofs.Groups.{said_fits}
use Rattle.paper_decay_fields.proofs.Lying.{group-code}

-- ---- a part that is not empty

pub or_some : (p : Part) → Some p → or_none p ≡ p
unfolding or_none
or_some p h = rw (ne_eqb p.length 0 (λ e. omega arith)) refl

pub some_or : (p : Part) → Some (or_none p) → Some p
unfolding or_none
some_or p = by_length (eqb p.length 0)
  where
    by_length : (t : Bool) → Some (cond t NO-PART p) → Some p
    by_length true h = absurd (omega arith)
    by_length false h = h

some-from : (n : ℕ) → (n ≡ 0 → ⊥) → 1 ≤ n
some-from zero h = absurd (h refl)
some-from (suc n) h = omega arith

-- ---- the words of a field

record FieldStands (l : List ℕ) (n : ℕ) (p : Part) : Type 0 where
  whole : Whole l p
  opens : Opens l n p.first
  shut : Shut l p
  solid : (i : ℕ) → i < length (cut_at 47 (text_in l p)) → Some (word_in 47 l p i)

-- as types and energies are asked
abbrev word_from : List ℕ → Bool → Part → ℕ → Part
word_from l t p i = cond (t && within 1 (words_in 47 l p) i) (or_none (word_in 47 l p (i - 1))) NO-PART

given : (l : List ℕ) (p : Part) (i : ℕ) → i < words_in 47 l p → Some (word_in 47 l p i)
    → word_in 47 l p i ≡ word_from l true p (i + 1)
given l p i n s =
    let j : i + 1 - 1 ≡ i = omega arith in
    let w : within 1 (words_in 47 l p) (i + 1) ≡ true =
    and_both (le-leb 1 (i + 1) (omega arith)) (le-leb (i + 1) (words_in 47 l p) (omega arith)) in
    rw (w, j) (sym (or_some (word_in 47 l p i) s))

-- a part with words is not empty
words-part : (l : List ℕ) (p : Part) (i : ℕ) → i < words_in 47 l p → Some p × (i < length (cut_at 47 (text_in l p)))
unfolding words_in
words-part l p i = by_length (eqb p.length 0) refl
  where
    by_length : (t : Bool) → eqb p.length 0 ≡ t → i < cond t 0 (length (cut_at 47 (text_in l p)))
        → Some p × (i < length (cut_at 47 (text_in l p)))
    by_length true e h = absurd (omega arith)
    by_length false e h = (some-from p.length (eqb-false p.length 0 e), h)

word_first : (l : List ℕ) (p : Part) → (word_in 47 l p 0).first ≡ p.first
unfolding word_in word_at
word_first l p = omega arith

-- of a field that stands so
module _ (l : List ℕ) (n : ℕ) (p : Part) (field : Some p → FieldStands l n p) where
  abbrev many : ℕ
  many = words_in 47 l p

  some_word : (i : ℕ) → i < many → Some (word_in 47 l p i)
  some_word i h = let (s, m) = words-part l p i h in (field s).solid i m

  is_word : (i : ℕ) → i < many → word_in 47 l p i ≡ word_from l true p (i + 1)
  is_word i h = given l p i h (some_word i h)

  field-words : WordsStand l n many (word_from l true p)
  field-words =
      record {
        some = λ i h. subst Some (is_word i h) (some_word i h);
        first = λ h.
            let e = sym (word_first l p) ∙ ap (λ (q : Part). q.first) (is_word 0 h) in
            subst (Opens l n) e (field (words-part l p 0 h).0).opens;
        next = λ i h.
            let s : suc i ≡ i + 1 = omega arith in
            let r : suc i + 1 ≡ i + 2 = omega arith in
            let m = (words-part l p (suc i) (omega arith)).1 in
            let u = is_word i (omega arith) in
            let v = is_word (suc i) (omega arith) ∙ ap (word_from l true p) r in
            subst (Follows 47 l (word_from l true p (i + 1))) v
            (subst (λ (q : Part). Follows 47 l q (word_in 47 l p (suc i))) u (word-follows 47 l p i m));
        ends = λ i h.
            let f = field (words-part l p i h).0 in
            subst (Ends l) (is_word i h) (word-ends l p i f.whole f.shut (some_word i h));
      }

words-stand : (l : List ℕ) (n : ℕ) (t : Bool) (p : Part) → (t ≡ true → Some p → FieldStands l n p)
    → WordsStand l n (cond t (words_in 47 l p) 0) (word_from l t p)
words-stand l n true p field = field-words l n p (field refl)
words-stand l n false p field =
    record {
      some = λ i h. absurd (omega arith);
      first = λ h. absurd (omega arith);
      next = λ i h. absurd (omega arith);
      ends = λ i h. absurd (omega arith);
    }

-- ---- no type and no energy is empty

some_at : (ws : List (List ℕ)) (i : ℕ) → All (λ w. 1 ≤ length w) ws → i < length ws → 1 ≤ length (get_or ws i [])
some_at [] i h n = absurd (omega arith)
some_at (w ∷ ws) zero h n = h.0
some_at (w ∷ ws) (suc i) h n = some_at ws i h.1 (omega arith)

-- each word between the slashes has characters
abbrev Solid : List ℕ → Type 0
Solid w = (i : ℕ) → i < length (cut_at 47 w) → 1 ≤ length (get_or (cut_at 47 w) i [])

slashed-solid : (W : List ℕ → Type 0) (w : List ℕ) (s : Slashed W w) → words_of (split 47 s.words) ≡ s.words
    → ((x : List ℕ) → W x → 1 ≤ length x) → 1 ≤ length w → Solid w
slashed-solid W w s once some h =
    let e : s.words ≡ cut_at 47 w = sym once ∙ (ap words_of s.same ∙ words-some w h) in
    let a : All (λ x. 1 ≤ length x) s.words = all_map W (λ x. 1 ≤ length x) s.words some s.each in
    subst (λ (ws : List (List ℕ)). (i : ℕ) → i < length ws → 1 ≤ length (get_or ws i [])) e (λ i n. some_at s.words i a n)

pub not-empty : {X : Type 0} (w : List ℕ) → w ≡ [] → 1 ≤ length w → X
not-empty w e h = let n : length w ≡ 0 = ap length e in absurd (omega arith)

types-solid : (w : List ℕ) → EmptyOr (Fits types) w → 1 ≤ length w → Solid w
types-solid w (inl e) h = not-empty w e h
types-solid w (inr s) h = slashed-solid OneType w s (types-once s.words s.each) (λ x k. k.1) h

energies-solid : (w : List ℕ) → EmptyOr (Fits energies) w → 1 ≤ length w → Solid w
energies-solid w (inl e) h = not-empty w e h
energies-solid w (inr s) h = slashed-solid Numeral w s (energies-once s.words s.each) numeral-some h

-- ---- types and energies

opens_at : (l : List ℕ) (n : ℕ) → 1 ≤ n → Some (field_at l n) → Opens l n (field_at l n).first
opens_at l zero h s = absurd (omega arith)
opens_at l (suc n) h s = field-opens l n s

field-stands : (l : List ℕ) (n : ℕ) (w : List ℕ) → 1 ≤ n → text_in l (field_at l n) ≡ w → (1 ≤ length w → Solid w)
    → Some (field_at l n) → FieldStands l n (field_at l n)
unfolding word_in word_at
field-stands l n w h e f s =
    let k : length (text_in l (field_at l n)) ≡ (field_at l n).length = field-whole l n in
    let m : length (text_in l (field_at l n)) ≡ length w = ap length e in
    record {
      whole = k;
      opens = opens_at l n h s;
      shut = field-shut l n s;
      solid = subst Solid (sym e) (f (omega arith));
    }

counts_of : (t : Bool) (x y : Group) → (cond t x.types y.types ≡ (cond t x y).types)
    × (cond t x.energies y.energies ≡ (cond t x y).energies)
counts_of true x y = (refl, refl)
counts_of false x y = (refl, refl)

-- how many words are counted
counts : (l : List ℕ) (k : ℕ)
    → (cond (has_group l k) (words_in 47 l (types_at l k)) 0 ≡ (group_of l k).types)
    × (cond (has_group l k) (words_in 47 l (energies_at l k)) 0 ≡ (group_of l k).energies)
unfolding group_of
counts l k = counts_of (has_group l k) _ NO-GROUP

types-stand : (c : Code) → Good c → (k : ℕ) → WordsStand (write c) (3 * k - 1) (group_of (write c) k).types (type_of (write c) k)
unfolding type_of
types-stand c g k =
    subst (λ (m : ℕ). WordsStand (write c) (3 * k - 1) m (type_of (write c) k)) (counts (write c) k).0
    (words-stand (write c) (3 * k - 1) (has_group (write c) k) (types_at (write c) k) (by_number k))
  where
    by_number : (k : ℕ) → has_group (write c) k ≡ true → Some (types_at (write c) k)
        → FieldStands (write c) (3 * k - 1) (types_at (write c) k)
    by_number zero e s = let n = (group-code (write c) 0 e).1 in absurd (omega arith)
    by_number (suc k) e s =
        field-stands (write c) (3 * suc k - 1) (types_said c k) (omega arith) (types-text c g k)
        (types-solid (types_said c k) (said_fits c g k).typed) s

part_of : (t : Bool) (x y : NumberPart) → (cond t x y).part ≡ cond t x.part y.part
part_of true x y = refl
part_of false x y = refl

energy-part : (l : List ℕ) (k i : ℕ) → word_from l (has_group l k) (energies_at l k) i ≡ (energy_of l k i).part
unfolding energy_of number_in
energy-part l k i = sym (part_of (has_group l k && within 1 (words_in 47 l (energies_at l k)) i) _ NO-NUMBER)

energies-stand : (c : Code) → Good c → (k : ℕ) → WordsStand (write c) (3 * k) (group_of (write c) k).energies (λ i. (energy_of (write c) k i).part)
energies-stand c g k =
    subst (λ (m : ℕ). WordsStand (write c) (3 * k) m (λ i. (energy_of (write c) k i).part)) (counts (write c) k).1
    (subst (WordsStand (write c) (3 * k) _) (λ j i. energy-part (write c) k i j)
    (words-stand (write c) (3 * k) (has_group (write c) k) (energies_at (write c) k) (by_number k)))
  where
    by_number : (k : ℕ) → has_group (write c) k ≡ true → Some (energies_at (write c) k)
        → FieldStands (write c) (3 * k) (energies_at (write c) k)
    by_number zero e s = let n = (group-code (write c) 0 e).1 in absurd (omega arith)
    by_number (suc k) e s =
        field-stands (write c) (3 * suc k) (energies_said c k) (omega arith) (energies-text c g k)
        (energies-solid (energies_said c k) (said_fits c g k).energetic) s

-- ---- the abundance

pub field-ends : (l : List ℕ) (p : Part) → Shut l p → times 47 (text_in l p) ≡ 0 → Ends l p
field-ends l p x h = record { behind = by_end x.behind; no_comma = x.bare; no_slash = h }
  where
    by_end : {A B C : Type 0} → A ⊎ C → A ⊎ (B ⊎ C)
    by_end (inl h) = inl h
    by_end (inr h) = inr (inr h)

pub numeral-times : (w : List ℕ) → Numeral w → times 47 w ≡ 0
numeral-times w n =
    let e : w ∷ [] ≡ cut_at 47 w = sym (energies-once (w ∷ []) (n, tt)) ∙ words-some w (numeral-some w n) in
    ap (λ (ws : List (List ℕ)). times 47 (get_or ws 0 [])) e ∙ cut-none 47 w 0

abundance-times : (w : List ℕ) → EmptyOr (Fits abundance) w → times 47 w ≡ 0
unfolding times
abundance-times w (inl e) = ap (times 47) e
abundance-times w (inr n) = numeral-times w n

abbrev Single : List ℕ → ℕ → Part → Type 0
Single l n p = Some p → Opens l n p.first × Ends l p

single-or : (l : List ℕ) (n : ℕ) (p : Part) → Single l n p → Single l n (or_none p)
single-or l n p f h =
    let s = some_or p h in
    subst (λ (q : Part). Opens l n q.first × Ends l q) (sym (or_some p s)) (f s)

abundance-single : (c : Code) → Good c → (k : ℕ) → has_group (write c) k ≡ true
    → Single (write c) (3 * k + 1) (abundance_at (write c) k)
abundance-single c g zero e s = let n = (group-code (write c) 0 e).1 in absurd (omega arith)
abundance-single c g (suc k) e s =
    let l = write c in
    let n = 3 * suc k + 1 in (
      opens_at l n (omega arith) s,
      field-ends l (field_at l n) (field-shut l n s)
          (ap (times 47) (abundance-text c g k) ∙ abundance-times (abundance_said c k) (said_fits c g k).abundant),
    )

abundance-stands : (c : Code) → Good c → (k : ℕ) → Single (write c) (3 * k + 1) (group_of (write c) k).abundance.part
unfolding group_of number_in
abundance-stands c g k =
    either-as (λ (x : Group). Single (write c) (3 * k + 1) x.abundance.part) (has_group (write c) k) _ NO-GROUP
    (λ e. single-or (write c) (3 * k + 1) (abundance_at (write c) k) (abundance-single c g k e))
    (λ e h. absurd (omega arith))

pub group-stands : (c : Code) → Good c → (k : ℕ) → GroupStands (write c) k
group-stands c g k =
    record {
      types = types-stand c g k;
      energies = energies-stand c g k;
      abundance = λ h. (abundance-stands c g k h).0;
      abundance_ends = λ h. (abundance-stands c g k h).1;
    }
