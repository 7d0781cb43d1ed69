-- Where a field and a word of it begin and end.
-- Assumes nothing.
use mathlib.Core.Path.{◌≡◌, refl, sym, ap, ◌∙◌}
use mathlib.Core.Bool.{Bool, true, false, cond}
use mathlib.Core.List.{List, [], ◌∷◌, ◌++◌, append_assoc}
use mathlib.Core.Logic.{◌⊎◌, inl, inr}
use Prim.Native.Nat.{ℕ, zero, suc, ◌+◌, ◌-◌, ◌≤◌, ◌<◌}
use native.Mathlib.Omega.{arith}
use borrow.Author.Tests.{eqb-true, eqb-false}
use lib.Dec.{eqb}
use lib.ListN.{length, get_or, take, drop, length-take}
use lib.Seq.{take-nil, take-take, get_or-take, get_or-drop}
use Rattle.paper_number.specs.Grammar.{blanks}
use Rattle.paper_decay.specs.Fields.{cut_at}
use Rattle.paper_decay_run.specs.Run.{lead_of, without_last}
use Rattle.paper_decay_fields.specs.declared.types.Part.{Part}
use Rattle.paper_decay_fields.specs.Parts.{text_in, word_at, word_in, unspaced, field_at}
use Rattle.paper_decay_fields.specs.Standing.{times, Some, past, Opens, Ends, Follows}
use Rattle.paper_decay_fields.proofs.Words.{few-taken, Whole, shorter, word-text, word-whole, word-lies, word-in-text, field-text}
use Rattle.paper_decay_fields.proofs.Cutting.{times-take, times-drop, cut-open, Behind, cut-end, cut-none, cut-next, word-there}

-- ---- blanks at the beginning

lead-in : (w : List ℕ) → lead_of w ≤ length w
unfolding lead_of
lead-in [] = omega arith
lead-in (b ∷ l) = by-test (eqb b 32) (lead-in l)
  where
    by-test : (t : Bool) → lead_of l ≤ length l → cond t (lead_of l + 1) 0 ≤ suc (length l)
    by-test true h = omega arith
    by-test false h = omega arith

lead-taken : (w : List ℕ) → take (lead_of w) w ≡ blanks (lead_of w)
unfolding lead_of
lead-taken [] = refl
lead-taken (b ∷ l) = by-test (eqb b 32) refl (lead-taken l)
  where
    by-test : (t : Bool) → eqb b 32 ≡ t → take (lead_of l) l ≡ blanks (lead_of l)
        → take (cond t (lead_of l + 1) 0) (b ∷ l) ≡ blanks (cond t (lead_of l + 1) 0)
    by-test true e h =
        let s : lead_of l + 1 ≡ suc (lead_of l) = omega arith in
        ap (λ (n : ℕ). take n (b ∷ l)) s ∙ (λ i. eqb-true b 32 e i ∷ h i) ∙ ap blanks (sym s)
    by-test false e h = refl

lead-filled : (w : List ℕ) → lead_of w < length w → get_or w (lead_of w) 0 ≡ 32 → ⊥
unfolding lead_of
lead-filled [] n = absurd (omega arith)
lead-filled (b ∷ l) n = by-test (eqb b 32) refl (lead-filled l) n
  where
    by-test : (t : Bool) → eqb b 32 ≡ t → (lead_of l < length l → get_or l (lead_of l) 0 ≡ 32 → ⊥)
        → cond t (lead_of l + 1) 0 < suc (length l) → get_or (b ∷ l) (cond t (lead_of l + 1) 0) 0 ≡ 32 → ⊥
    by-test true e h n q =
        let s : lead_of l + 1 ≡ suc (lead_of l) = omega arith in
        h (omega arith) (ap (λ (j : ℕ). get_or (b ∷ l) j 0) (sym s) ∙ q)
    by-test false e h n q = eqb-false b 32 e q

-- ---- a part's characters

pub text-get : (l : List ℕ) (p : Part) (i : ℕ) → i < p.length → get_or (text_in l p) i 0 ≡ get_or l (p.first + i) 0
text-get l p i n = get_or-take p.length (drop p.first l) i 0 n ∙ get_or-drop p.first l i 0

take-both : (m n : ℕ) (l : List ℕ) → take (m + n) l ≡ take m l ++ take n (drop m l)
take-both zero n l = let e : 0 + n ≡ n = omega arith in ap (λ (k : ℕ). take k l) e
take-both (suc m) n [] = take-nil (suc m + n) ∙ sym (take-nil n)
take-both (suc m) n (b ∷ l) =
    let e : suc m + n ≡ suc (m + n) = omega arith in
    ap (λ (k : ℕ). take k (b ∷ l)) e ∙ ap (λ (r : List ℕ). b ∷ r) (take-both m n l)

-- ---- fields

field-of : (l : List ℕ) (n : ℕ) → length (text_in l (word_at 44 (without_last l) n)) ≡ (word_at 44 (without_last l) n).length
field-of l n =
    ap length (shorter l (word_at 44 (without_last l) n) (word-whole 44 (without_last l) n)) ∙ word-whole 44 (without_last l) n

pub field-opens : (l : List ℕ) (n : ℕ) → Some (field_at l (suc n)) → Opens l (suc n) (field_at l (suc n)).first
unfolding field_at unspaced word_at
field-opens l n some =
    let f = without_last l in
    let w = word_at 44 f (suc n) in
    let lead = lead_of (text_in l w) in
    let k : length (text_in l w) ≡ w.length = field-of l (suc n) in
    let h : 1 ≤ w.length - lead = some in
    let i = lead-in (text_in l w) in
    let (t, m, q) = cut-open 44 f n (word-there (cut_at 44 f) (suc n) (omega arith)) in
    let o : w.first + w.length ≤ length f = word-lies 44 f (suc n) in
    let u : length f ≤ length l - 1 = few-taken (length l - 1) l in
    let a : take w.first l ≡ t ++ (44 ∷ []) = sym (take-take w.first (length l - 1) l (omega arith)) ∙ q in
    let b : take lead (drop w.first l) ≡ blanks lead =
    sym (take-take lead w.length (drop w.first l) (omega arith)) ∙ lead-taken (text_in l w) in
    record {
      text = t;
      commas = omega arith;
      lead = lead;
      before = take-both w.first lead l ∙ ((λ j. a j ++ b j) ∙ append_assoc t (44 ∷ []) (blanks lead));
      inside = omega arith;
      filled = λ e. lead-filled (text_in l w) (omega arith) (text-get l w lead (omega arith) ∙ e);
    }

-- a field ends at the next comma or the last character
pub record Shut (l : List ℕ) (p : Part) : Type 0 where
  pub behind : (get_or l (past p) 0 ≡ 44) ⊎ (past p + 1 ≡ length l)
  pub bare : times 44 (text_in l p) ≡ 0

pub field-shut : (l : List ℕ) (n : ℕ) → Some (field_at l n) → Shut l (field_at l n)
unfolding field_at unspaced word_at
field-shut l n some =
    let f = without_last l in
    let w = word_at 44 f n in
    let lead = lead_of (text_in l w) in
    let h : 1 ≤ w.length - lead = some in
    let b = cut-end 44 f n (word-there (cut_at 44 f) n (omega arith)) in
    record { behind = by-behind (w.first + w.length) _ (omega arith) (omega arith) b; bare = bare-text }
  where
    by-behind : (e x : ℕ) → x ≡ e → 1 ≤ e → Behind 44 (without_last l) e → (get_or l x 0 ≡ 44) ⊎ (x + 1 ≡ length l)
    by-behind e x s o (inl (h, m)) =
        let u : length (without_last l) ≤ length l - 1 = few-taken (length l - 1) l in
        inl (ap (λ (j : ℕ). get_or l j 0) s ∙ (sym (get_or-take (length l - 1) l e 0 (omega arith)) ∙ h))
    by-behind e x s o (inr h) = let u = length-take (length l - 1) l in inr (omega arith)

    bare-text : times 44 (text_in l (field_at l n)) ≡ 0
    bare-text =
        let w = get_or (cut_at 44 (without_last l)) n [] in
        let a : times 44 (text_in l (field_at l n)) ≡ times 44 (drop (lead_of w) w) = ap (times 44) (field-text l n) in
        let b = times-drop 44 (lead_of w) w in
        let c = cut-none 44 (without_last l) n in
        omega arith

-- ---- words of a field

pub word_some : (c : ℕ) (l : List ℕ) (p : Part) (i : ℕ) → Some (word_in c l p i) → (i < length (cut_at c (text_in l p))) × Some p
unfolding word_in word_at
word_some c l p i h =
    let o = word-lies c (text_in l p) i in
    let u = few-taken p.length (drop p.first l) in
    (word-there (cut_at c (text_in l p)) i h, omega arith)

pub word-follows : (c : ℕ) (l : List ℕ) (p : Part) (i : ℕ) → suc i < length (cut_at c (text_in l p))
    → Follows c l (word_in c l p i) (word_in c l p (suc i))
unfolding word_in
word-follows c l p i n =
    let w = word_at c (text_in l p) i in
    let x = cut-next c (text_in l p) i n in
    let y = x.inside in
    let z = x.first in
    let u = few-taken p.length (drop p.first l) in
    let s : p.first + w.first + w.length ≡ p.first + (w.first + w.length) = omega arith in
    record {
      between = ap (λ (j : ℕ). get_or l j 0) s ∙ (sym (text-get l p (w.first + w.length) (omega arith)) ∙ x.between);
      next = omega arith;
    }

pub word-ends : (l : List ℕ) (p : Part) (i : ℕ) → Whole l p → Shut l p → Some (word_in 47 l p i) → Ends l (word_in 47 l p i)
unfolding word_in word_at
word-ends l p i whole shut some =
    let w = word_at 47 (text_in l p) i in
    let b = cut-end 47 (text_in l p) i (word-there (cut_at 47 (text_in l p)) i some) in
    record {
      behind = by-behind (w.first + w.length) _ (omega arith) b shut.behind;
      no_comma = few (times-drop 44 w.first (text_in l p)) (times-take 44 w.length (drop w.first (text_in l p)));
      no_slash = ap (times 47) (word-in-text 47 l p i) ∙ cut-none 47 (text_in l p) i;
    }
  where
    by-behind : (e x : ℕ) → x ≡ p.first + e → Behind 47 (text_in l p) e
        → (get_or l (past p) 0 ≡ 44) ⊎ (past p + 1 ≡ length l)
        → (get_or l x 0 ≡ 44) ⊎ ((get_or l x 0 ≡ 47) ⊎ (x + 1 ≡ length l))
    by-behind e x s (inl (h, m)) b =
        inr (inl (ap (λ (j : ℕ). get_or l j 0) s ∙ (sym (text-get l p e (omega arith)) ∙ h)))
    by-behind e x s (inr h) (inl b) =
        let y : x ≡ past p = omega arith in inl (ap (λ (j : ℕ). get_or l j 0) y ∙ b)
    by-behind e x s (inr h) (inr b) = inr (inr (omega arith))

    few : times 44 (drop (word_at 47 (text_in l p) i).first (text_in l p)) ≤ times 44 (text_in l p)
        → times 44 (text_in (text_in l p) (word_at 47 (text_in l p) i))
        ≤ times 44 (drop (word_at 47 (text_in l p) i).first (text_in l p))
        → times 44 (text_in l (word_in 47 l p i)) ≡ 0
    few a b =
        let c : times 44 (text_in l (word_in 47 l p i)) ≡ times 44 (text_in (text_in l p) (word_at 47 (text_in l p) i)) =
        ap (times 44) (word-in-text 47 l p i ∙ sym (word-text 47 (text_in l p) i)) in
        let d = shut.bare in
        omega arith
