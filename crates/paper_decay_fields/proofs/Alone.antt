-- There is one place only where a field stands behind its comma, and so for each of its words.
-- Assumes nothing.
use mathlib.Core.Path.{◌≡◌, sym, ap, ◌∙◌}
use mathlib.Core.Bool.{Bool, true, false, cond}
use mathlib.Core.List.{List, [], ◌∷◌, ◌++◌}
use mathlib.Core.Logic.{◌⊎◌, inl, inr}
use Prim.Native.Nat.{ℕ, zero, suc, ◌+◌, ◌-◌, ◌≤◌, ◌<◌}
use native.Mathlib.Omega.{arith}
use borrow.Author.Tests.{eq-eqb}
use lib.Dec.{eqb}
use lib.ListN.{length, get_or, take, length-append, length-replicate, get_or-replicate, get_or-eq_default}
use lib.Seq.{take-take, take-append-le, length-take-le, get_or-take, get_or-append-add}
use Rattle.laws.proofs.Booleans.{differ}
use Rattle.laws.proofs.Search.{either}
use Rattle.paper_number.specs.Grammar.{blanks}
use Rattle.paper_decay_fields.specs.declared.types.Part.{Part}
use Rattle.paper_decay_fields.specs.Parts.{part, text_in}
use Rattle.paper_decay_fields.specs.Standing.{times, past, Opens, Ends, FieldOnce, WordsOnce}
use Rattle.paper_decay_fields.specs.Standing.{HalfOnce}
use Rattle.paper_decay_fields.proofs.Cutting.{times-take, times-append}
use Rattle.paper_decay_fields.proofs.Edges.{text-get}

-- neither is before the other
same_place : (a b : ℕ) → (a < b → ⊥) → (b < a → ⊥) → a ≡ b
same_place a b x y = either a b (λ h. absurd (x h)) (λ h. either b a (λ k. absurd (y k)) (λ k. omega arith))

-- ---- the beginning

-- as many commas stand before it
opens-many : (l : List ℕ) (n a : ℕ) → Opens l n a → n ≤ times 44 (take a l)
unfolding times
opens-many l n a x =
    let e : times 44 (take a l) ≡ times 44 (x.text ++ (44 ∷ blanks x.lead)) = ap (times 44) x.before in
    let f = times-append 44 x.text (44 ∷ blanks x.lead) in
    let g = x.commas in
    omega arith

opens_before : (l : List ℕ) (n a b : ℕ) → Opens l n a → Opens l n b → a < b → ⊥
opens_before l n a b x y less =
    let t = y.text in
    let m = y.lead in
    let i = y.inside in
    let e : length (take b l) ≡ length (t ++ (44 ∷ blanks m)) = ap length y.before in
    let f = length-append t (44 ∷ blanks m) in
    let g : length (blanks m) ≡ m = length-replicate m 32 in
    let h : length (take b l) ≡ b = length-take-le b l (omega arith) in
    either (length t) a (λ k. in-blanks (a - length t - 1) (omega arith) (omega arith)) (λ k. too_few k)
  where
    -- the first is not one of the blanks before the second
    in-blanks : (d : ℕ) → a ≡ length y.text + suc d → d < y.lead → ⊥
    in-blanks d e k =
        x.filled
        (sym (get_or-take b l a 0 less)
        ∙ (ap (λ (r : List ℕ). get_or r a 0) y.before
        ∙ (ap (λ (j : ℕ). get_or (y.text ++ (44 ∷ blanks y.lead)) j 0) e
        ∙ (get_or-append-add y.text (44 ∷ blanks y.lead) (suc d) 0 ∙ get_or-replicate y.lead d 32 0 k))))

    -- nor does it stand before the comma
    too_few : a ≤ length y.text → ⊥
    too_few k =
        let e : take a l ≡ take a y.text =
        sym (take-take a b l (omega arith))
        ∙ (ap (take a) y.before ∙ take-append-le a y.text (44 ∷ blanks y.lead) k) in
        let f : times 44 (take a l) ≡ times 44 (take a y.text) = ap (times 44) e in
        let g = times-take 44 a y.text in
        let h = opens-many l n a x in
        let i = y.commas in
        omega arith

opens-once : (l : List ℕ) (n a b : ℕ) → Opens l n a → Opens l n b → a ≡ b
opens-once l n a b x y = same_place a b (opens_before l n a b x y) (opens_before l n b a y x)

-- ---- the end

none-get : (c : ℕ) (w : List ℕ) (i : ℕ) → 1 ≤ c → times c w ≡ 0 → get_or w i 0 ≡ c → ⊥
unfolding times
none-get c [] i n h e = omega arith
none-get c (b ∷ w) zero n h e = absurd (by-test (eqb b c) (eq-eqb b c e) h)
  where
    by-test : (t : Bool) → t ≡ true → cond t 1 0 + times c w ≡ 0 → ⊥
    by-test true q k = omega arith
    by-test false q k = differ (sym q)
none-get c (b ∷ w) (suc i) n h e = none-get c w i n (omega arith) e

-- the word does not go on behind its end
ends-before : (l : List ℕ) (p q : Part) → p.first ≡ q.first → Ends l p → Ends l q → p.length < q.length → ⊥
ends-before l p q e x y less = by_end x.behind
  where
    there : get_or (text_in l q) p.length 0 ≡ get_or l (past p) 0
    there =
        let s : q.first + p.length ≡ past p = omega arith in
        text-get l q p.length less ∙ ap (λ (j : ℕ). get_or l j 0) s

    by_last : past p + 1 ≡ length l → (get_or l (past q) 0 ≡ 44) ⊎ ((get_or l (past q) 0 ≡ 47) ⊎ (past q + 1 ≡ length l)) → ⊥
    by_last h (inl k) = let o : get_or l (past q) 0 ≡ 0 = get_or-eq_default l 0 (omega arith) in omega arith
    by_last h (inr (inl k)) = let o : get_or l (past q) 0 ≡ 0 = get_or-eq_default l 0 (omega arith) in omega arith
    by_last h (inr (inr k)) = omega arith

    by_end : (get_or l (past p) 0 ≡ 44) ⊎ ((get_or l (past p) 0 ≡ 47) ⊎ (past p + 1 ≡ length l)) → ⊥
    by_end (inl h) = none-get 44 (text_in l q) p.length (omega arith) y.no_comma (there ∙ h)
    by_end (inr (inl h)) = none-get 47 (text_in l q) p.length (omega arith) y.no_slash (there ∙ h)
    by_end (inr (inr h)) = by_last h y.behind

ends-once : (l : List ℕ) (p q : Part) → p.first ≡ q.first → Ends l p → Ends l q → p ≡ q
ends-once l p q e x y =
    let n = same_place p.length q.length (ends-before l p q e x y) (ends-before l q p (sym e) y x) in
    λ i. part (e i) (n i)

-- ---- the laws

pub field-once : FieldOnce
field-once l n p q a b x y = ends-once l p q (opens-once l n p.first q.first a b) x y

pub words-once : WordsOnce
words-once l n many f g x y zero h =
    field-once l n (f 1) (g 1) (x.first (omega arith)) (y.first (omega arith)) (x.ends 0 h) (y.ends 0 h)
words-once l n many f g x y (suc i) h =
    let same : past (f (i + 1)) ≡ past (g (i + 1)) = ap past (words-once l n many f g x y i (omega arith)) in
    let s : i + 2 ≡ suc i + 1 = omega arith in
    let u : (f (i + 2)).first ≡ past (f (i + 1)) + 1 = (x.next i (omega arith)).next in
    let v : (g (i + 2)).first ≡ past (g (i + 1)) + 1 = (y.next i (omega arith)).next in
    let a : (f (i + 2)).first ≡ (f (suc i + 1)).first = ap (λ (j : ℕ). (f j).first) s in
    let b : (g (i + 2)).first ≡ (g (suc i + 1)).first = ap (λ (j : ℕ). (g j).first) s in
    ends-once l (f (suc i + 1)) (g (suc i + 1)) (omega arith) (x.ends (suc i) h) (y.ends (suc i) h)

pub half-once : HalfOnce
half-once l n u m v x y e =
    let same = field-once l 1 (part n.first (n.length + u.length)) (part m.first (m.length + v.length)) x.opens y.opens
    x.ends y.ends in
    let a : n.first ≡ m.first = ap (λ (p : Part). p.first) same in
    let b : n.length + u.length ≡ m.length + v.length = ap (λ (p : Part). p.length) same in
    let c : n.length ≡ m.length = omega arith in
    let f = x.next in
    let g = y.next in
    let d : u.first ≡ v.first = omega arith in
    (λ i. part (a i) (c i), λ i. part (d i) (e i))
