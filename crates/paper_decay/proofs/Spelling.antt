-- What closes the scan is a code.
-- Assumes nothing.
use mathlib.Core.Path.{◌≡◌, refl, sym, ap, ◌∙◌, subst}
use mathlib.Core.Bool.{Bool, true, false, cond}
use mathlib.Core.List.{List, [], ◌∷◌, ◌++◌}
use mathlib.Core.Logic.{◌⊎◌, inl, inr}
use Prim.Native.Nat.{ℕ, suc, ◌+◌, ◌-◌, ◌<◌, ◌≤◌}
use native.Mathlib.Omega.{arith}
use borrow.Author.Tests.{ne_eqb, eqb-true, eqb-false, le-ltb, ltb-true, ltb-false}
use lib.Dec.{eqb, ltb}
use lib.ListN.{length}
use Rattle.laws.specs.Walk.{All}
use Rattle.laws.proofs.Booleans.{differ}
use Rattle.paper_number.specs.Grammar.{blanks, Digits, digits_text}
use Rattle.paper_record.specs.Text.{is_digit, is_capital}
use Rattle.paper_record.proofs.Within.{within-bounds}
use Rattle.paper_decay.specs.declared.types.Scan.{Scan}
use Rattle.paper_decay.specs.Scan.{fresh, nowhere, to_if, head, digits_next, before_nuclide, flag_digits, symbol_step}
use Rattle.paper_decay.specs.Scan.{head_whole, step_of}
use Rattle.paper_decay.specs.Code.{Isomer, unsaid, ground_state, metastable, first, second, isomer_text, Nuclide, Short, Capital}
use Rattle.paper_decay.specs.Code.{GoodNuclide, Place, GoodPlaces, Code, write, Good, Spells}
use Rattle.paper_decay.proofs.Cuts.{Figure}
use Rattle.paper_decay.proofs.Once.{rest, nuclide_then, core, flag_then, write-cut}
use Rattle.paper_decay.proofs.Steps.{steps, nowhere-steps, Inner}
use Rattle.paper_decay.proofs.Closing.{not-closed, closed-end, Tail, places-sound}
use Rattle.paper_decay.proofs.Heads.{in-0, in-1, in-2, in-3, in-4, Digital, in-5, in-6, in-7, in-8, in-9, in-10}
use Rattle.paper_decay.proofs.Heads.{next-zero, next-first, next_more, next-full, next-none, digit-step, stop_step, none-step}
use Rattle.paper_decay.proofs.Heads.{before-digit, before-blank, before-none, symbol-more}
use Rattle.paper_decay.proofs.Heads.{head-close, head-comma, flag-more, point-close}

-- the scan closes at the last character
abbrev pub Closes : Scan → List ℕ → Type 0
Closes s m = (steps s m).place ≡ 5

-- by where the first character leads
pub goes : (s t : Scan) (b : ℕ) (m : List ℕ) → step_of s b ≡ t → Closes s (b ∷ m) → Closes t m
unfolding steps
goes s t b m e h = ap (λ (x : Scan). (steps x m).place) (sym e) ∙ h

lost : {X : Type 0} (s : Scan) (b : ℕ) (m : List ℕ) → step_of s b ≡ nowhere → Closes s (b ∷ m) → X
lost s b m e h = not-closed (steps nowhere m) (nowhere-steps m) (goes s nowhere b m e h)

-- a head is not closed
head-open : {X : Type 0} (q k : ℕ) → Closes (head q k) [] → X
unfolding steps
head-open q k h = absurd (omega arith)

inner-or : (b : ℕ) → Inner b ⊎ ((b ≡ 41) ⊎ (b ≡ 44))
inner-or b = by_tests (eqb b 41) refl (eqb b 44) refl
  where
    by_tests : (p : Bool) → eqb b 41 ≡ p → (q : Bool) → eqb b 44 ≡ q → Inner b ⊎ ((b ≡ 41) ⊎ (b ≡ 44))
    by_tests true e q f = inr (inl (eqb-true b 41 e))
    by_tests false e true f = inr (inr (eqb-true b 44 f))
    by_tests false e false f = inl (eqb-false b 41 e, eqb-false b 44 f)

-- ---- the end of the nuclide

end-sound : (q k b : ℕ) (m : List ℕ) → (q ≡ 3 → ⊥) → (b ≡ 41) ⊎ (b ≡ 44) → Closes (head q k) (b ∷ m)
    → (head_whole q k ≡ true) × Tail (b ∷ m)
end-sound q k b m n (inl z) h = by_whole (head_whole q k) refl
  where
    e : step_of (head q k) b ≡ to_if (head_whole q k) (fresh 5 false)
    e = ap (step_of (head q k)) z ∙ head-close q k n

    by_whole : (t : Bool) → head_whole q k ≡ t → (head_whole q k ≡ true) × Tail (b ∷ m)
    by_whole true w =
        let c = closed-end m (goes (head q k) (fresh 5 false) b m (e ∙ ap (λ (t : Bool). to_if t (fresh 5 false)) w) h) in
        (w, record { places = []; good = record { fitting = tt; last = tt; groups = tt }; same = λ i. sym z i ∷ sym c i })
    by_whole false w = lost (head q k) b m (e ∙ ap (λ (t : Bool). to_if t (fresh 5 false)) w) h
end-sound q k b m n (inr z) h = by_whole (head_whole q k) refl
  where
    e : step_of (head q k) b ≡ cond (head_whole q k) (fresh 1 false) nowhere
    e = ap (step_of (head q k)) z ∙ head-comma q k

    by_whole : (t : Bool) → head_whole q k ≡ t → (head_whole q k ≡ true) × Tail (b ∷ m)
    by_whole true w =
        let c = places-sound m (goes (head q k) (fresh 1 false) b m (e ∙ ap (λ (t : Bool). cond t (fresh 1 false) nowhere) w) h) in
        (w, subst (λ (x : ℕ). Tail (x ∷ m)) (sym z) c)
    by_whole false w = lost (head q k) b m (e ∙ ap (λ (t : Bool). cond t (fresh 1 false) nowhere) w) h

-- an end where the nuclide is not whole
end-lost : {X : Type 0} (q k b : ℕ) (m : List ℕ) → (q ≡ 3 → ⊥) → head_whole q k ≡ false → (b ≡ 41) ⊎ (b ≡ 44)
    → Closes (head q k) (b ∷ m) → X
end-lost q k b m n w e h = differ (sym (end-sound q k b m n e h).0 ∙ w)

-- ---- the isomer

record Iso (l : List ℕ) : Type 0 where
  isomer : Isomer
  places : List Place
  good : GoodPlaces places
  same : isomer_text isomer ++ rest places ≡ l

iso-10 : (m : List ℕ) → Closes (head 10 0) m → Tail m
iso-10 [] h = head-open 10 0 h
iso-10 (b ∷ m) h = by_end (inner-or b)
  where
    by_end : Inner b ⊎ ((b ≡ 41) ⊎ (b ≡ 44)) → Tail (b ∷ m)
    by_end (inl i) = lost (head 10 0) b m (in-10 b i) h
    by_end (inr e) = (end-sound 10 0 b m (λ z. omega arith) e h).1

iso-9 : (m : List ℕ) → Closes (head 9 0) m → Iso (45 ∷ 77 ∷ m)
iso-9 [] h = head-open 9 0 h
iso-9 (b ∷ m) h = by_end (inner-or b)
  where
    by_tests : Inner b → (p : Bool) → eqb b 49 ≡ p → (q : Bool) → eqb b 50 ≡ q → Iso (45 ∷ 77 ∷ b ∷ m)
    by_tests i true e q f =
        let z : b ≡ 49 = eqb-true b 49 e in
        let t = iso-10 m (goes (head 9 0) (head 10 0) b m (in-9 b i ∙ rw e refl) h) in
        record { isomer = first; places = t.places; good = t.good; same = λ j. 45 ∷ 77 ∷ sym z j ∷ t.same j }
    by_tests i false e true f =
        let z : b ≡ 50 = eqb-true b 50 f in
        let t = iso-10 m (goes (head 9 0) (head 10 0) b m (in-9 b i ∙ rw (e, f) refl) h) in
        record { isomer = second; places = t.places; good = t.good; same = λ j. 45 ∷ 77 ∷ sym z j ∷ t.same j }
    by_tests i false e false f = lost (head 9 0) b m (in-9 b i ∙ rw (e, f) refl) h

    by_end : Inner b ⊎ ((b ≡ 41) ⊎ (b ≡ 44)) → Iso (45 ∷ 77 ∷ b ∷ m)
    by_end (inl i) = by_tests i (eqb b 49) refl (eqb b 50) refl
    by_end (inr e) =
        let t = (end-sound 9 0 b m (λ z. omega arith) e h).1 in
        record { isomer = metastable; places = t.places; good = t.good; same = λ j. 45 ∷ 77 ∷ t.same j }

eight : head_whole 8 0 ≡ false
unfolding head_whole
eight = refl

iso-8 : (m : List ℕ) → Closes (head 8 0) m → Iso (45 ∷ m)
iso-8 [] h = head-open 8 0 h
iso-8 (b ∷ m) h = by_end (inner-or b)
  where
    by_tests : Inner b → (p : Bool) → eqb b 77 ≡ p → (q : Bool) → eqb b 71 ≡ q → Iso (45 ∷ b ∷ m)
    by_tests i true e q f =
        let z : b ≡ 77 = eqb-true b 77 e in
        subst (λ (x : ℕ). Iso (45 ∷ x ∷ m)) (sym z) (iso-9 m (goes (head 8 0) (head 9 0) b m (in-8 b i ∙ rw e refl) h))
    by_tests i false e true f =
        let z : b ≡ 71 = eqb-true b 71 f in
        let t = iso-10 m (goes (head 8 0) (head 10 0) b m (in-8 b i ∙ rw (e, f) refl) h) in
        record { isomer = ground_state; places = t.places; good = t.good; same = λ j. 45 ∷ sym z j ∷ t.same j }
    by_tests i false e false f = lost (head 8 0) b m (in-8 b i ∙ rw (e, f) refl) h

    by_end : Inner b ⊎ ((b ≡ 41) ⊎ (b ≡ 44)) → Iso (45 ∷ b ∷ m)
    by_end (inl i) = by_tests i (eqb b 77) refl (eqb b 71) refl
    by_end (inr e) = end-lost 8 0 b m (λ z. omega arith) eight e h

-- ---- digits

-- digits behind k of them, and what follows
record More (T : List ℕ → Type 0) (k : ℕ) (m : List ℕ) : Type 0 where
  ds : List ℕ
  digits : Digits ds
  few : k + length ds ≤ 3
  left : List ℕ
  follows : T left
  same : digits_text ds ++ left ≡ m

-- "up to 3 digits, no leading zeros", and what follows
record ShortThen (T : List ℕ → Type 0) (m : List ℕ) : Type 0 where
  ds : List ℕ
  short : Short ds
  left : List ℕ
  follows : T left
  same : digits_text ds ++ left ≡ m

-- the digit of a character
digit-of : (b : ℕ) → Figure b → (b - 48 < 10) × (48 + (b - 48) ≡ b)
digit-of b f = (omega (arith, f.0, f.1), omega (arith, f.0))

digit-figure : (b : ℕ) → is_digit b ≡ true → Figure b
digit-figure b e = within-bounds 48 57 b e

more_by : (T : List ℕ → Type 0) (k b : ℕ) (m : List ℕ) → Figure b → More T (k + 1) m → More T k (b ∷ m)
more_by T k b m f r =
    let (s, e) = digit-of b f in
    record {
      ds = (b - 48) ∷ r.ds;
      digits = (s, r.digits);
      few = omega (arith, r.few);
      left = r.left;
      follows = r.follows;
      same = λ i. e i ∷ r.same i;
    }

module _ (inner next : ℕ) (d : Digital inner next) (T : List ℕ → Type 0)
    (stop : (k b : ℕ) (m : List ℕ) → 1 ≤ k → is_digit b ≡ false → Closes (head inner k) (b ∷ m) → T (b ∷ m)) where
  digits-sound : (m : List ℕ) (k : ℕ) → 1 ≤ k → k ≤ 3 → Closes (head inner k) m → More T k m
  digits-sound [] k n f h = head-open inner k h
  digits-sound (b ∷ m) k n f h =
      by-digit (λ g c. digits-sound m (k + 1) (omega arith) g c) (is_digit b) refl (ltb k 3) refl
    where
      by-digit : (k + 1 ≤ 3 → Closes (head inner (k + 1)) m → More T (k + 1) m)
          → (p : Bool) → is_digit b ≡ p → (q : Bool) → ltb k 3 ≡ q → More T k (b ∷ m)
      by-digit ih false e q g =
          record { ds = []; digits = tt; few = omega arith; left = b ∷ m; follows = stop k b m n e h; same = refl }
      by-digit ih true e true g =
          let x = digit-figure b e in
          let l = ltb-true k 3 g in
          let i : Inner b = (λ z. omega (arith, x.0), λ z. omega (arith, x.0)) in
          let s = d k b i ∙ digit-step inner next k b (k + 1) (next_more k b x n l) (omega arith) in
          more_by T k b m x (ih (omega arith) (goes (head inner k) (head inner (k + 1)) b m s h))
      by-digit ih true e false g =
          let x = digit-figure b e in
          let l = ltb-false k 3 g in
          let i : Inner b = (λ z. omega (arith, x.0), λ z. omega (arith, x.0)) in
          let s = d k b i ∙ stop_step inner next k b (next-full k b x l) n in
          lost (head inner k) b m (s ∙ ap (λ (t : Bool). to_if t (head next 0)) (ne_eqb b 45 (λ z. omega (arith, x.0)))) h

  -- a first digit leads to its count
  short-sound : (b : ℕ) (m : List ℕ) → Figure b → ((k : ℕ) → digits_next 0 b ≡ k → 1 ≤ k → Closes (head inner k) m)
      → ShortThen T (b ∷ m)
  short-sound b m x c = by_zero (eqb b 48) refl
    where
      by_zero : (t : Bool) → eqb b 48 ≡ t → ShortThen T (b ∷ m)
      by_zero true e =
          let z : b ≡ 48 = eqb-true b 48 e in
          let r = digits-sound m 3 (omega arith) (omega arith) (c 3 (ap (digits_next 0) z ∙ next-zero) (omega arith)) in
          let (s, y) = digit-of b x in
          record {
            ds = (b - 48) ∷ r.ds;
            short = record {
              digits = (s, r.digits);
              some = omega arith;
              few = omega (arith, r.few);
              lead = λ q. omega (arith, r.few);
            };
            left = r.left;
            follows = r.follows;
            same = λ i. y i ∷ r.same i;
          }
      by_zero false e =
          let z = eqb-false b 48 e in
          let r = digits-sound m 1 (omega arith) (omega arith) (c 1 (next-first b x z) (omega arith)) in
          let (s, y) = digit-of b x in
          record {
            ds = (b - 48) ∷ r.ds;
            short = record {
              digits = (s, r.digits);
              some = omega arith;
              few = omega (arith, r.few);
              lead = λ q. absurd (z (omega (arith, q, x.0)));
            };
            left = r.left;
            follows = r.follows;
            same = λ i. y i ∷ r.same i;
          }

-- ---- A and the isomer

stop-7 : (k b : ℕ) (m : List ℕ) → 1 ≤ k → is_digit b ≡ false → Closes (head 7 k) (b ∷ m) → Iso (b ∷ m)
stop-7 k b m n e h = by_end (inner-or b)
  where
    by-hyphen : Inner b → (p : Bool) → eqb b 45 ≡ p → Iso (b ∷ m)
    by-hyphen i true f =
        let z : b ≡ 45 = eqb-true b 45 f in
        subst (λ (x : ℕ). Iso (x ∷ m)) (sym z)
        (iso-8 m (goes (head 7 k) (head 8 0) b m (in-7 k b i ∙ stop_step 7 8 k b (next-none k b e) n ∙ rw f refl) h))
    by-hyphen i false f = lost (head 7 k) b m (in-7 k b i ∙ stop_step 7 8 k b (next-none k b e) n ∙ rw f refl) h

    by_end : Inner b ⊎ ((b ≡ 41) ⊎ (b ≡ 44)) → Iso (b ∷ m)
    by_end (inl i) = by-hyphen i (eqb b 45) refl
    by_end (inr x) =
        let t = (end-sound 7 k b m (λ z. omega arith) x h).1 in
        record { isomer = unsaid; places = t.places; good = t.good; same = t.same }

seven : head_whole 7 0 ≡ false
unfolding head_whole
seven = refl

a-sound : (m : List ℕ) → Closes (head 7 0) m → ShortThen Iso m
a-sound [] h = head-open 7 0 h
a-sound (b ∷ m) h = by_end (inner-or b)
  where
    by-digit : Inner b → (p : Bool) → is_digit b ≡ p → ShortThen Iso (b ∷ m)
    by-digit i true e =
        short-sound 7 8 in-7 Iso stop-7 b m (digit-figure b e)
        (λ k f n. goes (head 7 0) (head 7 k) b m (in-7 0 b i ∙ digit-step 7 8 0 b k f n) h)
    by-digit i false e = lost (head 7 0) b m (in-7 0 b i ∙ none-step 7 8 b (next-none 0 b e)) h

    by_end : Inner b ⊎ ((b ≡ 41) ⊎ (b ≡ 44)) → ShortThen Iso (b ∷ m)
    by_end (inl i) = by-digit i (is_digit b) refl
    by_end (inr x) = end-lost 7 0 b m (λ z. omega arith) seven x h

-- ---- the symbol

record Symbol (k : ℕ) (m : List ℕ) : Type 0 where
  letters : List ℕ
  capitals : All Capital letters
  some : 1 ≤ k + length letters
  few : k + length letters ≤ 2
  left : List ℕ
  follows : ShortThen Iso left
  same : letters ++ (45 ∷ left) ≡ m

six : (k : ℕ) → head_whole 6 k ≡ false
unfolding head_whole
six k = refl

symbol-full : (k b : ℕ) → Capital b → 2 ≤ k → symbol_step k b ≡ nowhere
unfolding symbol_step
symbol-full k b c h = rw (c, le-ltb k 2 h) refl

symbol-stop : (k b : ℕ) → is_capital b ≡ false → 1 ≤ k → symbol_step k b ≡ to_if (eqb b 45) (head 7 0)
unfolding symbol_step
symbol-stop k b c h = rw (c, ne_eqb k 0 (λ z. omega arith)) refl

symbol-none : (b : ℕ) → is_capital b ≡ false → symbol_step 0 b ≡ nowhere
unfolding symbol_step
symbol-none b c = rw c refl

symbol-sound : (m : List ℕ) (k : ℕ) → k ≤ 2 → Closes (head 6 k) m → Symbol k m
symbol-sound [] k f h = head-open 6 k h
symbol-sound (b ∷ m) k f h = by_end (λ g c. symbol-sound m (k + 1) g c) (inner-or b)
  where
    by-stop : Inner b → is_capital b ≡ false → (p : Bool) → eqb k 0 ≡ p → (q : Bool) → eqb b 45 ≡ q → Symbol k (b ∷ m)
    by-stop i e true g q y =
        let z : k ≡ 0 = eqb-true k 0 g in
        lost (head 6 k) b m (in-6 k b i ∙ ap (λ (x : ℕ). symbol_step x b) z ∙ symbol-none b e) h
    by-stop i e false g true y =
        let z = eqb-false k 0 g in
        let w : b ≡ 45 = eqb-true b 45 y in
        let s = in-6 k b i ∙ symbol-stop k b e (omega arith) ∙ ap (λ (t : Bool). to_if t (head 7 0)) y in
        record {
          letters = [];
          capitals = tt;
          some = omega arith;
          few = omega arith;
          left = m;
          follows = a-sound m (goes (head 6 k) (head 7 0) b m s h);
          same = λ j. sym w j ∷ m;
        }
    by-stop i e false g false y =
        let z = eqb-false k 0 g in
        lost (head 6 k) b m (in-6 k b i ∙ symbol-stop k b e (omega arith) ∙ ap (λ (t : Bool). to_if t (head 7 0)) y) h

    by-capital : (k + 1 ≤ 2 → Closes (head 6 (k + 1)) m → Symbol (k + 1) m) → Inner b
        → (p : Bool) → is_capital b ≡ p → (q : Bool) → ltb k 2 ≡ q → Symbol k (b ∷ m)
    by-capital ih i false e q g = by-stop i e (eqb k 0) refl (eqb b 45) refl
    by-capital ih i true e true g =
        let l = ltb-true k 2 g in
        let r = ih (omega arith) (goes (head 6 k) (head 6 (k + 1)) b m (in-6 k b i ∙ symbol-more k b e l) h) in
        record {
          letters = b ∷ r.letters;
          capitals = (e, r.capitals);
          some = omega arith;
          few = omega (arith, r.few);
          left = r.left;
          follows = r.follows;
          same = ap (λ (x : List ℕ). b ∷ x) r.same;
        }
    by-capital ih i true e false g =
        lost (head 6 k) b m (in-6 k b i ∙ symbol-full k b e (ltb-false k 2 g)) h

    by_end : (k + 1 ≤ 2 → Closes (head 6 (k + 1)) m → Symbol (k + 1) m) → Inner b ⊎ ((b ≡ 41) ⊎ (b ≡ 44)) → Symbol k (b ∷ m)
    by_end ih (inl i) = by-capital ih i (is_capital b) refl (ltb k 2) refl
    by_end ih (inr x) = end-lost 6 k b m (λ z. omega arith) (six k) x h

-- ---- Z

record Hyphen (m : List ℕ) : Type 0 where
  left : List ℕ
  follows : Symbol 0 left
  same : 45 ∷ left ≡ m

five : (k : ℕ) → head_whole 5 k ≡ false
unfolding head_whole
five k = refl

stop-5 : (k b : ℕ) (m : List ℕ) → 1 ≤ k → is_digit b ≡ false → Closes (head 5 k) (b ∷ m) → Hyphen (b ∷ m)
stop-5 k b m n e h = by_end (inner-or b)
  where
    by-hyphen : Inner b → (p : Bool) → eqb b 45 ≡ p → Hyphen (b ∷ m)
    by-hyphen i true f =
        let z : b ≡ 45 = eqb-true b 45 f in
        let s = in-5 k b i ∙ stop_step 5 6 k b (next-none k b e) n ∙ ap (λ (t : Bool). to_if t (head 6 0)) f in
        record { left = m; follows = symbol-sound m 0 (omega arith) (goes (head 5 k) (head 6 0) b m s h); same = λ j. sym z j ∷ m }
    by-hyphen i false f =
        lost (head 5 k) b m (in-5 k b i ∙ stop_step 5 6 k b (next-none k b e) n ∙ ap (λ (t : Bool). to_if t (head 6 0)) f) h

    by_end : Inner b ⊎ ((b ≡ 41) ⊎ (b ≡ 44)) → Hyphen (b ∷ m)
    by_end (inl i) = by-hyphen i (eqb b 45) refl
    by_end (inr x) = end-lost 5 k b m (λ z. omega arith) (five k) x h

-- ---- the nuclide and what follows it, behind blanks

record Core (m : List ℕ) : Type 0 where
  lead : ℕ
  nuclide : Nuclide
  places : List Place
  good : GoodNuclide nuclide
  filled : GoodPlaces places
  same : blanks lead ++ nuclide_then nuclide (rest places) ≡ m

core-of : (m : List ℕ) → ShortThen Hyphen m → Core m
core-of m z =
    let y = z.follows in
    let s = y.follows in
    let a = s.follows in
    let x = a.follows in
    record {
      lead = 0;
      nuclide = record { z = z.ds; symbol = s.letters; a = a.ds; isomer = x.isomer };
      places = x.places;
      good = record {
        z = z.short;
        symbol = s.capitals;
        one = omega (arith, s.some);
        two = omega (arith, s.few);
        a = a.short;
      };
      filled = x.good;
      same = ap (λ (l : List ℕ). digits_text z.ds ++ l)
          (ap (λ (l : List ℕ). 45 ∷ l)
          (ap (λ (l : List ℕ). s.letters ++ (45 ∷ l)) (ap (λ (l : List ℕ). digits_text a.ds ++ l) x.same ∙ a.same) ∙ s.same)
          ∙ y.same)
          ∙ z.same;
    }

core-blank : (b : ℕ) (m : List ℕ) → b ≡ 32 → Core m → Core (b ∷ m)
core-blank b m z c =
    record {
      lead = suc c.lead;
      nuclide = c.nuclide;
      places = c.places;
      good = c.good;
      filled = c.filled;
      same = λ i. sym z i ∷ c.same i;
    }

four : head_whole 4 0 ≡ false
unfolding head_whole
four = refl

-- from a state that goes as the place before the nuclide
before-sound : (s : Scan) (b : ℕ) (m : List ℕ) → step_of s b ≡ before_nuclide b → Closes s (b ∷ m) → (Closes (head 4 0) m → Core m)
    → Core (b ∷ m)
before-sound s b m e h ih = by_blank (eqb b 32) refl (is_digit b) refl
  where
    by_blank : (p : Bool) → eqb b 32 ≡ p → (q : Bool) → is_digit b ≡ q → Core (b ∷ m)
    by_blank true f q g =
        let z : b ≡ 32 = eqb-true b 32 f in
        core-blank b m z (ih (goes s (head 4 0) b m (e ∙ ap before_nuclide z ∙ before-blank) h))
    by_blank false f true g =
        let x = digit-figure b g in
        core-of (b ∷ m)
        (short-sound 5 6 in-5 Hyphen stop-5 b m x (λ k y n. goes s (head 5 k) b m (e ∙ before-digit b k x y n) h))
    by_blank false f false g = lost s b m (e ∙ before-none b (eqb-false b 32 f) g) h

core-4 : (m : List ℕ) → Closes (head 4 0) m → Core m
core-4 [] h = head-open 4 0 h
core-4 (b ∷ m) h = by_end (λ c. core-4 m c) (inner-or b)
  where
    by_end : (Closes (head 4 0) m → Core m) → Inner b ⊎ ((b ≡ 41) ⊎ (b ≡ 44)) → Core (b ∷ m)
    by_end ih (inl i) = before-sound (head 4 0) b m (in-4 b i) h ih
    by_end ih (inr x) = end-lost 4 0 b m (λ z. omega arith) four x h

-- ---- the flag

record Flag (k : ℕ) (m : List ℕ) : Type 0 where
  ds : List ℕ
  digits : Digits ds
  some : 1 ≤ k + length ds
  few : k + length ds ≤ 10
  left : List ℕ
  follows : Core left
  same : digits_text ds ++ (46 ∷ 41 ∷ left) ≡ m

three : (k : ℕ) → head_whole 3 k ≡ false
unfolding head_whole
three k = refl

two : (k : ℕ) → head_whole 2 k ≡ false
unfolding head_whole
two k = refl

record Shut (m : List ℕ) : Type 0 where
  left : List ℕ
  follows : Core left
  same : 41 ∷ left ≡ m

point-sound : (m : List ℕ) → Closes (head 3 0) m → Shut m
point-sound [] h = head-open 3 0 h
point-sound (b ∷ m) h = by_end (inner-or b)
  where
    by_end : Inner b ⊎ ((b ≡ 41) ⊎ (b ≡ 44)) → Shut (b ∷ m)
    by_end (inl i) = lost (head 3 0) b m (in-3 b i) h
    by_end (inr (inl z)) =
        let c = core-4 m (goes (head 3 0) (head 4 0) b m (ap (step_of (head 3 0)) z ∙ point-close) h) in
        record { left = m; follows = c; same = λ i. sym z i ∷ m }
    by_end (inr (inr z)) =
        lost (head 3 0) b m
        (ap (step_of (head 3 0)) z ∙ head-comma 3 0 ∙ ap (λ (t : Bool). cond t (fresh 1 false) nowhere) (three 0)) h

flag-full : (k b : ℕ) → is_digit b ≡ true → 10 ≤ k → flag_digits k b ≡ nowhere
unfolding flag_digits
flag-full k b c h = rw (c, le-ltb k 10 h) refl

flag-stop : (k b : ℕ) → is_digit b ≡ false → 1 ≤ k → flag_digits k b ≡ to_if (eqb b 46) (head 3 0)
unfolding flag_digits
flag-stop k b c h = rw (c, ne_eqb k 0 (λ z. omega arith)) refl

flag-none : (b : ℕ) → is_digit b ≡ false → flag_digits 0 b ≡ nowhere
unfolding flag_digits
flag-none b c = rw c refl

flag-sound : (m : List ℕ) (k : ℕ) → k ≤ 10 → Closes (head 2 k) m → Flag k m
flag-sound [] k f h = head-open 2 k h
flag-sound (b ∷ m) k f h = by_end (λ g c. flag-sound m (k + 1) g c) (inner-or b)
  where
    by-stop : Inner b → is_digit b ≡ false → (p : Bool) → eqb k 0 ≡ p → (q : Bool) → eqb b 46 ≡ q → Flag k (b ∷ m)
    by-stop i e true g q y =
        let z : k ≡ 0 = eqb-true k 0 g in
        lost (head 2 k) b m (in-2 k b i ∙ ap (λ (x : ℕ). flag_digits x b) z ∙ flag-none b e) h
    by-stop i e false g true y =
        let z = eqb-false k 0 g in
        let w : b ≡ 46 = eqb-true b 46 y in
        let s = in-2 k b i ∙ flag-stop k b e (omega arith) ∙ ap (λ (t : Bool). to_if t (head 3 0)) y in
        let c = point-sound m (goes (head 2 k) (head 3 0) b m s h) in
        record {
          ds = [];
          digits = tt;
          some = omega arith;
          few = omega arith;
          left = c.left;
          follows = c.follows;
          same = λ j. sym w j ∷ c.same j;
        }
    by-stop i e false g false y =
        let z = eqb-false k 0 g in
        lost (head 2 k) b m (in-2 k b i ∙ flag-stop k b e (omega arith) ∙ ap (λ (t : Bool). to_if t (head 3 0)) y) h

    by-digit : (k + 1 ≤ 10 → Closes (head 2 (k + 1)) m → Flag (k + 1) m) → Inner b
        → (p : Bool) → is_digit b ≡ p → (q : Bool) → ltb k 10 ≡ q → Flag k (b ∷ m)
    by-digit ih i false e q g = by-stop i e (eqb k 0) refl (eqb b 46) refl
    by-digit ih i true e true g =
        let l = ltb-true k 10 g in
        let x = digit-figure b e in
        let (s, y) = digit-of b x in
        let r = ih (omega arith) (goes (head 2 k) (head 2 (k + 1)) b m (in-2 k b i ∙ flag-more k b x l) h) in
        record {
          ds = (b - 48) ∷ r.ds;
          digits = (s, r.digits);
          some = omega arith;
          few = omega (arith, r.few);
          left = r.left;
          follows = r.follows;
          same = λ j. y j ∷ r.same j;
        }
    by-digit ih i true e false g =
        lost (head 2 k) b m (in-2 k b i ∙ flag-full k b e (ltb-false k 10 g)) h

    by_end : (k + 1 ≤ 10 → Closes (head 2 (k + 1)) m → Flag (k + 1) m) → Inner b ⊎ ((b ≡ 41) ⊎ (b ≡ 44)) → Flag k (b ∷ m)
    by_end ih (inl i) = by-digit ih i (is_digit b) refl (ltb k 10) refl
    by_end ih (inr x) = end-lost 2 k b m (λ z. omega arith) (two k) x h

-- ---- the code

pub record Spelt (m : List ℕ) : Type 0 where
  pub code : Code
  pub spells : Spells m code

abbrev made : List ℕ → (m : List ℕ) → Core m → Code
made f m c = record { flag = f; lead = c.lead; nuclide = c.nuclide; places = c.places }

made-good : (f m : List ℕ) (c : Core m) → Digits f → length f ≤ 10 → Good (made f m c)
made-good f m c h n = record { flag = h; flag_few = n; nuclide = c.good; places = c.filled }

made-core : (f m : List ℕ) (c : Core m) → core (made f m c) ≡ m
unfolding core
made-core f m c = c.same

made-write : (f m : List ℕ) (c : Core m) → write (made f m c) ≡ 40 ∷ flag_then f m
made-write f m c =
    write-cut (made f m c) ∙ ap (λ (l : List ℕ). 40 ∷ flag_then f l) (made-core f m c)

one : head_whole 1 0 ≡ false
unfolding head_whole
one = refl

nil : head_whole 0 0 ≡ false
unfolding head_whole
nil = refl

bare-then : (m : List ℕ) → flag_then [] m ≡ m
unfolding flag_then
bare-then m = refl

bare-spelt : (m : List ℕ) → Core m → Spelt (40 ∷ m)
bare-spelt m c =
    record {
      code = made [] m c;
      spells = record {
        good = made-good [] m c tt (omega arith);
        same = made-write [] m c ∙ ap (λ (l : List ℕ). 40 ∷ l) (bare-then m);
      };
    }

flag-then : (d : ℕ) (ds m l : List ℕ) → digits_text (d ∷ ds) ++ (46 ∷ 41 ∷ m) ≡ l → flag_then (d ∷ ds) m ≡ 40 ∷ l
unfolding flag_then
flag-then d ds m l e = ap (λ (x : List ℕ). 40 ∷ x) e

flag-spelt : (ds m l : List ℕ) → Core m → Digits ds → 1 ≤ length ds → length ds ≤ 10 → digits_text ds ++ (46 ∷ 41 ∷ m) ≡ l
    → Spelt (40 ∷ 40 ∷ l)
flag-spelt [] m l c h n f e = absurd (omega arith)
flag-spelt (d ∷ ds) m l c h n f e =
    record {
      code = made (d ∷ ds) m c;
      spells = record {
        good = made-good (d ∷ ds) m c h f;
        same = made-write (d ∷ ds) m c ∙ ap (λ (x : List ℕ). 40 ∷ x) (flag-then d ds m l e);
      };
    }

open-sound : (m : List ℕ) → Closes (head 1 0) m → Spelt (40 ∷ m)
open-sound [] h = head-open 1 0 h
open-sound (b ∷ m) h = by_end (inner-or b)
  where
    by_flag : Inner b → (p : Bool) → eqb b 40 ≡ p → Spelt (40 ∷ b ∷ m)
    by_flag i true e =
        let z : b ≡ 40 = eqb-true b 40 e in
        let f = flag-sound m 0 (omega arith)
        (goes (head 1 0) (head 2 0) b m (in-1 b i ∙ ap (λ (t : Bool). cond t (head 2 0) (before_nuclide b)) e) h) in
        subst (λ (x : ℕ). Spelt (40 ∷ x ∷ m)) (sym z)
        (flag-spelt f.ds f.left m f.follows f.digits (omega (arith, f.some)) (omega (arith, f.few)) f.same)
    by_flag i false e =
        bare-spelt (b ∷ m)
        (before-sound (head 1 0) b m (in-1 b i ∙ ap (λ (t : Bool). cond t (head 2 0) (before_nuclide b)) e) h (core-4 m))

    by_end : Inner b ⊎ ((b ≡ 41) ⊎ (b ≡ 44)) → Spelt (40 ∷ b ∷ m)
    by_end (inl i) = by_flag i (eqb b 40) refl
    by_end (inr x) = end-lost 1 0 b m (λ z. omega arith) one x h

pub code-sound : (m : List ℕ) → Closes (fresh 0 false) m → Spelt m
code-sound [] h = head-open 0 0 h
code-sound (b ∷ m) h = by_end (inner-or b)
  where
    by-open : Inner b → (p : Bool) → eqb b 40 ≡ p → Spelt (b ∷ m)
    by-open i true e =
        let z : b ≡ 40 = eqb-true b 40 e in
        subst (λ (x : ℕ). Spelt (x ∷ m)) (sym z)
        (open-sound m (goes (head 0 0) (head 1 0) b m (in-0 b i ∙ ap (λ (t : Bool). to_if t (head 1 0)) e) h))
    by-open i false e = lost (head 0 0) b m (in-0 b i ∙ ap (λ (t : Bool). to_if t (head 1 0)) e) h

    by_end : Inner b ⊎ ((b ≡ 41) ⊎ (b ≡ 44)) → Spelt (b ∷ m)
    by_end (inl i) = by-open i (eqb b 40) refl
    by_end (inr x) = end-lost 0 0 b m (λ z. omega arith) nil x h
