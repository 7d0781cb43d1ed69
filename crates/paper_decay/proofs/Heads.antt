-- The flag and the nuclide: a code's characters close the scan.
-- Assumes nothing.
use mathlib.Core.Path.{◌≡◌, refl, ap, ◌∙◌}
use mathlib.Core.Bool.{Bool, true, false, cond}
use mathlib.Core.List.{List, [], ◌∷◌, ◌++◌}
use Prim.Native.Nat.{ℕ, zero, suc, ◌+◌, ◌<◌, ◌≤◌}
use native.Mathlib.Omega.{arith}
use borrow.Author.Tests.{ne_eqb, eqb-true, eqb-false, lt-ltb, le-ltb, le-leb}
use lib.Dec.{eqb}
use lib.ListN.{length}
use Rattle.laws.specs.Walk.{All}
use Rattle.paper_number.specs.Grammar.{blanks, Digits, digits_text}
use Rattle.paper_record.specs.Text.{is_digit}
use Rattle.paper_decay.specs.declared.types.Scan.{Scan}
use Rattle.paper_decay.specs.Scan.{fresh, nowhere, to_if, head, digits_next, before_nuclide, flag_digits, flag_step}
use Rattle.paper_decay.specs.Scan.{digits_step, symbol_step, nuclide_step, head_step, inside_step, head_whole, is_whole}
use Rattle.paper_decay.specs.Scan.{is_flag_point, close_step, next_place, comma_step, step_of}
use Rattle.paper_decay.specs.Code.{Isomer, unsaid, ground_state, metastable, first, second, isomer_text, Nuclide, Short, Capital}
use Rattle.paper_decay.specs.Code.{GoodNuclide, Place, GoodPlaces, Code, write, Good}
use Rattle.paper_decay.proofs.Cuts.{Figure}
use Rattle.paper_decay.proofs.Inside.{capital-inside}
use Rattle.paper_decay.proofs.Once.{rest, rest-cut, nuclide_then, core, flag_then, write-cut}
use Rattle.paper_decay.proofs.Steps.{steps, Inner, step-inside}
use Rattle.paper_decay.proofs.Closing.{places-close}

-- ---- one step, by the place

step-head : (inner count b : ℕ) → Inner b → step_of (head inner count) b ≡ head_step inner count b
unfolding inside_step
step-head inner count b i = step-inside (head inner count) b i

pub in-0 : (b : ℕ) → Inner b → step_of (head 0 0) b ≡ to_if (eqb b 40) (head 1 0)
unfolding head_step flag_step
in-0 b i = step-head 0 0 b i

pub in-1 : (b : ℕ) → Inner b → step_of (head 1 0) b ≡ cond (eqb b 40) (head 2 0) (before_nuclide b)
unfolding head_step flag_step
in-1 b i = step-head 1 0 b i

pub in-2 : (count b : ℕ) → Inner b → step_of (head 2 count) b ≡ flag_digits count b
unfolding head_step flag_step
in-2 count b i = step-head 2 count b i

pub in-3 : (b : ℕ) → Inner b → step_of (head 3 0) b ≡ nowhere
unfolding head_step flag_step
in-3 b i = step-head 3 0 b i

pub in-4 : (b : ℕ) → Inner b → step_of (head 4 0) b ≡ before_nuclide b
unfolding head_step flag_step
in-4 b i = step-head 4 0 b i

-- digits of Z or A
abbrev pub Digital : ℕ → ℕ → Type 0
Digital inner next = (count b : ℕ) → Inner b → step_of (head inner count) b ≡ digits_step inner count b next

pub in-5 : Digital 5 6
unfolding head_step nuclide_step
in-5 count b i = step-head 5 count b i

pub in-6 : (count b : ℕ) → Inner b → step_of (head 6 count) b ≡ symbol_step count b
unfolding head_step nuclide_step
in-6 count b i = step-head 6 count b i

pub in-7 : Digital 7 8
unfolding head_step nuclide_step
in-7 count b i = step-head 7 count b i

pub in-8 : (b : ℕ) → Inner b → step_of (head 8 0) b ≡ cond (eqb b 77) (head 9 0) (to_if (eqb b 71) (head 10 0))
unfolding head_step nuclide_step
in-8 b i = step-head 8 0 b i

pub in-9 : (b : ℕ) → Inner b → step_of (head 9 0) b ≡ cond (eqb b 49) (head 10 0) (to_if (eqb b 50) (head 10 0))
unfolding head_step nuclide_step
in-9 b i = step-head 9 0 b i

pub in-10 : (b : ℕ) → Inner b → step_of (head 10 0) b ≡ nowhere
unfolding head_step nuclide_step
in-10 b i = step-head 10 0 b i

-- ---- digits

pub figure-inner : (b : ℕ) → Figure b → Inner b
figure-inner b f = (λ e. omega (arith, f.0), λ e. omega (arith, f.0))

is_digit_lem : (b : ℕ) → Figure b → is_digit b ≡ true
is_digit_lem b f = rw (le-leb 48 b f.0, le-leb b 57 f.1) refl

figure-of : (d : ℕ) → d < 10 → Figure (48 + d)
figure-of d h = (omega arith, omega arith)

pub next-zero : digits_next 0 48 ≡ 3
unfolding digits_next
next-zero = refl

pub next-first : (b : ℕ) → Figure b → (b ≡ 48 → ⊥) → digits_next 0 b ≡ 1
unfolding digits_next
next-first b f h = rw (is_digit_lem b f, ne_eqb b 48 h) refl

pub next_more : (count b : ℕ) → Figure b → 1 ≤ count → count < 3 → digits_next count b ≡ count + 1
unfolding digits_next
next_more count b f n h = rw (is_digit_lem b f, ne_eqb count 0 (λ z. omega arith), lt-ltb count 3 h) refl

pub next-full : (count b : ℕ) → Figure b → 3 ≤ count → digits_next count b ≡ 0
unfolding digits_next
next-full count b f h = rw (is_digit_lem b f, ne_eqb count 0 (λ z. omega arith), le-ltb count 3 h) refl

pub next-none : (count b : ℕ) → is_digit b ≡ false → digits_next count b ≡ 0
unfolding digits_next
next-none count b e = rw e refl

pub digit-step : (inner next count b k : ℕ) → digits_next count b ≡ k → 1 ≤ k → digits_step inner count b next ≡ head inner k
unfolding digits_step
digit-step inner next count b k e n = rw (e, ne_eqb k 0 (λ z. omega arith)) refl

pub stop_step : (inner next count b : ℕ) → digits_next count b ≡ 0 → 1 ≤ count
    → digits_step inner count b next ≡ to_if (eqb b 45) (head next 0)
unfolding digits_step
stop_step inner next count b e n = rw (e, ne_eqb count 0 (λ z. omega arith)) refl

pub none-step : (inner next b : ℕ) → digits_next 0 b ≡ 0 → digits_step inner 0 b next ≡ nowhere
unfolding digits_step
none-step inner next b e = rw e refl

pub before-digit : (b k : ℕ) → Figure b → digits_next 0 b ≡ k → 1 ≤ k → before_nuclide b ≡ head 5 k
unfolding before_nuclide
before-digit b k f e n = rw (ne_eqb b 32 (λ z. omega (arith, f.0)), e, ne_eqb k 0 (λ z. omega arith)) refl

pub before-blank : before_nuclide 32 ≡ head 4 0
unfolding before_nuclide
before-blank = refl

pub before-none : (b : ℕ) → (b ≡ 32 → ⊥) → is_digit b ≡ false → before_nuclide b ≡ nowhere
unfolding before_nuclide
before-none b h e = rw (ne_eqb b 32 h, next-none 0 b e) refl

module _ (inner next : ℕ) (d : Digital inner next) where
  digits-steps : (ds : List ℕ) (count : ℕ) (r : List ℕ) → Digits ds → 1 ≤ count → count + length ds ≤ 3
      → steps (head inner count) (digits_text ds ++ r) ≡ steps (head inner (count + length ds)) r
  unfolding steps
  digits-steps [] count r h n f = ap (λ (k : ℕ). steps (head inner k) r) (omega arith)
  digits-steps (x ∷ ds) count r h n f =
      let b = 48 + x in
      let g = figure-of x h.0 in
      ap (λ (s : Scan). steps s (digits_text ds ++ r))
      (d count b (figure-inner b g)
      ∙ digit-step inner next count b (count + 1) (next_more count b g n (omega arith)) (omega arith))
      ∙ digits-steps ds (count + 1) r h.1 (omega arith) (omega arith)
      ∙ ap (λ (k : ℕ). steps (head inner k) r) (omega arith)

  -- "up to 3 digits, no leading zeros"
  short-steps : (s : Scan) → ((b k : ℕ) → Figure b → digits_next 0 b ≡ k → 1 ≤ k → step_of s b ≡ head inner k)
      → (ds r : List ℕ) → Short ds → (k : ℕ) × ((1 ≤ k) × (steps s (digits_text ds ++ r) ≡ steps (head inner k) r))
  unfolding steps
  short-steps s f [] r h = absurd (omega (arith, h.some))
  short-steps s f (x ∷ ds) r h = by_zero (eqb x 0) refl
    where
      from : (k : ℕ) → digits_next 0 (48 + x) ≡ k → 1 ≤ k → k + length ds ≤ 3
          → (k : ℕ) × ((1 ≤ k) × (steps s (digits_text (x ∷ ds) ++ r) ≡ steps (head inner k) r))
      from k e n m = (
        k + length ds,
        (
          omega arith,
          ap (λ (t : Scan). steps t (digits_text ds ++ r)) (f (48 + x) k (figure-of x h.digits.0) e n)
              ∙ digits-steps ds k r h.digits.1 n m,
        ),
      )

      by_zero : (t : Bool) → eqb x 0 ≡ t
          → (k : ℕ) × ((1 ≤ k) × (steps s (digits_text (x ∷ ds) ++ r) ≡ steps (head inner k) r))
      by_zero true e =
          let z : x ≡ 0 = eqb-true x 0 e in
          from 3 (ap (λ (y : ℕ). digits_next 0 (48 + y)) z ∙ next-zero) (omega arith) (omega (arith, h.lead z))
      by_zero false e =
          let z = eqb-false x 0 e in
          from 1 (next-first (48 + x) (figure-of x h.digits.0) (λ y. z (omega arith))) (omega arith) (omega (arith, h.few))

-- ---- the nuclide

pub inner-45 : Inner 45
inner-45 = (λ e. omega arith, λ e. omega arith)

pub hyphen-5 : (k : ℕ) → 1 ≤ k → step_of (head 5 k) 45 ≡ head 6 0
hyphen-5 k h = in-5 k 45 inner-45 ∙ stop_step 5 6 k 45 (next-none k 45 refl) h

hyphen-7 : (k : ℕ) → 1 ≤ k → step_of (head 7 k) 45 ≡ head 8 0
hyphen-7 k h = in-7 k 45 inner-45 ∙ stop_step 7 8 k 45 (next-none k 45 refl) h

pub symbol-hyphen : (k : ℕ) → 1 ≤ k → symbol_step k 45 ≡ head 7 0
unfolding symbol_step
symbol-hyphen k h = rw (ne_eqb k 0 (λ z. omega arith)) refl

pub symbol-more : (count b : ℕ) → Capital b → count < 2 → symbol_step count b ≡ head 6 (count + 1)
unfolding symbol_step
symbol-more count b c h = rw (c, lt-ltb count 2 h) refl

symbol-steps : (u : List ℕ) (count : ℕ) (r : List ℕ) → All Capital u → count + length u ≤ 2
    → steps (head 6 count) (u ++ r) ≡ steps (head 6 (count + length u)) r
unfolding steps
symbol-steps [] count r h f = ap (λ (k : ℕ). steps (head 6 k) r) (omega arith)
symbol-steps (b ∷ u) count r h f =
    ap (λ (s : Scan). steps s (u ++ r))
    (in-6 count b (capital-inside b h.0).1 ∙ symbol-more count b h.0 (omega arith))
    ∙ symbol-steps u (count + 1) r h.1 (omega arith)
    ∙ ap (λ (k : ℕ). steps (head 6 k) r) (omega arith)

-- where the nuclide may end
record Behind (k : ℕ) (l r : List ℕ) : Type 0 where
  inner : ℕ
  count : ℕ
  whole : head_whole inner count ≡ true
  other : inner ≡ 3 → ⊥
  same : steps (head 7 k) (l ++ r) ≡ steps (head inner count) r

pub counted-whole : (k : ℕ) → 1 ≤ k → head_whole 7 k ≡ true
unfolding head_whole
counted-whole k h = lt-ltb 0 k h

pub nine-whole : head_whole 9 0 ≡ true
unfolding head_whole
nine-whole = refl

pub ten-whole : head_whole 10 0 ≡ true
unfolding head_whole
ten-whole = refl

pub inner-from : (b : ℕ) → 45 ≤ b → Inner b
inner-from b h = (λ e. omega arith, λ e. omega arith)

isomer-steps : (x : Isomer) (k : ℕ) (r : List ℕ) → 1 ≤ k → Behind k (isomer_text x) r
unfolding steps
isomer-steps unsaid k r h =
    record { inner = 7; count = k; whole = counted-whole k h; other = λ e. omega arith; same = refl }
isomer-steps ground_state k r h =
    record {
      inner = 10;
      count = 0;
      whole = ten-whole;
      other = λ e. omega arith;
      same = ap (λ (s : Scan). steps s (71 ∷ r)) (hyphen-7 k h)
          ∙ ap (λ (s : Scan). steps s r) (in-8 71 (inner-from 71 (omega arith)));
    }
isomer-steps metastable k r h =
    record {
      inner = 9;
      count = 0;
      whole = nine-whole;
      other = λ e. omega arith;
      same = ap (λ (s : Scan). steps s (77 ∷ r)) (hyphen-7 k h)
          ∙ ap (λ (s : Scan). steps s r) (in-8 77 (inner-from 77 (omega arith)));
    }
isomer-steps first k r h =
    record {
      inner = 10;
      count = 0;
      whole = ten-whole;
      other = λ e. omega arith;
      same = ap (λ (s : Scan). steps s (77 ∷ 49 ∷ r)) (hyphen-7 k h)
          ∙ ap (λ (s : Scan). steps s (49 ∷ r)) (in-8 77 (inner-from 77 (omega arith)))
          ∙ ap (λ (s : Scan). steps s r) (in-9 49 (inner-from 49 (omega arith)));
    }
isomer-steps second k r h =
    record {
      inner = 10;
      count = 0;
      whole = ten-whole;
      other = λ e. omega arith;
      same = ap (λ (s : Scan). steps s (77 ∷ 50 ∷ r)) (hyphen-7 k h)
          ∙ ap (λ (s : Scan). steps s (50 ∷ r)) (in-8 77 (inner-from 77 (omega arith)))
          ∙ ap (λ (s : Scan). steps s r) (in-9 50 (inner-from 50 (omega arith)));
    }

-- ---- what follows the nuclide

pub head-close : (q k : ℕ) → (q ≡ 3 → ⊥) → step_of (head q k) 41 ≡ to_if (head_whole q k) (fresh 5 false)
unfolding step_of close_step is_flag_point is_whole
head-close q k h = rw (ne_eqb q 3 h) refl

pub head-comma : (q k : ℕ) → step_of (head q k) 44 ≡ cond (head_whole q k) (fresh 1 false) nowhere
unfolding step_of comma_step is_whole next_place
head-comma q k = refl

tail-steps : (q k : ℕ) (ps : List Place) → head_whole q k ≡ true → (q ≡ 3 → ⊥) → GoodPlaces ps
    → steps (head q k) (rest ps) ≡ fresh 5 false
unfolding steps
tail-steps q k [] w h g = head-close q k h ∙ ap (λ (t : Bool). to_if t (fresh 5 false)) w
tail-steps q k (p ∷ ps) w h g =
    ap (steps (head q k)) (rest-cut p ps)
    ∙ ap (λ (s : Scan). steps s (blanks p.lead ++ (p.said ++ rest ps)))
    (head-comma q k ∙ ap (λ (t : Bool). cond t (fresh 1 false) nowhere) w)
    ∙ places-close p ps g

pub first-7 : (b k : ℕ) → Figure b → digits_next 0 b ≡ k → 1 ≤ k → step_of (head 7 0) b ≡ head 7 k
first-7 b k f e n = in-7 0 b (figure-inner b f) ∙ digit-step 7 8 0 b k e n

pub first-4 : (b k : ℕ) → Figure b → digits_next 0 b ≡ k → 1 ≤ k → step_of (head 4 0) b ≡ head 5 k
first-4 b k f e n = in-4 b (figure-inner b f) ∙ before-digit b k f e n

pub first-1 : (b k : ℕ) → Figure b → digits_next 0 b ≡ k → 1 ≤ k → step_of (head 1 0) b ≡ head 5 k
first-1 b k f e n =
    in-1 b (figure-inner b f) ∙ rw (ne_eqb b 40 (λ z. omega (arith, f.0))) (before-digit b k f e n)

nuclide-steps : (s : Scan) → ((b k : ℕ) → Figure b → digits_next 0 b ≡ k → 1 ≤ k → step_of s b ≡ head 5 k)
    → (n : Nuclide) (ps : List Place) → GoodNuclide n → GoodPlaces ps → steps s (nuclide_then n (rest ps)) ≡ fresh 5 false
unfolding steps
nuclide-steps s f n ps g h =
    let x = digits_text n.a ++ (isomer_text n.isomer ++ rest ps) in
    let (k, (i, e)) = short-steps 5 6 in-5 s f n.z (45 ∷ (n.symbol ++ (45 ∷ x))) g.z in
    let (j, (o, d)) = short-steps 7 8 in-7 (head 7 0) first-7 n.a (isomer_text n.isomer ++ rest ps) g.a in
    let b = isomer-steps n.isomer j (rest ps) o in
    e ∙ ap (λ (t : Scan). steps t (n.symbol ++ (45 ∷ x))) (hyphen-5 k i)
    ∙ symbol-steps n.symbol 0 (45 ∷ x) g.symbol (omega (arith, g.two))
    ∙ ap (λ (t : Scan). steps t x)
    (in-6 (0 + length n.symbol) 45 inner-45 ∙ symbol-hyphen (0 + length n.symbol) (omega (arith, g.one)))
    ∙ d
    ∙ b.same
    ∙ tail-steps b.inner b.count ps b.whole b.other h

-- ---- before it

pub blank-4 : step_of (head 4 0) 32 ≡ head 4 0
blank-4 = in-4 32 (λ e. omega arith, λ e. omega arith) ∙ before-blank

pub blank-1 : step_of (head 1 0) 32 ≡ head 4 0
blank-1 = in-1 32 (λ e. omega arith, λ e. omega arith) ∙ before-blank

lead-steps : (k : ℕ) (l : List ℕ) → steps (head 4 0) (blanks k ++ l) ≡ steps (head 4 0) l
unfolding steps
lead-steps zero l = refl
lead-steps (suc k) l = ap (λ (s : Scan). steps s (blanks k ++ l)) blank-4 ∙ lead-steps k l

core-4 : (c : Code) → Good c → steps (head 4 0) (core c) ≡ fresh 5 false
unfolding core
core-4 c g =
    lead-steps c.lead (nuclide_then c.nuclide (rest c.places))
    ∙ nuclide-steps (head 4 0) first-4 c.nuclide c.places g.nuclide g.places

lead-1 : (k : ℕ) (n : Nuclide) (ps : List Place) → GoodNuclide n → GoodPlaces ps
    → steps (head 1 0) (blanks k ++ nuclide_then n (rest ps)) ≡ fresh 5 false
unfolding steps
lead-1 zero n ps g h = nuclide-steps (head 1 0) first-1 n ps g h
lead-1 (suc k) n ps g h =
    ap (λ (s : Scan). steps s (blanks k ++ nuclide_then n (rest ps))) blank-1
    ∙ lead-steps k (nuclide_then n (rest ps)) ∙ nuclide-steps (head 4 0) first-4 n ps g h

core-1 : (c : Code) → Good c → steps (head 1 0) (core c) ≡ fresh 5 false
unfolding core
core-1 c g = lead-1 c.lead c.nuclide c.places g.nuclide g.places

-- ---- the flag

pub flag-more : (count b : ℕ) → Figure b → count < 10 → flag_digits count b ≡ head 2 (count + 1)
unfolding flag_digits
flag-more count b f h = rw (is_digit_lem b f, lt-ltb count 10 h) refl

pub flag-point : (k : ℕ) → 1 ≤ k → flag_digits k 46 ≡ head 3 0
unfolding flag_digits
flag-point k h = rw (ne_eqb k 0 (λ z. omega arith)) refl

pub point-close : step_of (head 3 0) 41 ≡ head 4 0
unfolding step_of close_step is_flag_point
point-close = refl

flag-steps : (ds : List ℕ) (count : ℕ) (r : List ℕ) → Digits ds → count + length ds ≤ 10
    → steps (head 2 count) (digits_text ds ++ r) ≡ steps (head 2 (count + length ds)) r
unfolding steps
flag-steps [] count r h f = ap (λ (k : ℕ). steps (head 2 k) r) (omega arith)
flag-steps (x ∷ ds) count r h f =
    let b = 48 + x in
    let g = figure-of x h.0 in
    ap (λ (s : Scan). steps s (digits_text ds ++ r)) (in-2 count b (figure-inner b g) ∙ flag-more count b g (omega arith))
    ∙ flag-steps ds (count + 1) r h.1 (omega arith)
    ∙ ap (λ (k : ℕ). steps (head 2 k) r) (omega arith)

flag-then : (f r : List ℕ) → Digits f → length f ≤ 10 → steps (head 1 0) r ≡ fresh 5 false → steps (head 4 0) r ≡ fresh 5 false
    → steps (head 1 0) (flag_then f r) ≡ fresh 5 false
unfolding steps flag_then
flag-then [] r h n a b = a
flag-then (x ∷ ds) r h n a b =
    ap (λ (s : Scan). steps s (digits_text (x ∷ ds) ++ (46 ∷ 41 ∷ r))) (in-1 40 (λ e. omega arith, λ e. omega arith))
    ∙ flag-steps (x ∷ ds) 0 (46 ∷ 41 ∷ r) h (omega arith)
    ∙ ap (λ (s : Scan). steps s (41 ∷ r))
    (in-2 (0 + length (x ∷ ds)) 46 (inner-from 46 (omega arith)) ∙ flag-point (0 + length (x ∷ ds)) (omega arith))
    ∙ ap (λ (s : Scan). steps s r) point-close
    ∙ b

pub code-close : (c : Code) → Good c → steps (fresh 0 false) (write c) ≡ fresh 5 false
unfolding steps
code-close c g =
    ap (steps (fresh 0 false)) (write-cut c)
    ∙ ap (λ (s : Scan). steps s (flag_then c.flag (core c))) (in-0 40 (λ e. omega arith, λ e. omega arith))
    ∙ flag-then c.flag (core c) g.flag g.flag_few (core-1 c g) (core-4 c g)
