-- The places behind the nuclide: the scan closes them exactly where they are good.
-- Assumes nothing.
use mathlib.Core.Path.{◌≡◌, refl, sym, ap, ◌∙◌, subst}
use mathlib.Core.Bool.{Bool, true, false, cond}
use mathlib.Core.List.{List, [], ◌∷◌, ◌++◌, append_assoc}
use mathlib.Core.Logic.{inl, inr, ◌↔◌}
use Prim.Native.Nat.{ℕ, zero, suc, ◌+◌, ◌≤◌}
use native.Mathlib.Omega.{arith}
use borrow.Author.Tests.{eqb-true, eqb-false}
use lib.Dec.{eqb}
use lib.ListN.{length, length-append}
use Rattle.laws.specs.Walk.{All}
use Rattle.laws.proofs.Booleans.{differ}
use Rattle.paper_number.specs.Grammar.{blanks}
use Rattle.paper_decay.specs.declared.types.Scan.{Scan}
use Rattle.paper_decay.specs.Scan.{fresh, nowhere, to_if, number_whole, inside_step, is_empty, is_whole, is_flag_point, close_step}
use Rattle.paper_decay.specs.Scan.{next_place, comma_step, step_of}
use Rattle.paper_decay.specs.Code.{Sort, half_life, types, energies, abundance, after, Place, Fits, EmptyOr}
use Rattle.paper_decay.specs.Code.{Fitting, EndsFilled, GroupsFilled, GoodPlaces}
use Rattle.paper_decay.proofs.Cuts.{Stops, Blank, no-first, all_map}
use Rattle.paper_decay.proofs.Inside.{Inside, fits-inside}
use Rattle.paper_decay.proofs.Once.{rest, rest-cut}
use Rattle.paper_decay.proofs.Run.{fits-some}
use Rattle.paper_decay.proofs.Steps.{steps, steps-append, nowhere-steps, Inner, Field, Kept, first-kept, steps-kept}
use Rattle.paper_decay.proofs.Steps.{fresh-blank, kept-comma, kept-close}
use Rattle.paper_decay.proofs.Filling.{types-exactly, energies-exactly, abundance-exactly}
use Rattle.paper_decay.proofs.HalfLives.{half-exactly}
use Rattle.paper_decay.proofs.Slashes.{all_right}

-- ---- the scan's places

abbrev place_of : Sort → ℕ
place_of half_life = 1
place_of types = 2
place_of energies = 3
place_of abundance = 4

field-of : (s : Sort) → Field (place_of s)
field-of half_life = (omega arith, omega arith)
field-of types = (omega arith, omega arith)
field-of energies = (omega arith, omega arith)
field-of abundance = (omega arith, omega arith)

-- the group has something behind a place
abbrev filled_by : List ℕ → Bool → Bool
filled_by [] some = some
filled_by (b ∷ l) some = true

-- what of it is handed on
abbrev carry : Sort → Bool → Bool
carry half_life t = false
carry types t = t
carry energies t = t
carry abundance t = false

-- what has to be where a group ends
abbrev Enough : Sort → Bool → Type 0
Enough half_life t = Unit {0}
Enough types t = Unit {0}
Enough energies t = Unit {0}
Enough abundance t = t ≡ true

-- before the half-life there is no group
abbrev Fine : Sort → Bool → Type 0
Fine half_life t = t ≡ false
Fine types t = Unit {0}
Fine energies t = Unit {0}
Fine abundance t = Unit {0}

carry-fine : (s : Sort) (t : Bool) → Fine (after s) (carry s t)
carry-fine half_life t = tt
carry-fine types t = tt
carry-fine energies t = tt
carry-fine abundance t = tt

next-enough : (s : Sort) (t : Bool) → Enough s t → next_place (place_of s) t ≡ fresh (place_of (after s)) (carry s t)
unfolding next_place
next-enough half_life t h = refl
next-enough types t h = refl
next-enough energies t h = refl
next-enough abundance t h = rw h refl

next-none : next_place 4 false ≡ nowhere
unfolding next_place
next-none = refl

field-exactly : (s : Sort) (some : Bool) (l : List ℕ) → Fine s some → All Inner l → Stops Blank l
    → (is_whole (steps (fresh (place_of s) some) l) ≡ true) ↔ Fits s l
field-exactly half_life some l f i st = rw f (half-exactly l i st)
field-exactly types some l f i st = types-exactly l some i st
field-exactly energies some l f i st = energies-exactly l some i st
field-exactly abundance some l f i st = abundance-exactly l some i st

-- ---- the end of a place

step-comma : (s : Scan) → step_of s 44 ≡ comma_step s
unfolding step_of
step-comma s = refl

step-close : (s : Scan) → step_of s 41 ≡ close_step s
unfolding step_of
step-close s = refl

fresh-comma : (s : Sort) (some : Bool) → comma_step (fresh (place_of s) some) ≡ next_place (place_of s) some
unfolding comma_step is_whole is_empty number_whole
fresh-comma half_life some = refl
fresh-comma types some = refl
fresh-comma energies some = refl
fresh-comma abundance some = refl

fresh-close : (s : Sort) (some : Bool) → close_step (fresh (place_of s) some) ≡ nowhere
unfolding close_step is_whole is_flag_point number_whole
fresh-close half_life some = refl
fresh-close types some = refl
fresh-close energies some = refl
fresh-close abundance some = refl

blanks-steps : (k p : ℕ) (some : Bool) (l : List ℕ) → Field p → steps (fresh p some) (blanks k ++ l) ≡ steps (fresh p some) l
unfolding steps
blanks-steps zero p some l f = refl
blanks-steps (suc k) p some l f =
    ap (λ (s : Scan). steps s (blanks k ++ l)) (fresh-blank p some f) ∙ blanks-steps k p some l f

said-kept : (b : ℕ) (l : List ℕ) (p : ℕ) (some : Bool) → Field p → All Inner (b ∷ l) → Stops Blank (b ∷ l)
    → Kept p (steps (fresh p some) (b ∷ l))
unfolding steps
said-kept b l p some f i st =
    steps-kept l (step_of (fresh p some) b) p f (first-kept (fresh p some) b p f refl i.0 st) i.1

comma-none : (s : Sort) (some : Bool) (r : List ℕ) → steps (fresh (place_of s) some) (44 ∷ r) ≡ steps (next_place (place_of s) some) r
unfolding steps
comma-none s some r = ap (λ (x : Scan). steps x r) (step-comma (fresh (place_of s) some) ∙ fresh-comma s some)

close-none : (s : Sort) (some : Bool) (r : List ℕ) → steps (fresh (place_of s) some) (41 ∷ r) ≡ nowhere
unfolding steps
close-none s some r =
    ap (λ (x : Scan). steps x r) (step-close (fresh (place_of s) some) ∙ fresh-close s some) ∙ nowhere-steps r

comma-some : (s : Sort) (some : Bool) (b : ℕ) (l r : List ℕ) → All Inner (b ∷ l) → Stops Blank (b ∷ l)
    → steps (fresh (place_of s) some) ((b ∷ l) ++ (44 ∷ r))
    ≡ steps (cond (is_whole (steps (fresh (place_of s) some) (b ∷ l))) (next_place (place_of s) true) nowhere) r
unfolding steps
comma-some s some b l r i st =
    let x = steps (fresh (place_of s) some) (b ∷ l) in
    steps-append (b ∷ l) (44 ∷ r) (fresh (place_of s) some)
    ∙ ap (λ (y : Scan). steps y r)
    (step-comma x ∙ kept-comma x (place_of s) (field-of s) (said-kept b l (place_of s) some (field-of s) i st))

close-some : (s : Sort) (some : Bool) (b : ℕ) (l r : List ℕ) → All Inner (b ∷ l) → Stops Blank (b ∷ l)
    → steps (fresh (place_of s) some) ((b ∷ l) ++ (41 ∷ r))
    ≡ steps (to_if (is_whole (steps (fresh (place_of s) some) (b ∷ l))) (fresh 5 false)) r
unfolding steps
close-some s some b l r i st =
    let x = steps (fresh (place_of s) some) (b ∷ l) in
    steps-append (b ∷ l) (41 ∷ r) (fresh (place_of s) some)
    ∙ ap (λ (y : Scan). steps y r)
    (step-close x ∙ kept-close x (place_of s) (field-of s) (said-kept b l (place_of s) some (field-of s) i st))

-- ---- a filled place

fits-inner : (s : Sort) (l : List ℕ) → Fits s l → All Inner l
fits-inner s l f = all_map Inside Inner l (λ b k. k.1) (fits-inside s l f)

fits-stops : (s : Sort) (l : List ℕ) → Fits s l → Stops Blank l
fits-stops s [] f = tt
fits-stops s (b ∷ l) f = (fits-inside s (b ∷ l) f).0.0

fits-filled : {X : Type 0} (s : Sort) → Fits s [] → X
fits-filled s f = let k = fits-some s [] f in absurd (omega arith)

close-fits : (s : Sort) (some : Bool) (l : List ℕ) → Fine s some → Fits s l
    → steps (fresh (place_of s) some) (l ++ (41 ∷ [])) ≡ fresh 5 false
unfolding steps
close-fits s some [] g f = fits-filled s f
close-fits s some (b ∷ l) g f =
    let i = fits-inner s (b ∷ l) f in
    let st = fits-stops s (b ∷ l) f in
    close-some s some b l [] i st
    ∙ ap (λ (t : Bool). to_if t (fresh 5 false)) ((field-exactly s some (b ∷ l) g i st).1 f)

comma-fits : (s : Sort) (some : Bool) (l r : List ℕ) → Fine s some → EmptyOr (Fits s) l
    → steps (fresh (place_of s) some) (l ++ (44 ∷ r)) ≡ steps (next_place (place_of s) (filled_by l some)) r
comma-fits s some [] r g h = comma-none s some r
comma-fits s some (b ∷ l) r g (inl e) = no-first b l (sym e)
comma-fits s some (b ∷ l) r g (inr f) =
    let i = fits-inner s (b ∷ l) f in
    let st = fits-stops s (b ∷ l) f in
    comma-some s some b l r i st
    ∙ ap (λ (t : Bool). steps (cond t (next_place (place_of s) true) nowhere) r) ((field-exactly s some (b ∷ l) g i st).1 f)

-- ---- good places, as the scan goes over them

abbrev Runs : Sort → Bool → List Place → Type 0
Runs s some [] = ⊥
Runs s some (p ∷ []) = Fits s p.said
Runs s some (p ∷ q ∷ ps) =
    EmptyOr (Fits s) p.said
    × (Enough s (filled_by p.said some) × Runs (after s) (carry s (filled_by p.said some)) (q ∷ ps))

-- their text without the first comma
abbrev opened : List Place → List ℕ
opened [] = []
opened (p ∷ ps) = blanks p.lead ++ (p.said ++ rest ps)

rest-opened : (p : Place) (ps : List Place) → rest (p ∷ ps) ≡ 44 ∷ opened (p ∷ ps)
rest-opened p ps = rest-cut p ps

runs_close : (ps : List Place) (s : Sort) (some : Bool) → Fine s some → Runs s some ps
    → steps (fresh (place_of s) some) (opened ps) ≡ fresh 5 false
runs_close [] s some g h = absurd h
runs_close (p ∷ []) s some g h =
    blanks-steps p.lead (place_of s) some (p.said ++ (41 ∷ [])) (field-of s) ∙ close-fits s some p.said g h
runs_close (p ∷ q ∷ ps) s some g h =
    let t = filled_by p.said some in
    blanks-steps p.lead (place_of s) some (p.said ++ rest (q ∷ ps)) (field-of s)
    ∙ ap (λ (m : List ℕ). steps (fresh (place_of s) some) (p.said ++ m)) (rest-opened q ps)
    ∙ comma-fits s some p.said (opened (q ∷ ps)) g h.0
    ∙ ap (λ (x : Scan). steps x (opened (q ∷ ps))) (next-enough s t h.1.0)
    ∙ runs_close (q ∷ ps) (after s) (carry s t) (carry-fine s t) h.1.1

-- ---- and back

-- a text up to its first comma or closing parenthesis
data Cut (m : List ℕ) : Type 0 where
  runs-out : All Inner m → Cut m
  at-close : (w r : List ℕ) → All Inner w → w ++ (41 ∷ r) ≡ m → Cut m
  at-comma : (w r : List ℕ) → All Inner w → w ++ (44 ∷ r) ≡ m → Cut m

cut : (m : List ℕ) → Cut m
cut [] = runs-out tt
cut (b ∷ m) = by_tests (cut m) (eqb b 41) refl (eqb b 44) refl
  where
    by_tests : Cut m → (p : Bool) → eqb b 41 ≡ p → (q : Bool) → eqb b 44 ≡ q → Cut (b ∷ m)
    by_tests c true e q f =
        let z : 41 ≡ b = sym (eqb-true b 41 e) in
        at-close [] m tt (ap (λ (x : ℕ). x ∷ m) z)
    by_tests c false e true f =
        let z : 44 ≡ b = sym (eqb-true b 44 f) in
        at-comma [] m tt (ap (λ (x : ℕ). x ∷ m) z)
    by_tests (runs-out h) false e false f = runs-out ((eqb-false b 41 e, eqb-false b 44 f), h)
    by_tests (at-close w r h q) false e false f =
        at-close (b ∷ w) r ((eqb-false b 41 e, eqb-false b 44 f), h) (ap (λ (l : List ℕ). b ∷ l) q)
    by_tests (at-comma w r h q) false e false f =
        at-comma (b ∷ w) r ((eqb-false b 41 e, eqb-false b 44 f), h) (ap (λ (l : List ℕ). b ∷ l) q)

-- the blanks at its beginning
record Spaced (w : List ℕ) : Type 0 where
  lead : ℕ
  said : List ℕ
  same : blanks lead ++ said ≡ w
  stops : Stops Blank said

spaced : (w : List ℕ) → Spaced w
spaced [] = record { lead = 0; said = []; same = refl; stops = tt }
spaced (b ∷ w) = by_blank (spaced w) (eqb b 32) refl
  where
    by_blank : Spaced w → (p : Bool) → eqb b 32 ≡ p → Spaced (b ∷ w)
    by_blank r true e =
        let z : 32 ≡ b = sym (eqb-true b 32 e) in
        record { lead = suc r.lead; said = r.said; same = λ i. z i ∷ r.same i; stops = r.stops }
    by_blank r false e = record { lead = 0; said = b ∷ w; same = refl; stops = eqb-false b 32 e }

pub closed-stays : (b : ℕ) → step_of (fresh 5 false) b ≡ nowhere
unfolding step_of comma_step close_step inside_step is_whole is_empty is_flag_point next_place number_whole
closed-stays b = by_tests (eqb b 44) (eqb b 41)
  where
    by_tests : (p q : Bool) → cond p nowhere (cond q nowhere nowhere) ≡ nowhere
    by_tests true q = refl
    by_tests false true = refl
    by_tests false false = refl

-- nowhere is not closed
pub not-closed : {X : Type 0} (s : Scan) → s ≡ nowhere → s.place ≡ 5 → X
not-closed s e h = let z : ◌≡◌ {A = ℕ} 6 5 = sym (ap (λ (x : Scan). x.place) e) ∙ h in absurd (omega arith)

pub closed-end : (r : List ℕ) → (steps (fresh 5 false) r).place ≡ 5 → r ≡ []
unfolding steps
closed-end [] h = refl
closed-end (b ∷ r) h =
    not-closed (steps (step_of (fresh 5 false) b) r) (ap (λ (x : Scan). steps x r) (closed-stays b) ∙ nowhere-steps r) h

-- inside a field no code is closed
kept-open : {X : Type 0} (s : Scan) (p : ℕ) → Field p → Kept p s → s.place ≡ 5 → X
kept-open s p f (inl e) h = not-closed s e h
kept-open s p f (inr (e, k)) h = absurd (omega (arith, f.1))

said-open : {X : Type 0} (l : List ℕ) (p : ℕ) (some : Bool) → Field p → All Inner l → Stops Blank l
    → (steps (fresh p some) l).place ≡ 5 → X
unfolding steps
said-open [] p some f i st h = absurd (omega (arith, f.1))
said-open (b ∷ l) p some f i st h =
    kept-open (steps (fresh p some) (b ∷ l)) p f (said-kept b l p some f i st) h

record Found (s : Sort) (some : Bool) (m : List ℕ) : Type 0 where
  places : List Place
  runs : Runs s some places
  same : opened places ≡ m

-- one place, closed
closed-found : (s : Sort) (some : Bool) (k : ℕ) (l r : List ℕ) → Fine s some → All Inner l → Stops Blank l
    → (steps (fresh (place_of s) some) (l ++ (41 ∷ r))).place ≡ 5 → Found s some (blanks k ++ (l ++ (41 ∷ r)))
closed-found s some k [] r g i st h = not-closed (steps (fresh (place_of s) some) (41 ∷ r)) (close-none s some r) h
closed-found s some k (b ∷ l) r g i st h =
    by_whole (is_whole (steps (fresh (place_of s) some) (b ∷ l))) refl
    (ap (λ (x : Scan). x.place) (sym (close-some s some b l r i st)) ∙ h)
  where
    by_whole : (t : Bool) → is_whole (steps (fresh (place_of s) some) (b ∷ l)) ≡ t
        → (steps (to_if t (fresh 5 false)) r).place ≡ 5 → Found s some (blanks k ++ ((b ∷ l) ++ (41 ∷ r)))
    by_whole false e f = not-closed (steps nowhere r) (nowhere-steps r) f
    by_whole true e f =
        let z = closed-end r f in
        record {
          places = record { lead = k; said = b ∷ l } ∷ [];
          runs = (field-exactly s some (b ∷ l) g i st).0 e;
          same = ap (λ (x : List ℕ). blanks k ++ ((b ∷ l) ++ (41 ∷ x))) (sym z);
        }

-- one place, and a comma behind it
record Comma (s : Sort) (some : Bool) (l r : List ℕ) : Type 0 where
  fits : EmptyOr (Fits s) l
  enough : Enough s (filled_by l some)
  goes : (steps (fresh (place_of (after s)) (carry s (filled_by l some))) r).place ≡ 5

comma-enough : (s : Sort) (t : Bool) (r : List ℕ) → (steps (next_place (place_of s) t) r).place ≡ 5 → Enough s t
comma-enough half_life t r h = tt
comma-enough types t r h = tt
comma-enough energies t r h = tt
comma-enough abundance true r h = refl
comma-enough abundance false r h =
    not-closed (steps (next_place 4 false) r) (ap (λ (x : Scan). steps x r) next-none ∙ nowhere-steps r) h

comma-goes : (s : Sort) (some : Bool) (l r : List ℕ) → EmptyOr (Fits s) l
    → (steps (next_place (place_of s) (filled_by l some)) r).place ≡ 5 → Comma s some l r
comma-goes s some l r f h =
    let e = comma-enough s (filled_by l some) r h in
    record {
      fits = f;
      enough = e;
      goes = ap (λ (x : Scan). (steps x r).place) (sym (next-enough s (filled_by l some) e)) ∙ h;
    }

comma-found : (s : Sort) (some : Bool) (l r : List ℕ) → Fine s some → All Inner l → Stops Blank l
    → (steps (fresh (place_of s) some) (l ++ (44 ∷ r))).place ≡ 5 → Comma s some l r
comma-found s some [] r g i st h =
    comma-goes s some [] r (inl refl) (ap (λ (x : Scan). x.place) (sym (comma-none s some r)) ∙ h)
comma-found s some (b ∷ l) r g i st h =
    by_whole (is_whole (steps (fresh (place_of s) some) (b ∷ l))) refl
    (ap (λ (x : Scan). x.place) (sym (comma-some s some b l r i st)) ∙ h)
  where
    by_whole : (t : Bool) → is_whole (steps (fresh (place_of s) some) (b ∷ l)) ≡ t
        → (steps (cond t (next_place (place_of s) true) nowhere) r).place ≡ 5 → Comma s some (b ∷ l) r
    by_whole false e f = not-closed (steps nowhere r) (nowhere-steps r) f
    by_whole true e f = comma-goes s some (b ∷ l) r (inr ((field-exactly s some (b ∷ l) g i st).0 e)) f

-- a place before those that were found
put-before : (s : Sort) (some : Bool) (k : ℕ) (l r : List ℕ) → Comma s some l r
    → (ps : List Place) → Runs (after s) (carry s (filled_by l some)) ps → opened ps ≡ r
    → Found s some (blanks k ++ (l ++ (44 ∷ r)))
put-before s some k l r c [] h e = absurd h
put-before s some k l r c (q ∷ ps) h e =
    record {
      places = record { lead = k; said = l } ∷ q ∷ ps;
      runs = (c.fits, (c.enough, h));
      same = ap (λ (x : List ℕ). blanks k ++ (l ++ x)) (rest-opened q ps ∙ ap (λ (x : List ℕ). 44 ∷ x) e);
    }

blanks-cut : (k : ℕ) (l x w m : List ℕ) → blanks k ++ l ≡ w → w ++ x ≡ m → blanks k ++ (l ++ x) ≡ m
blanks-cut k l x w m e f = sym (append_assoc (blanks k) l x) ∙ ap (λ (y : List ℕ). y ++ x) e ∙ f

shorter : (w r m : List ℕ) (n : ℕ) → w ++ (44 ∷ r) ≡ m → length m ≤ suc n → length r ≤ n
shorter w r m n e le =
    let a = length-append w (44 ∷ r) in
    let b : length (w ++ (44 ∷ r)) ≡ length m = ap length e in
    omega arith

cut-found : (n : ℕ) (m : List ℕ) (s : Sort) (some : Bool) → length m ≤ suc n → Fine s some
    → (steps (fresh (place_of s) some) m).place ≡ 5
    → ((r : List ℕ) (t : Bool) → length r ≤ n → Fine (after s) t → (steps (fresh (place_of (after s)) t) r).place ≡ 5
    → Found (after s) t r)
    → Cut m → Found s some m
cut-found n m s some le g h ih (runs-out i) =
    let w = spaced m in
    let q = blanks-steps w.lead (place_of s) some w.said (field-of s) in
    let j = all_right Inner (blanks w.lead) w.said (subst (All Inner) (sym w.same) i) in
    said-open w.said (place_of s) some (field-of s) j w.stops
    (ap (λ (x : Scan). x.place) (sym q ∙ ap (steps (fresh (place_of s) some)) w.same) ∙ h)
cut-found n m s some le g h ih (at-close w r i e) =
    let x = spaced w in
    let f : blanks x.lead ++ (x.said ++ (41 ∷ r)) ≡ m = blanks-cut x.lead x.said (41 ∷ r) w m x.same e in
    let j = all_right Inner (blanks x.lead) x.said (subst (All Inner) (sym x.same) i) in
    let q = blanks-steps x.lead (place_of s) some (x.said ++ (41 ∷ r)) (field-of s) in
    subst (Found s some) f
    (closed-found s some x.lead x.said r g j x.stops
    (ap (λ (y : Scan). y.place) (sym q ∙ ap (steps (fresh (place_of s) some)) f) ∙ h))
cut-found n m s some le g h ih (at-comma w r i e) =
    let x = spaced w in
    let f : blanks x.lead ++ (x.said ++ (44 ∷ r)) ≡ m = blanks-cut x.lead x.said (44 ∷ r) w m x.same e in
    let j = all_right Inner (blanks x.lead) x.said (subst (All Inner) (sym x.same) i) in
    let q = blanks-steps x.lead (place_of s) some (x.said ++ (44 ∷ r)) (field-of s) in
    let c = comma-found s some x.said r g j x.stops
    (ap (λ (y : Scan). y.place) (sym q ∙ ap (steps (fresh (place_of s) some)) f) ∙ h) in
    let t = carry s (filled_by x.said some) in
    let d = ih r t (shorter w r m n e le) (carry-fine s (filled_by x.said some)) c.goes in
    subst (Found s some) f (put-before s some x.lead x.said r c d.places d.runs d.same)

runs-sound : (n : ℕ) (m : List ℕ) (s : Sort) (some : Bool) → length m ≤ n → Fine s some
    → (steps (fresh (place_of s) some) m).place ≡ 5 → Found s some m
runs-sound zero [] s some n g h = said-open [] (place_of s) some (field-of s) tt tt h
runs-sound zero (b ∷ m) s some n g h = absurd (omega arith)
runs-sound (suc n) m s some le g h = cut-found n m s some le g h (λ r t k f e. runs-sound n r (after s) t k f e) (cut m)

-- ---- the same as the definition says it

-- the groups' places
record Groups (ps : List Place) : Type 0 where
  fitting : Fitting types ps
  last : EndsFilled ps
  groups : GroupsFilled ps

fits_not : (s : Sort) (l : List ℕ) → Fits s l → l ≡ [] → ⊥
fits_not s l f e = fits-filled s (subst (Fits s) e f)

-- of three empty places none fills the group
none_filled : (t e a : List ℕ) → t ≡ [] → e ≡ [] → a ≡ [] → filled_by a (filled_by e (filled_by t false)) ≡ true → ⊥
none_filled t e a x y z h =
    let k : filled_by [] (filled_by [] (filled_by [] false)) ≡ true =
    sym (λ i. filled_by (z i) (filled_by (y i) (filled_by (x i) false))) ∙ h in
    differ (sym k)

some-filled : (t e a : List ℕ) → ((t ≡ []) × ((e ≡ []) × (a ≡ [])) → ⊥) → filled_by a (filled_by e (filled_by t false)) ≡ true
some-filled [] [] [] h = absurd (h (refl, (refl, refl)))
some-filled (b ∷ t) [] [] h = refl
some-filled t (b ∷ e) [] h = refl
some-filled t e (b ∷ a) h = refl

runs-groups : (ps : List Place) → Runs types false ps → Groups ps
runs-groups [] h = absurd h
runs-groups (t ∷ []) h = record { fitting = (inr h, tt); last = fits_not types t.said h; groups = tt }
runs-groups (t ∷ e ∷ []) h =
    record { fitting = (h.0, (inr h.1.1, tt)); last = fits_not energies e.said h.1.1; groups = tt }
runs-groups (t ∷ e ∷ a ∷ []) h =
    let f = h.1.1.1.1 in
    record {
      fitting = (h.0, (h.1.1.0, (inr f, tt)));
      last = fits_not abundance a.said f;
      groups = (λ z. fits_not abundance a.said f z.1.1, tt);
    }
runs-groups (t ∷ e ∷ a ∷ q ∷ ps) h =
    let k = h.1.1.1.1 in
    let r = runs-groups (q ∷ ps) k.1.1 in
    record {
      fitting = (h.0, (h.1.1.0, (k.0, r.fitting)));
      last = r.last;
      groups = (λ z. none_filled t.said e.said a.said z.0 z.1.0 z.1.1 k.1.0, r.groups);
    }

filled-fits : (s : Sort) (l : List ℕ) → EmptyOr (Fits s) l → (l ≡ [] → ⊥) → Fits s l
filled-fits s l (inl e) h = absurd (h e)
filled-fits s l (inr f) h = f

groups-runs : (p : Place) (ps : List Place) → Groups (p ∷ ps) → Runs types false (p ∷ ps)
groups-runs t [] g = filled-fits types t.said g.fitting.0 g.last
groups-runs t (e ∷ []) g = (g.fitting.0, (tt, filled-fits energies e.said g.fitting.1.0 g.last))
groups-runs t (e ∷ a ∷ []) g =
    (g.fitting.0, (tt, (g.fitting.1.0, (tt, filled-fits abundance a.said g.fitting.1.1.0 g.last))))
groups-runs t (e ∷ a ∷ q ∷ ps) g =
    let r = groups-runs q ps (record { fitting = g.fitting.1.1.1; last = g.last; groups = g.groups.1 }) in
    let n = some-filled t.said e.said a.said g.groups.0 in
    (g.fitting.0, (tt, (g.fitting.1.0, (tt, (g.fitting.1.1.0, (n, r))))))

runs-good : (ps : List Place) → Runs half_life false ps → GoodPlaces ps
runs-good [] h = absurd h
runs-good (p ∷ []) h = record { fitting = (inr h, tt); last = fits_not half_life p.said h; groups = tt }
runs-good (p ∷ q ∷ ps) h =
    let r = runs-groups (q ∷ ps) h.1.1 in
    record { fitting = (h.0, r.fitting); last = r.last; groups = r.groups }

good-runs : (p : Place) (ps : List Place) → GoodPlaces (p ∷ ps) → Runs half_life false (p ∷ ps)
good-runs p [] g = filled-fits half_life p.said g.fitting.0 g.last
good-runs p (q ∷ ps) g =
    (g.fitting.0, (tt, groups-runs q ps (record { fitting = g.fitting.1; last = g.last; groups = g.groups })))

-- ---- behind the nuclide

pub places-close : (p : Place) (ps : List Place) → GoodPlaces (p ∷ ps)
    → steps (fresh 1 false) (blanks p.lead ++ (p.said ++ rest ps)) ≡ fresh 5 false
places-close p ps g = runs_close (p ∷ ps) half_life false refl (good-runs p ps g)

-- what stands behind the nuclide is places and a closing parenthesis
pub record Tail (m : List ℕ) : Type 0 where
  pub places : List Place
  pub good : GoodPlaces places
  pub same : rest places ≡ m

pub places-sound : (m : List ℕ) → (steps (fresh 1 false) m).place ≡ 5 → Tail (44 ∷ m)
places-sound m h =
    let d = runs-sound (length m) m half_life false (omega arith) refl h in
    by-places d.places d.runs d.same
  where
    by-places : (ps : List Place) → Runs half_life false ps → opened ps ≡ m → Tail (44 ∷ m)
    by-places [] r e = absurd r
    by-places (p ∷ ps) r e =
        record {
          places = p ∷ ps;
          good = runs-good (p ∷ ps) r;
          same = rest-opened p ps ∙ ap (λ (x : List ℕ). 44 ∷ x) e;
        }
