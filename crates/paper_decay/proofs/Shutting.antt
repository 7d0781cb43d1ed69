-- Only a closing parenthesis closes a code.
-- Assumes nothing.
use mathlib.Core.Path.{◌≡◌, refl, sym, ap, ◌∙◌}
use mathlib.Core.Bool.{Bool, true, false, cond}
use mathlib.Core.List.{List, [], ◌∷◌, ◌++◌}
use mathlib.Core.Logic.{inl, inr}
use Prim.Native.Nat.{ℕ, ◌+◌, ◌<◌}
use native.Mathlib.Omega.{arith}
use borrow.Author.Tests.{ne_eqb, eqb-true, eqb-false}
use lib.Dec.{eqb, ltb}
use Rattle.paper_record.specs.Text.{is_digit, is_capital}
use Rattle.paper_decay.specs.declared.types.Scan.{Scan}
use Rattle.paper_decay.specs.Scan.{fresh, nowhere, to_if, head, digits_next, before_nuclide, flag_digits, flag_step, digits_step}
use Rattle.paper_decay.specs.Scan.{symbol_step, nuclide_step, head_step, is_empty, place_step, field_step, inside_step, is_whole}
use Rattle.paper_decay.specs.Scan.{next_place, comma_step, step_of}
use Rattle.paper_decay.proofs.Steps.{steps, nowhere-steps, Kept, place_kept}
use Rattle.paper_decay.proofs.Closing.{not-closed, closed-end}
use Rattle.paper_decay.proofs.Closed.{Settled, step-settled}

abbrev Unclosed : Scan → Type 0
Unclosed s = s.place ≡ 5 → ⊥

off : Unclosed nowhere
off = λ e. omega arith

cond-unclosed : (t : Bool) (x y : Scan) → Unclosed x → Unclosed y → Unclosed (cond t x y)
cond-unclosed true x y h k = h
cond-unclosed false x y h k = k

if-unclosed : (t : Bool) (x : Scan) → Unclosed x → Unclosed (to_if t x)
if-unclosed t x h = cond-unclosed t x nowhere h off

head-unclosed : (q k : ℕ) → Unclosed (head q k)
head-unclosed q k = λ e. omega arith

next-unclosed : (p : ℕ) (t : Bool) → Unclosed (next_place p t)
unfolding next_place
next-unclosed p t =
    cond-unclosed (eqb p 0) _ _ (λ e. omega arith)
    (cond-unclosed (eqb p 1) _ _ (λ e. omega arith)
    (cond-unclosed (eqb p 2) _ _ (λ e. omega arith)
    (cond-unclosed (eqb p 3) _ _ (λ e. omega arith)
    (cond-unclosed (eqb p 4) _ _ (if-unclosed t (fresh 2 false) (λ e. omega arith)) off))))

comma-unclosed : (s : Scan) → Unclosed (comma_step s)
unfolding comma_step
comma-unclosed s =
    cond-unclosed (is_whole s) _ _ (next-unclosed s.place true)
    (cond-unclosed (eqb s.place 0) _ _ off
    (cond-unclosed (is_empty s) _ _ (next-unclosed s.place s.filled) off))

before-unclosed : (b : ℕ) → Unclosed (before_nuclide b)
unfolding before_nuclide
before-unclosed b =
    cond-unclosed (eqb b 32) _ _ (head-unclosed 4 0)
    (cond-unclosed (eqb (digits_next 0 b) 0) _ _ off (head-unclosed 5 (digits_next 0 b)))

flags-unclosed : (count b : ℕ) → Unclosed (flag_digits count b)
unfolding flag_digits
flags-unclosed count b =
    cond-unclosed (is_digit b) _ _ (cond-unclosed (ltb count 10) _ _ (head-unclosed 2 (count + 1)) off)
    (cond-unclosed (eqb count 0) _ _ off (if-unclosed (eqb b 46) (head 3 0) (head-unclosed 3 0)))

flag-unclosed : (inner count b : ℕ) → Unclosed (flag_step inner count b)
unfolding flag_step
flag-unclosed inner count b =
    cond-unclosed (eqb inner 0) _ _ (if-unclosed (eqb b 40) (head 1 0) (head-unclosed 1 0))
    (cond-unclosed (eqb inner 1) _ _ (cond-unclosed (eqb b 40) _ _ (head-unclosed 2 0) (before-unclosed b))
    (cond-unclosed (eqb inner 2) _ _ (flags-unclosed count b)
    (cond-unclosed (eqb inner 4) _ _ (before-unclosed b) off)))

digits-unclosed : (inner count b next : ℕ) → Unclosed (digits_step inner count b next)
unfolding digits_step
digits-unclosed inner count b next =
    cond-unclosed (eqb (digits_next count b) 0) _ _
    (cond-unclosed (eqb count 0) _ _ off (if-unclosed (eqb b 45) (head next 0) (head-unclosed next 0)))
    (head-unclosed inner (digits_next count b))

symbol-unclosed : (count b : ℕ) → Unclosed (symbol_step count b)
unfolding symbol_step
symbol-unclosed count b =
    cond-unclosed (is_capital b) _ _ (cond-unclosed (ltb count 2) _ _ (head-unclosed 6 (count + 1)) off)
    (cond-unclosed (eqb count 0) _ _ off (if-unclosed (eqb b 45) (head 7 0) (head-unclosed 7 0)))

nuclide-unclosed : (inner count b : ℕ) → Unclosed (nuclide_step inner count b)
unfolding nuclide_step
nuclide-unclosed inner count b =
    cond-unclosed (eqb inner 5) _ _ (digits-unclosed 5 count b 6)
    (cond-unclosed (eqb inner 6) _ _ (symbol-unclosed count b)
    (cond-unclosed (eqb inner 7) _ _ (digits-unclosed 7 count b 8)
    (cond-unclosed (eqb inner 8) _ _
    (cond-unclosed (eqb b 77) _ _ (head-unclosed 9 0) (if-unclosed (eqb b 71) (head 10 0) (head-unclosed 10 0)))
    (cond-unclosed (eqb inner 9) _ _
    (cond-unclosed (eqb b 49) _ _ (head-unclosed 10 0) (if-unclosed (eqb b 50) (head 10 0) (head-unclosed 10 0)))
    off))))

heads-unclosed : (inner count b : ℕ) → Unclosed (head_step inner count b)
unfolding head_step
heads-unclosed inner count b =
    cond-unclosed (ltb inner 5) _ _ (flag-unclosed inner count b) (nuclide-unclosed inner count b)

kept-unclosed : (p : ℕ) (s : Scan) → p < 5 → Kept p s → Unclosed s
kept-unclosed p s h (inl e) = λ z. not-closed s e z
kept-unclosed p s h (inr (e, k)) = λ z. omega arith

field-unclosed : (s : Scan) (b : ℕ) → s.place < 5 → Unclosed (field_step s b)
unfolding field_step
field-unclosed s b h =
    cond-unclosed (eqb b 32) _ _ (if-unclosed (is_empty s) s (λ z. omega arith))
    (kept-unclosed s.place (place_step s b) h (place_kept s b s.place refl))

inside-unclosed : (s : Scan) (b : ℕ) → s.place < 5 → Unclosed (inside_step s b)
unfolding inside_step
inside-unclosed s b h =
    cond-unclosed (eqb s.place 0) _ _ (heads-unclosed s.inner s.count b)
    (cond-unclosed (ltb s.place 5) _ _ (field-unclosed s b h) off)

-- only a closing parenthesis closes
step-unclosed : (s : Scan) (b : ℕ) → s.place < 5 → (b ≡ 41 → ⊥) → Unclosed (step_of s b)
unfolding step_of
step-unclosed s b h n =
    cond-unclosed (eqb b 44) _ _ (comma-unclosed s)
    (rw (ne_eqb b 41 n) (inside-unclosed s b h))

-- what closes the scan ends so
pub record Shutting (t : List ℕ) : Type 0 where
  pub before : List ℕ
  pub same : before ++ (41 ∷ []) ≡ t

pub shutting : (t : List ℕ) (s : Scan) → s.place < 5 → (steps s t).place ≡ 5 → Shutting t
unfolding steps
shutting [] s h e = absurd (omega arith)
shutting (b ∷ t) s h e = by-step (λ g. shutting t (step_of s b) g e) (step-settled s b h)
  where
    by_last : (u : List ℕ) → u ≡ t → (p : Bool) → eqb b 41 ≡ p → step_of s b ≡ fresh 5 false → u ≡ [] → Shutting (b ∷ t)
    by_last u z true f g y =
        let x : 41 ≡ b = sym (eqb-true b 41 f) in
        let w : [] ≡ t = sym y ∙ z in
        record { before = []; same = λ i. x i ∷ w i }
    by_last u z false f g y = absurd (step-unclosed s b h (eqb-false b 41 f) (ap (λ (x : Scan). x.place) g))

    by-step : ((step_of s b).place < 5 → Shutting t) → Settled (step_of s b) → Shutting (b ∷ t)
    by-step ih (inl g) =
        let r = ih g in
        record { before = b ∷ r.before; same = ap (λ (l : List ℕ). b ∷ l) r.same }
    by-step ih (inr (inl g)) = not-closed (steps (step_of s b) t) (ap (λ (x : Scan). steps x t) g ∙ nowhere-steps t) e
    by-step ih (inr (inr g)) =
        by_last t refl (eqb b 41) refl g (closed-end t (ap (λ (x : Scan). (steps x t).place) (sym g) ∙ e))
