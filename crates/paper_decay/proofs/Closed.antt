-- The scan closes at the last character of a code, and nowhere else.
-- Assumes nothing.
use mathlib.Core.Path.{◌≡◌, refl, sym, ap, ◌∙◌}
use mathlib.Core.Bool.{Bool, true, false, cond}
use mathlib.Core.List.{List, [], ◌∷◌}
use mathlib.Core.Logic.{◌⊎◌, inl, inr}
use Prim.Native.Nat.{ℕ, zero, suc, ◌+◌, ◌<◌, ◌≤◌}
use native.Mathlib.Omega.{arith}
use borrow.Author.Tests.{leb-true, leb-false}
use lib.Dec.{eqb, ltb}
use lib.ListN.{length, get_or, take, drop, drop_of_length-le}
use lib.Seq.{drop-cons}
use Rattle.laws.specs.Turns.{go, out, run}
use Rattle.laws.specs.Turns as Turns
use Rattle.paper_record.specs.Text.{is_digit, is_capital}
use Rattle.paper_decay.specs.declared.types.Scan.{Scan}
use Rattle.paper_decay.specs.declared.types.Stop.{Stop}
use Rattle.paper_decay.specs.Scan.{fresh, nowhere, to_if, head, digits_next, before_nuclide, flag_digits, flag_step, digits_step}
use Rattle.paper_decay.specs.Scan.{symbol_step, nuclide_step, head_step, is_empty, place_step, field_step, inside_step, is_whole}
use Rattle.paper_decay.specs.Scan.{is_flag_point, close_step, next_place, comma_step, step_of, stopped, stop, text_turn, end_at}
use Rattle.paper_decay.specs.Scan.{scan_text}
use Rattle.paper_decay.specs.Claims.{ClosedExactly}
use Rattle.paper_decay.proofs.Cuts.{no-first}
use Rattle.paper_decay.proofs.Steps.{steps, nowhere-steps, Kept, place_kept}
use Rattle.paper_decay.proofs.Closing.{not-closed, closed-end}
use Rattle.paper_decay.proofs.Heads.{code-close}
use Rattle.paper_decay.proofs.Spelling.{code-sound}

-- ---- the scan over a list

unfoldable pub scan_from : Scan → List ℕ → ℕ → Stop
scan_from s [] i = stop s i
scan_from s (b ∷ l) i = cond (stopped (step_of s b)) (stop (step_of s b) i) (scan_from (step_of s b) l (i + 1))

one-turn : (l : List ℕ) (s : Scan) (i n : ℕ)
    → run (text_turn l) (end_at l) s i (suc n)
    ≡ cond (stopped (step_of s (get_or l i 0))) (stop (step_of s (get_or l i 0)) i)
    (run (text_turn l) (end_at l) (step_of s (get_or l i 0)) (i + 1) n)
unfolding run text_turn
one-turn l s i n = by-stopped (stopped (step_of s (get_or l i 0)))
  where
    by-stopped : (p : Bool)
        → Turns.after (cond p (out (stop (step_of s (get_or l i 0)) i)) (go (step_of s (get_or l i 0))))
        (λ u. run (text_turn l) (end_at l) u (i + 1) n)
        ≡ cond p (stop (step_of s (get_or l i 0)) i) (run (text_turn l) (end_at l) (step_of s (get_or l i 0)) (i + 1) n)
    by-stopped true = refl
    by-stopped false = refl

run-from : (n : ℕ) (l : List ℕ) (s : Scan) (i : ℕ) → i + n ≡ length l
    → run (text_turn l) (end_at l) s i n ≡ scan_from s (drop i l) i
unfolding run scan_from
run-from zero l s i e =
    let z : i ≡ length l = omega arith in
    let m : length l ≤ i = omega arith in
    let d : drop i l ≡ [] = drop_of_length-le l m in
    ap (stop s) (sym z) ∙ ap (λ (m : List ℕ). scan_from s m i) (sym d)
run-from (suc n) l s i e =
    let b = get_or l i 0 in
    let d : drop i l ≡ b ∷ drop (suc i) l = drop-cons l i 0 (omega arith) in
    let j : i + 1 ≡ suc i = omega arith in
    let r : run (text_turn l) (end_at l) (step_of s b) (i + 1) n ≡ scan_from (step_of s b) (drop (suc i) l) (i + 1) =
    run-from n l (step_of s b) (i + 1) (omega arith) ∙ ap (λ (k : ℕ). scan_from (step_of s b) (drop k l) (i + 1)) j in
    one-turn l s i n
    ∙ ap (λ (x : Stop). cond (stopped (step_of s b)) (stop (step_of s b) i) x) r
    ∙ ap (λ (m : List ℕ). scan_from s m i) (sym d)

pub text-from : (l : List ℕ) (s : Scan) → scan_text l s ≡ scan_from s l 0
unfolding scan_text
text-from l s = run-from (length l) l s 0 (omega arith)

-- ---- a step from where the scan goes on leads to such a place, to the end, or nowhere

abbrev pub Settled : Scan → Type 0
Settled s = (s.place < 5) ⊎ ((s ≡ nowhere) ⊎ (s ≡ fresh 5 false))

off : Settled nowhere
off = inr (inl refl)

cond-settled : (t : Bool) (x y : Scan) → Settled x → Settled y → Settled (cond t x y)
cond-settled true x y h k = h
cond-settled false x y h k = k

if-settled : (t : Bool) (x : Scan) → Settled x → Settled (to_if t x)
if-settled t x h = cond-settled t x nowhere h off

head-settled : (q k : ℕ) → Settled (head q k)
head-settled q k = inl (omega arith)

next-settled : (p : ℕ) (t : Bool) → Settled (next_place p t)
unfolding next_place
next-settled p t =
    cond-settled (eqb p 0) _ _ (inl (omega arith))
    (cond-settled (eqb p 1) _ _ (inl (omega arith))
    (cond-settled (eqb p 2) _ _ (inl (omega arith))
    (cond-settled (eqb p 3) _ _ (inl (omega arith))
    (cond-settled (eqb p 4) _ _ (if-settled t (fresh 2 false) (inl (omega arith))) off))))

comma-settled : (s : Scan) → Settled (comma_step s)
unfolding comma_step
comma-settled s =
    cond-settled (is_whole s) _ _ (next-settled s.place true)
    (cond-settled (eqb s.place 0) _ _ off
    (cond-settled (is_empty s) _ _ (next-settled s.place s.filled) off))

close-settled : (s : Scan) → Settled (close_step s)
unfolding close_step
close-settled s =
    cond-settled (is_flag_point s) _ _ (head-settled 4 0) (if-settled (is_whole s) (fresh 5 false) (inr (inr refl)))

before-settled : (b : ℕ) → Settled (before_nuclide b)
unfolding before_nuclide
before-settled b =
    cond-settled (eqb b 32) _ _ (head-settled 4 0)
    (cond-settled (eqb (digits_next 0 b) 0) _ _ off (head-settled 5 (digits_next 0 b)))

flags-settled : (count b : ℕ) → Settled (flag_digits count b)
unfolding flag_digits
flags-settled count b =
    cond-settled (is_digit b) _ _ (cond-settled (ltb count 10) _ _ (head-settled 2 (count + 1)) off)
    (cond-settled (eqb count 0) _ _ off (if-settled (eqb b 46) (head 3 0) (head-settled 3 0)))

flag-settled : (inner count b : ℕ) → Settled (flag_step inner count b)
unfolding flag_step
flag-settled inner count b =
    cond-settled (eqb inner 0) _ _ (if-settled (eqb b 40) (head 1 0) (head-settled 1 0))
    (cond-settled (eqb inner 1) _ _ (cond-settled (eqb b 40) _ _ (head-settled 2 0) (before-settled b))
    (cond-settled (eqb inner 2) _ _ (flags-settled count b)
    (cond-settled (eqb inner 4) _ _ (before-settled b) off)))

digits-settled : (inner count b next : ℕ) → Settled (digits_step inner count b next)
unfolding digits_step
digits-settled inner count b next =
    cond-settled (eqb (digits_next count b) 0) _ _
    (cond-settled (eqb count 0) _ _ off (if-settled (eqb b 45) (head next 0) (head-settled next 0)))
    (head-settled inner (digits_next count b))

symbol-settled : (count b : ℕ) → Settled (symbol_step count b)
unfolding symbol_step
symbol-settled count b =
    cond-settled (is_capital b) _ _ (cond-settled (ltb count 2) _ _ (head-settled 6 (count + 1)) off)
    (cond-settled (eqb count 0) _ _ off (if-settled (eqb b 45) (head 7 0) (head-settled 7 0)))

nuclide-settled : (inner count b : ℕ) → Settled (nuclide_step inner count b)
unfolding nuclide_step
nuclide-settled inner count b =
    cond-settled (eqb inner 5) _ _ (digits-settled 5 count b 6)
    (cond-settled (eqb inner 6) _ _ (symbol-settled count b)
    (cond-settled (eqb inner 7) _ _ (digits-settled 7 count b 8)
    (cond-settled (eqb inner 8) _ _
    (cond-settled (eqb b 77) _ _ (head-settled 9 0) (if-settled (eqb b 71) (head 10 0) (head-settled 10 0)))
    (cond-settled (eqb inner 9) _ _
    (cond-settled (eqb b 49) _ _ (head-settled 10 0) (if-settled (eqb b 50) (head 10 0) (head-settled 10 0)))
    off))))

heads-settled : (inner count b : ℕ) → Settled (head_step inner count b)
unfolding head_step
heads-settled inner count b =
    cond-settled (ltb inner 5) _ _ (flag-settled inner count b) (nuclide-settled inner count b)

kept-settled : (p : ℕ) (s : Scan) → p < 5 → Kept p s → Settled s
kept-settled p s h (inl e) = inr (inl e)
kept-settled p s h (inr (e, k)) = inl (omega arith)

field-settled : (s : Scan) (b : ℕ) → s.place < 5 → Settled (field_step s b)
unfolding field_step
field-settled s b h =
    cond-settled (eqb b 32) _ _ (if-settled (is_empty s) s (inl h))
    (kept-settled s.place (place_step s b) h (place_kept s b s.place refl))

inside-settled : (s : Scan) (b : ℕ) → s.place < 5 → Settled (inside_step s b)
unfolding inside_step
inside-settled s b h =
    cond-settled (eqb s.place 0) _ _ (heads-settled s.inner s.count b)
    (cond-settled (ltb s.place 5) _ _ (field-settled s b h) off)

pub step-settled : (s : Scan) (b : ℕ) → s.place < 5 → Settled (step_of s b)
unfolding step_of
step-settled s b h =
    cond-settled (eqb b 44) _ _ (comma-settled s)
    (cond-settled (eqb b 41) _ _ (close-settled s) (inside-settled s b h))

-- ---- where the scan closes

pub record Shut (s : Scan) (l : List ℕ) (i : ℕ) (x : Stop) : Type 0 where
  pub count : ℕ
  pub place : x.at + 1 ≡ i + count
  pub few : count ≤ length l
  pub closes : (steps s (take count l)).place ≡ 5

pub from-shut : (l : List ℕ) (s : Scan) (i : ℕ) → s.place < 5 → (scan_from s l i).scan.place ≡ 5 → Shut s l i (scan_from s l i)
unfolding scan_from steps
from-shut [] s i h e = absurd (omega arith)
from-shut (b ∷ l) s i h e =
    by-stopped (λ g f. from-shut l (step_of s b) (i + 1) g f) (stopped (step_of s b)) refl e
  where
    by-stopped : ((step_of s b).place < 5 → (scan_from (step_of s b) l (i + 1)).scan.place ≡ 5
        → Shut (step_of s b) l (i + 1) (scan_from (step_of s b) l (i + 1)))
        → (p : Bool) → stopped (step_of s b) ≡ p
        → (cond p (stop (step_of s b) i) (scan_from (step_of s b) l (i + 1))).scan.place ≡ 5
        → Shut s (b ∷ l) i (cond p (stop (step_of s b) i) (scan_from (step_of s b) l (i + 1)))
    by-stopped ih true g f = record { count = 1; place = refl; few = omega arith; closes = f }
    by-stopped ih false g f =
        let r = ih (leb-false 5 (step_of s b).place g) f in
        record { count = suc r.count; place = omega (arith, r.place); few = omega (arith, r.few); closes = r.closes }

none-taken : (k : ℕ) (l : List ℕ) → k ≤ length l → take k l ≡ [] → k ≡ 0
none-taken zero l h e = refl
none-taken (suc k) [] h e = absurd (omega arith)
none-taken (suc k) (b ∷ l) h e = no-first b (take k l) (sym e)

pub shut-from : (l : List ℕ) (s : Scan) (i k : ℕ) → s.place < 5 → k ≤ length l → (steps s (take k l)).place ≡ 5
    → ((scan_from s l i).scan.place ≡ 5) × ((scan_from s l i).at + 1 ≡ i + k)
unfolding scan_from steps
shut-from l s i zero h n e = absurd (omega arith)
shut-from [] s i (suc k) h n e = absurd (omega arith)
shut-from (b ∷ l) s i (suc k) h n e =
    by-stopped (λ g. shut-from l (step_of s b) (i + 1) k g (omega arith) e) (stopped (step_of s b)) refl (step-settled s b h)
  where
    by-stopped : ((step_of s b).place < 5
        → ((scan_from (step_of s b) l (i + 1)).scan.place ≡ 5) × ((scan_from (step_of s b) l (i + 1)).at + 1 ≡ i + 1 + k))
        → (p : Bool) → stopped (step_of s b) ≡ p → Settled (step_of s b)
        → ((cond p (stop (step_of s b) i) (scan_from (step_of s b) l (i + 1))).scan.place ≡ 5)
        × ((cond p (stop (step_of s b) i) (scan_from (step_of s b) l (i + 1))).at + 1 ≡ i + suc k)
    by-stopped ih false g c =
        let (x, y) = ih (leb-false 5 (step_of s b).place g) in
        (x, omega arith)
    by-stopped ih true g (inl c) = let d = leb-true 5 (step_of s b).place g in absurd (omega arith)
    by-stopped ih true g (inr (inl c)) =
        not-closed (steps (step_of s b) (take k l)) (ap (λ (t : Scan). steps t (take k l)) c ∙ nowhere-steps (take k l)) e
    by-stopped ih true g (inr (inr c)) =
        let z = closed-end (take k l) (ap (λ (t : Scan). (steps t (take k l)).place) (sym c) ∙ e) in
        let m : k ≡ 0 = none-taken k l (omega arith) z in
        (ap (λ (t : Scan). t.place) c, omega arith)

-- ---- the law

pub closed-exactly : ClosedExactly
closed-exactly l i = (
  λ h.
      let e : (scan_from (fresh 0 false) l 0).scan.place ≡ 5 = ap (λ (x : Stop). x.scan.place) (sym (text-from l (fresh 0 false))) ∙ h.0 in
      let a : (scan_from (fresh 0 false) l 0).at + 1 ≡ i = ap (λ (x : Stop). x.at + 1) (sym (text-from l (fresh 0 false))) ∙ h.1 in
      let r = from-shut l (fresh 0 false) 0 (omega arith) e in
      let k : r.count ≡ i = omega (arith, r.place) in
      let c = code-sound (take i l) (ap (λ (n : ℕ). (steps (fresh 0 false) (take n l)).place) (sym k) ∙ r.closes) in
      (c.code, c.spells, omega (arith, r.few)),
  λ c.
      let s = c.1 in
      let e : (steps (fresh 0 false) (take i l)).place ≡ 5 =
      ap (λ (m : List ℕ). (steps (fresh 0 false) m).place) (sym s.same) ∙ ap (λ (t : Scan). t.place) (code-close c.0 s.good) in
      let (x, y) = shut-from l (fresh 0 false) 0 i (omega arith) c.2 e in (
        ap (λ (z : Stop). z.scan.place) (text-from l (fresh 0 false)) ∙ x,
        ap (λ (z : Stop). z.at + 1) (text-from l (fresh 0 false)) ∙ y ∙ omega arith,
      ),
)
