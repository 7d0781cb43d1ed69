-- The scan stops at the first character that no code has there.
-- Assumes nothing.
use mathlib.Core.Path.{◌≡◌, refl, sym, ap, ◌∙◌, subst}
use mathlib.Core.Bool.{Bool, true, false, cond}
use mathlib.Core.List.{List, [], ◌∷◌, ◌++◌}
use mathlib.Core.Logic.{inl, inr}
use Prim.Native.Nat.{ℕ, zero, suc, ◌+◌, ◌<◌}
use native.Mathlib.Omega.{arith}
use borrow.Author.Tests.{leb-true, leb-false}
use lib.ListN.{length, take}
use Rattle.paper_decay.specs.declared.types.Scan.{Scan}
use Rattle.paper_decay.specs.declared.types.Stop.{Stop}
use Rattle.paper_decay.specs.Scan.{fresh, nowhere, step_of, stopped, stop, scan_text}
use Rattle.paper_decay.specs.Code.{Code, Spells, Viable}
use Rattle.paper_decay.specs.Claims.{StopsFirst}
use Rattle.paper_decay.proofs.Steps.{steps, steps-append, nowhere-steps}
use Rattle.paper_decay.proofs.Closing.{not-closed, closed-stays}
use Rattle.paper_decay.proofs.Heads.{code-close}
use Rattle.paper_decay.proofs.Spelling.{code-sound}
use Rattle.paper_decay.proofs.Closed.{scan_from, text-from, Settled, step-settled}
use Rattle.paper_decay.proofs.Going.{Live, live-0, Alive, steps-alive}

-- nowhere is past every place
pub past : {X : Type 0} (s : Scan) → s ≡ nowhere → s.place < 5 → X
past s e h = let z : s.place ≡ 6 = ap (λ (x : Scan). x.place) e in absurd (omega arith)

pub closed-over : {X : Type 0} (m : List ℕ) → (steps (fresh 5 false) m).place < 5 → X
unfolding steps
closed-over [] h = absurd (omega arith)
closed-over (b ∷ m) h =
    past (steps (step_of (fresh 5 false) b) m) (ap (λ (x : Scan). steps x m) (closed-stays b) ∙ nowhere-steps m) h

settled-six : (s : Scan) → Settled s → s.place ≡ 6 → s ≡ nowhere
settled-six s (inl c) e = absurd (omega arith)
settled-six s (inr (inl c)) e = c
settled-six s (inr (inr c)) e = let z : s.place ≡ 5 = ap (λ (x : Scan). x.place) c in absurd (omega arith)

pub settled-steps : (l : List ℕ) (s : Scan) → Settled s → Settled (steps s l)
unfolding steps
settled-steps [] s h = h
settled-steps (b ∷ l) s (inl h) = settled-steps l (step_of s b) (step-settled s b h)
settled-steps (b ∷ l) s (inr (inl e)) = inr (inl (ap (λ (x : Scan). steps x (b ∷ l)) e ∙ nowhere-steps (b ∷ l)))
settled-steps (b ∷ l) s (inr (inr e)) =
    inr (inl (ap (λ (x : Scan). steps (step_of x b) l) e ∙ ap (λ (x : Scan). steps x l) (closed-stays b) ∙ nowhere-steps l))

-- ---- where the scan stops

pub record Stuck (s : Scan) (l : List ℕ) (i : ℕ) (x : Stop) : Type 0 where
  pub count : ℕ
  pub place : x.at ≡ i + count
  pub less : count < length l
  pub going : (steps s (take count l)).place < 5
  pub none : steps s (take (suc count) l) ≡ nowhere

pub from-stuck : (l : List ℕ) (s : Scan) (i : ℕ) → s.place < 5 → (scan_from s l i).scan.place ≡ 6 → Stuck s l i (scan_from s l i)
unfolding scan_from steps
from-stuck [] s i h e = absurd (omega arith)
from-stuck (b ∷ l) s i h e =
    by-stopped (λ g f. from-stuck l (step_of s b) (i + 1) g f) (stopped (step_of s b)) refl e
  where
    by-stopped : ((step_of s b).place < 5 → (scan_from (step_of s b) l (i + 1)).scan.place ≡ 6
        → Stuck (step_of s b) l (i + 1) (scan_from (step_of s b) l (i + 1)))
        → (p : Bool) → stopped (step_of s b) ≡ p
        → (cond p (stop (step_of s b) i) (scan_from (step_of s b) l (i + 1))).scan.place ≡ 6
        → Stuck s (b ∷ l) i (cond p (stop (step_of s b) i) (scan_from (step_of s b) l (i + 1)))
    by-stopped ih true g f =
        record {
          count = 0;
          place = omega arith;
          less = omega arith;
          going = h;
          none = settled-six (step_of s b) (step-settled s b h) f;
        }
    by-stopped ih false g f =
        let r = ih (leb-false 5 (step_of s b).place g) f in
        record {
          count = suc r.count;
          place = omega (arith, r.place);
          less = omega (arith, r.less);
          going = r.going;
          none = r.none;
        }

pub stuck_at : (l : List ℕ) (s : Scan) (i k : ℕ) → s.place < 5 → k < length l → (steps s (take k l)).place < 5
    → steps s (take (suc k) l) ≡ nowhere → ((scan_from s l i).scan.place ≡ 6) × ((scan_from s l i).at ≡ i + k)
unfolding scan_from steps
stuck_at [] s i k h n g e = absurd (omega arith)
stuck_at (b ∷ l) s i zero h n g e = by-stopped (stopped (step_of s b)) refl
  where
    by-stopped : (p : Bool) → stopped (step_of s b) ≡ p
        → ((cond p (stop (step_of s b) i) (scan_from (step_of s b) l (i + 1))).scan.place ≡ 6)
        × ((cond p (stop (step_of s b) i) (scan_from (step_of s b) l (i + 1))).at ≡ i + 0)
    by-stopped true f = (ap (λ (x : Scan). x.place) e, omega arith)
    by-stopped false f = past (step_of s b) e (leb-false 5 (step_of s b).place f)
stuck_at (b ∷ l) s i (suc k) h n g e =
    by-stopped (λ c. stuck_at l (step_of s b) (i + 1) k c (omega arith) g e) (stopped (step_of s b)) refl (step-settled s b h)
  where
    by-stopped : ((step_of s b).place < 5
        → ((scan_from (step_of s b) l (i + 1)).scan.place ≡ 6) × ((scan_from (step_of s b) l (i + 1)).at ≡ i + 1 + k))
        → (p : Bool) → stopped (step_of s b) ≡ p → Settled (step_of s b)
        → ((cond p (stop (step_of s b) i) (scan_from (step_of s b) l (i + 1))).scan.place ≡ 6)
        × ((cond p (stop (step_of s b) i) (scan_from (step_of s b) l (i + 1))).at ≡ i + suc k)
    by-stopped ih false f c =
        let (x, y) = ih (leb-false 5 (step_of s b).place f) in
        (x, omega arith)
    by-stopped ih true f (inl c) = let d = leb-true 5 (step_of s b).place f in absurd (omega arith)
    by-stopped ih true f (inr (inl c)) =
        past (steps (step_of s b) (take k l)) (ap (λ (t : Scan). steps t (take k l)) c ∙ nowhere-steps (take k l)) g
    by-stopped ih true f (inr (inr c)) =
        closed-over (take k l) (subst (λ (t : Scan). (steps t (take k l)).place < 5) c g)

-- ---- what begins a code

pub live-viable : (l : List ℕ) → Live (steps (fresh 0 false) l) → Viable l
live-viable l (r, h) =
    let e : (steps (fresh 0 false) (l ++ r)).place ≡ 5 = ap (λ (x : Scan). x.place) (steps-append l r (fresh 0 false) ∙ h) in
    let c = code-sound (l ++ r) e in
    record { code = c.code; rest = r; spells = c.spells }

pub viable-not : {X : Type 0} (l : List ℕ) → Viable l → steps (fresh 0 false) l ≡ nowhere → X
viable-not l v e =
    let s = v.spells in
    let f : steps (fresh 0 false) (l ++ v.rest) ≡ nowhere =
    steps-append l v.rest (fresh 0 false) ∙ ap (λ (x : Scan). steps x v.rest) e ∙ nowhere-steps v.rest in
    let g : steps (fresh 0 false) (l ++ v.rest) ≡ fresh 5 false =
    ap (steps (fresh 0 false)) (sym s.same) ∙ code-close v.code s.good in
    not-closed (steps (fresh 0 false) (l ++ v.rest)) f (ap (λ (x : Scan). x.place) g)

pub spelt-closed : (l : List ℕ) (c : Code) → Spells l c → steps (fresh 0 false) l ≡ fresh 5 false
spelt-closed l c s = ap (steps (fresh 0 false)) (sym s.same) ∙ code-close c s.good

start-going : (fresh 0 false).place < 5
start-going = omega arith

-- the scan goes on behind what begins a code and is none
pub going-viable : (l : List ℕ) → (steps (fresh 0 false) l).place < 5 → Viable l
going-viable l g = by-alive (steps-alive l (fresh 0 false) live-0)
  where
    by-alive : Alive (steps (fresh 0 false) l) → Viable l
    by-alive (inl e) = past (steps (fresh 0 false) l) e g
    by-alive (inr m) = live-viable l m

pub going-unclosed : (l : List ℕ) → (steps (fresh 0 false) l).place < 5 → (c : Code) → Spells l c → ⊥
going-unclosed l g c s =
    let z : (steps (fresh 0 false) l).place ≡ 5 = ap (λ (x : Scan). x.place) (spelt-closed l c s) in
    omega arith

pub viable-going : (l : List ℕ) → Viable l → ((c : Code) → Spells l c → ⊥) → (steps (fresh 0 false) l).place < 5
viable-going l v n = by-settled (settled-steps l (fresh 0 false) (inl start-going))
  where
    by-settled : Settled (steps (fresh 0 false) l) → (steps (fresh 0 false) l).place < 5
    by-settled (inl h) = h
    by-settled (inr (inl e)) = viable-not l v e
    by-settled (inr (inr e)) =
        let s = code-sound l (ap (λ (x : Scan). x.place) e) in
        absurd (n s.code s.spells)

-- it leads nowhere behind what begins none
pub none-nowhere : (l : List ℕ) → (Viable l → ⊥) → steps (fresh 0 false) l ≡ nowhere
none-nowhere l n = by-alive (steps-alive l (fresh 0 false) live-0)
  where
    by-alive : Alive (steps (fresh 0 false) l) → steps (fresh 0 false) l ≡ nowhere
    by-alive (inl e) = e
    by-alive (inr m) = absurd (n (live-viable l m))

-- ---- the law

first-stop : (l : List ℕ) (i : ℕ) → ((scan_text l (fresh 0 false)).scan.place ≡ 6) × ((scan_text l (fresh 0 false)).at ≡ i)
    → (i < length l) × (Viable (take i l) × (((c : Code) → Spells (take i l) c → ⊥) × (Viable (take (i + 1) l) → ⊥)))
first-stop l i h =
    let t = text-from l (fresh 0 false) in
    let e : (scan_from (fresh 0 false) l 0).scan.place ≡ 6 = ap (λ (x : Stop). x.scan.place) (sym t) ∙ h.0 in
    let a : (scan_from (fresh 0 false) l 0).at ≡ i = ap (λ (x : Stop). x.at) (sym t) ∙ h.1 in
    let r = from-stuck l (fresh 0 false) 0 start-going e in
    let k : r.count ≡ i = omega (arith, r.place) in
    let j : suc r.count ≡ i + 1 = omega arith in
    let g : (steps (fresh 0 false) (take i l)).place < 5 =
    subst (λ (n : ℕ). (steps (fresh 0 false) (take n l)).place < 5) k r.going in
    let z : steps (fresh 0 false) (take (i + 1) l) ≡ nowhere =
    subst (λ (n : ℕ). steps (fresh 0 false) (take n l) ≡ nowhere) j r.none in (
      omega (arith, r.less),
      (
        going-viable (take i l) g,
        (going-unclosed (take i l) g, λ v. viable-not (take (i + 1) l) v z),
      ),
    )

stop-first : (l : List ℕ) (i : ℕ) → i < length l → Viable (take i l) → ((c : Code) → Spells (take i l) c → ⊥)
    → (Viable (take (i + 1) l) → ⊥) → ((scan_text l (fresh 0 false)).scan.place ≡ 6) × ((scan_text l (fresh 0 false)).at ≡ i)
stop-first l i n v c w =
    let t = text-from l (fresh 0 false) in
    let g = viable-going (take i l) v c in
    let z = none-nowhere (take (i + 1) l) w in
    let j : i + 1 ≡ suc i = omega arith in
    let (x, y) = stuck_at l (fresh 0 false) 0 i start-going n g (subst (λ (k : ℕ). steps (fresh 0 false) (take k l) ≡ nowhere) j z) in
    (ap (λ (s : Stop). s.scan.place) t ∙ x, ap (λ (s : Stop). s.at) t ∙ y ∙ omega arith)

pub stops_first : StopsFirst
stops_first l i = (first-stop l i, λ h. stop-first l i h.0 h.1.0 h.1.1.0 h.1.1.1)
