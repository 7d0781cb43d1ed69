-- What is a code: 0 says so of exactly the codes, and 50 with the first character that no code has there of all else.
-- Assumes nothing.
use mathlib.Core.Path.{◌≡◌, refl, sym, ap, ◌∙◌, subst}
use mathlib.Core.Bool.{Bool, true, false, cond}
use mathlib.Core.List.{List, [], ◌∷◌, ◌++◌, append_assoc, append-nil}
use mathlib.Core.Logic.{◌⊎◌, inl, inr}
use Prim.Native.Nat.{ℕ, ◌+◌, ◌≤◌, ◌<◌}
use native.Mathlib.Omega.{arith}
use borrow.Author.Tests.{eqb-true, eq-eqb, ne_eqb, leb-true, leb-false}
use lib.Dec.{eqb}
use lib.ListN.{length, take, drop, take-append-drop, length-append}
use lib.Seq.{take-length, take-take, take-append-le, length-take-le}
use Rattle.laws.proofs.Booleans.{differ, and_left, and_right, and_both}
use Rattle.laws.proofs.Search.{either}
use Rattle.paper_decay.specs.declared.types.Scan.{Scan}
use Rattle.paper_decay.specs.declared.types.Stop.{Stop}
use Rattle.paper_decay.specs.Scan.{fresh, step_of, stopped, stop}
use Rattle.paper_decay.specs.Code.{Code, Spells, Viable}
use Rattle.paper_decay.proofs.Steps.{steps}
use Rattle.paper_decay.proofs.Closed.{scan_from, text-from, Settled, step-settled, closed-exactly}
use Rattle.paper_decay.proofs.Going.{live-0, Alive, steps-alive}
use Rattle.paper_decay.proofs.Stopping.{past, live-viable, stops_first}
use Rattle.paper_decay_fields.specs.declared.types.Head.{Head}
use Rattle.paper_decay_fields.specs.Asked.{read, is_code, goes_to, head_in, no_head, head_of}
use Rattle.paper_decay_fields.specs.Claims.{CodeExactly, StopsAt, HeadRefused}

-- ---- the test of a code

pub is-code : (l : List ℕ) (c : Code) → Spells l c → is_code l ≡ true
unfolding is_code
is-code l c s =
    let t : Spells (take (length l) l) c = subst (λ (m : List ℕ). Spells m c) (sym (take-length l)) s in
    let (p, a) = (closed-exactly l (length l)).1 (c, t, omega arith) in
    and_both (eq-eqb _ 5 p) (eq-eqb _ (length l) a)

pub code_of : (l : List ℕ) → is_code l ≡ true → (c : Code) × Spells l c
unfolding is_code
code_of l e =
    let p = eqb-true (read l).scan.place 5 (and_left (eqb (read l).scan.place 5) _ e) in
    let a = eqb-true ((read l).at + 1) (length l) (and_right (eqb (read l).scan.place 5) _ e) in
    let (c, s, n) = (closed-exactly l (length l)).0 (p, a) in
    (c, subst (λ (m : List ℕ). Spells m c) (take-length l) s)

pub head_in_lem : (l : List ℕ) → is_code l ≡ true → head_of l ≡ head_in l
unfolding head_of
head_in_lem l e = ap (λ (t : Bool). cond t (head_in l) (no_head (goes_to l))) e

head-none : (l : List ℕ) → is_code l ≡ false → head_of l ≡ no_head (goes_to l)
unfolding head_of
head-none l e = ap (λ (t : Bool). cond t (head_in l) (no_head (goes_to l))) e

numbered : (l : List ℕ) (t : Bool) → is_code l ≡ t → (head_of l).number ≡ cond t 0 50
numbered l true e = ap (λ (h : Head). h.number) (head_in_lem l e)
numbered l false e = ap (λ (h : Head). h.number) (head-none l e)

pub is_read : (l : List ℕ) → (head_of l).number ≡ 0 → is_code l ≡ true
is_read l h = by_code (is_code l) refl
  where
    by_code : (t : Bool) → is_code l ≡ t → t ≡ true
    by_code true e = refl
    by_code false e = let n = numbered l false e in absurd (omega arith)

pub not-read : (l : List ℕ) → (head_of l).number ≡ 50 → is_code l ≡ false
not-read l h = by_code (is_code l) refl
  where
    by_code : (t : Bool) → is_code l ≡ t → t ≡ false
    by_code true e = let n = numbered l true e in absurd (omega arith)
    by_code false e = refl

pub code-exactly : CodeExactly
code-exactly l = (λ h. code_of l (is_read l h), λ c. numbered l true (is-code l c.0 c.1))

-- ---- how the scan ends: closed, nowhere, or going on at the end of the text

abbrev Ended : Scan → List ℕ → ℕ → Stop → Type 0
Ended s l i x =
    (x.scan.place ≡ 5) ⊎ ((x.scan.place ≡ 6) ⊎ ((x.scan.place < 5) × (((steps s l).place < 5) × (x.at ≡ i + length l))))

from-ended : (l : List ℕ) (s : Scan) (i : ℕ) → s.place < 5 → Ended s l i (scan_from s l i)
unfolding scan_from steps
from-ended [] s i h = inr (inr (h, (h, omega arith)))
from-ended (b ∷ l) s i h =
    by-stopped (λ g. from-ended l (step_of s b) (i + 1) g) (stopped (step_of s b)) refl (step-settled s b h)
  where
    further : Ended (step_of s b) l (i + 1) (scan_from (step_of s b) l (i + 1))
        → Ended s (b ∷ l) i (scan_from (step_of s b) l (i + 1))
    further (inl e) = inl e
    further (inr (inl e)) = inr (inl e)
    further (inr (inr (p, (g, a)))) = inr (inr (p, (g, omega arith)))

    by-stopped : ((step_of s b).place < 5 → Ended (step_of s b) l (i + 1) (scan_from (step_of s b) l (i + 1)))
        → (p : Bool) → stopped (step_of s b) ≡ p → Settled (step_of s b)
        → Ended s (b ∷ l) i (cond p (stop (step_of s b) i) (scan_from (step_of s b) l (i + 1)))
    by-stopped ih true e (inl c) = let d = leb-true 5 (step_of s b).place e in absurd (omega arith)
    by-stopped ih true e (inr (inl c)) = inr (inl (ap (λ (x : Scan). x.place) c))
    by-stopped ih true e (inr (inr c)) = inl (ap (λ (x : Scan). x.place) c)
    by-stopped ih false e c = further (ih (leb-false 5 (step_of s b).place e))

ended : (l : List ℕ) → Ended (fresh 0 false) l 0 (read l)
ended l = subst (Ended (fresh 0 false) l 0) (sym (text-from l (fresh 0 false))) (from-ended l (fresh 0 false) 0 (omega arith))

going-viable : (l : List ℕ) → (steps (fresh 0 false) l).place < 5 → Viable l
going-viable l g = by-alive (steps-alive l (fresh 0 false) live-0)
  where
    by-alive : Alive (steps (fresh 0 false) l) → Viable l
    by-alive (inl e) = past (steps (fresh 0 false) l) e g
    by-alive (inr m) = live-viable l m

-- ---- what begins a code

viable-less : (a b : List ℕ) → Viable (a ++ b) → Viable a
viable-less a b v =
    record {
      code = v.code;
      rest = b ++ v.rest;
      spells = subst (λ (m : List ℕ). Spells m v.code) (append_assoc a b v.rest) v.spells;
    }

viable-before : (l : List ℕ) (i j : ℕ) → i ≤ j → Viable (take j l) → Viable (take i l)
viable-before l i j n v =
    let e : take i (take j l) ++ drop i (take j l) ≡ take j l = take-append-drop i (take j l) in
    let w = viable-less (take i (take j l)) (drop i (take j l)) (subst Viable (sym e) v) in
    subst Viable (take-take i j l n) w

-- behind a code no code goes on
code-ends : (l : List ℕ) (c : Code) (i : ℕ) → i < length l → Spells (take i l) c → Viable (take (i + 1) l) → ⊥
code-ends l c i n s v =
    let m = take (i + 1) l ++ v.rest in
    let k : length (take (i + 1) l) ≡ i + 1 = length-take-le (i + 1) l (omega arith) in
    let e : take i m ≡ take i l =
    take-append-le i (take (i + 1) l) v.rest (omega arith) ∙ take-take i (i + 1) l (omega arith) in
    let q = length-append (take (i + 1) l) v.rest in
    let x = (closed-exactly m i).1 (c, subst (λ (r : List ℕ). Spells r c) (sym e) s, omega arith) in
    let t : Spells (take (length m) m) v.code =
    subst (λ (r : List ℕ). Spells r v.code) (sym (take-length m)) v.spells in
    let y = (closed-exactly m (length m)).1 (v.code, t, omega arith) in
    omega (arith, x.1, y.1)

-- ---- where the characters are refused

no_code : (l : List ℕ) → is_code l ≡ false → (c : Code) → Spells l c → ⊥
no_code l e c s = differ (sym (is-code l c s) ∙ e)

-- behind a whole code
past-code : (l : List ℕ) → is_code l ≡ false → (read l).scan.place ≡ 5 → StopsAt l (goes_to l)
unfolding goes_to
past-code l e p =
    let (c, s, n) = (closed-exactly l ((read l).at + 1)).0 (p, refl) in
    let r = append-nil (take ((read l).at + 1) l) in
    rw (eq-eqb (read l).scan.place 5 p)
    (record {
      there = n;
      begun = record { code = c; rest = []; spells = subst (λ (m : List ℕ). Spells m c) (sym r) s };
      no_further = λ less v. code-ends l c ((read l).at + 1) less s v;
      not_code = no_code l e;
    })

-- at a character that no code has there
at-stop : (l : List ℕ) → is_code l ≡ false → (read l).scan.place ≡ 6 → StopsAt l (goes_to l)
unfolding goes_to
at-stop l e p =
    let (n, (v, (w, x))) = (stops_first l (read l).at).0 (p, refl) in
    rw (ne_eqb (read l).scan.place 5 (λ z. omega arith))
    (record { there = omega arith; begun = v; no_further = λ less u. x u; not_code = no_code l e })

-- at the end, where a code would go on
at-end : (l : List ℕ) → is_code l ≡ false → (read l).scan.place < 5 → (steps (fresh 0 false) l).place < 5
    → (read l).at ≡ 0 + length l → StopsAt l (goes_to l)
unfolding goes_to
at-end l e p g a =
    let z : (read l).at ≡ length l = omega arith in
    rw (ne_eqb (read l).scan.place 5 (λ z. omega arith), z)
    (record {
      there = omega arith;
      begun = subst Viable (sym (take-length l)) (going-viable l g);
      no_further = λ less v. omega arith;
      not_code = no_code l e;
    })

refused : (l : List ℕ) → is_code l ≡ false → StopsAt l (goes_to l)
refused l e = by-ended (ended l)
  where
    by-ended : Ended (fresh 0 false) l 0 (read l) → StopsAt l (goes_to l)
    by-ended (inl p) = past-code l e p
    by-ended (inr (inl p)) = at-stop l e p
    by-ended (inr (inr (p, (g, a)))) = at-end l e p g a

-- there is one such place
stops-once : (l : List ℕ) (i j : ℕ) → StopsAt l i → StopsAt l j → i < j → ⊥
stops-once l i j x y n =
    let m = y.there in
    x.no_further (omega arith) (viable-before l (i + 1) j (omega arith) y.begun)

stops_same : (l : List ℕ) (i j : ℕ) → StopsAt l i → StopsAt l j → i ≡ j
stops_same l i j x y =
    either i j (λ n. absurd (stops-once l i j x y n))
    (λ n. either j i (λ m. absurd (stops-once l j i y x m)) (λ m. omega arith))

pub head-refused : HeadRefused
head-refused l at = (
  λ h.
      let e = not-read l (ap (λ (x : Head). x.number) h) in
      let g : goes_to l ≡ at = ap (λ (x : Head). x.at) (sym (head-none l e) ∙ h) in
      subst (StopsAt l) g (refused l e),
  λ s.
      let e = by_code s (is_code l) refl in
      head-none l e ∙ ap no_head (stops_same l (goes_to l) at (refused l e) s),
)
  where
    by_code : StopsAt l at → (t : Bool) → is_code l ≡ t → t ≡ false
    by_code s true e = let (c, x) = code_of l e in absurd (s.not_code c x)
    by_code s false e = refl
