-- The j-th record of a passage that opens a code is the one before which j - 1 do.
-- Assumes nothing.
use mathlib.Core.Path.{◌≡◌, refl, sym, ◌∙◌}
use mathlib.Core.Bool.{Bool, true, false, cond}
use mathlib.Core.List.{List}
use Prim.Native.Nat.{ℕ, zero, suc, ◌+◌, ◌-◌, ◌<◌, ◌≤◌}
use native.Mathlib.Omega.{arith}
use borrow.Author.Tests.{eq-eqb, ne_eqb, eqb-true, eqb-false}
use lib.Dec.{eqb}
use Rattle.laws.specs.Search.{how_many}
use Rattle.laws.proofs.Search.{either}
use Rattle.paper_codes.specs.Opening.{records_of, opens, opening_from, opening_of, Opening, OpeningExactly, NoOpening}

-- there is no code 0; the others are counted from the first record on
pub code-zero : (p : List ℕ) (j : ℕ) → j ≡ 0 → opening_of p j ≡ records_of p
unfolding opening_of
code-zero p j z = rw (eq-eqb j 0 z) refl

pub counted-from : (p : List ℕ) (j : ℕ) → (j ≡ 0 → ⊥) → opening_of p j ≡ opening_from p j 0 (records_of p)
unfolding opening_of
counted-from p j h = rw (ne_eqb j 0 h) refl

-- counted from the front
count-front : (t : ℕ → Bool) (i n : ℕ) → how_many t i (suc n) ≡ cond (t i) 1 0 + how_many t (i + 1) n
unfolding how_many
count-front t i zero = let z : i + 0 ≡ i = omega arith in rw z (omega arith)
count-front t i (suc n) =
    let z : i + 1 + n ≡ i + suc n = omega arith in
    let e = count-front t i n in
    rw z (omega (arith, e))

-- the record m is the j-th that opens, from i on
record Nth (p : List ℕ) (j i m : ℕ) : Type 0 where
  low : i ≤ m
  opened : opens p m ≡ true
  counted : how_many (opens p) i (m - i) + 1 ≡ j

nth_here : (p : List ℕ) (i : ℕ) → opens p i ≡ true → Nth p 1 i i
unfolding how_many
nth_here p i e = let z : i - i ≡ 0 = omega arith in record { low = omega arith; opened = e; counted = rw z refl }

counted-on : (p : List ℕ) (i m : ℕ) → i < m
    → how_many (opens p) i (m - i) ≡ cond (opens p i) 1 0 + how_many (opens p) (i + 1) (m - (i + 1))
counted-on p i m h =
    let z : m - i ≡ suc (m - (i + 1)) = omega arith in
    rw z (count-front (opens p) i (m - (i + 1)))

nth-next : (p : List ℕ) (j i m : ℕ) → opens p i ≡ true → Nth p j (i + 1) m → Nth p (j + 1) i m
nth-next p j i m e x =
    let h = x.low in
    let c = rw e at (counted-on p i m (omega arith)) in
    let d = x.counted in
    record { low = omega arith; opened = x.opened; counted = omega arith }

nth_past : (p : List ℕ) (j i m : ℕ) → opens p i ≡ false → Nth p j (i + 1) m → Nth p j i m
nth_past p j i m e x =
    let h = x.low in
    let c = rw e at (counted-on p i m (omega arith)) in
    let d = x.counted in
    record { low = omega arith; opened = x.opened; counted = omega arith }

-- ---- what is found is it

from-nth : (p : List ℕ) (k j i m : ℕ) → (j ≡ 0 → ⊥) → opening_from p j i k ≡ m → m < i + k → Nth p j i m
unfolding opening_from
from-nth p zero j i m n e h = absurd (omega arith)
from-nth p (suc k) j i m n e h =
    by_tests (λ l. from-nth p k l (i + 1) m) (opens p i) (eqb j 1) refl refl e
  where
    by_tests : ((l : ℕ) → (l ≡ 0 → ⊥) → opening_from p l (i + 1) k ≡ m → m < i + 1 + k → Nth p l (i + 1) m)
        → (a b : Bool) → opens p i ≡ a → eqb j 1 ≡ b
        → cond a (cond b i (opening_from p (j - 1) (i + 1) k)) (opening_from p j (i + 1) k) ≡ m → Nth p j i m
    by_tests ih true true q r z =
        let o : j ≡ 1 = eqb-true j 1 r in
        let w = nth_here p i q in
        rw (o, ← z) w
    by_tests ih true false q r z =
        let o = eqb-false j 1 r in
        let w : j - 1 + 1 ≡ j = omega arith in
        rw (← w) (nth-next p (j - 1) i m q (ih (j - 1) (λ y. omega arith) z (omega arith)))
    by_tests ih false b q r z = nth_past p j i m q (ih j n z (omega arith))

-- ---- and it is found

nth-from : (p : List ℕ) (k j i m : ℕ) → Nth p j i m → m < i + k → opening_from p j i k ≡ m
unfolding opening_from how_many
nth-from p zero j i m x h = let l = x.low in absurd (omega arith)
nth-from p (suc k) j i m x h =
    either i m
    (λ l.
    by-test l (λ y. nth-from p k (j - 1) (i + 1) m y (omega arith)) (λ y. nth-from p k j (i + 1) m y (omega arith))
    (opens p i) refl (counted-on p i m l))
    (λ l.
    let low = x.low in
    let o : m ≡ i = omega arith in
    let z : m - i ≡ 0 = omega arith in
    let q : opens p i ≡ true = rw (← o) x.opened in
    let c : 1 ≡ j = rw z at x.counted in
    rw (q, eq-eqb j 1 (sym c)) (sym o))
  where
    by-test : i < m → (Nth p (j - 1) (i + 1) m → opening_from p (j - 1) (i + 1) k ≡ m)
        → (Nth p j (i + 1) m → opening_from p j (i + 1) k ≡ m) → (a : Bool) → opens p i ≡ a
        → how_many (opens p) i (m - i) ≡ cond a 1 0 + how_many (opens p) (i + 1) (m - (i + 1))
        → cond a (cond (eqb j 1) i (opening_from p (j - 1) (i + 1) k)) (opening_from p j (i + 1) k) ≡ m
    by-test l take pass true q c =
        let d = x.counted in
        rw (ne_eqb j 1 (λ y. omega arith)) (take (record { low = omega arith; opened = x.opened; counted = omega arith }))
    by-test l take pass false q c =
        let d = x.counted in
        pass (record { low = omega arith; opened = x.opened; counted = omega arith })

-- ---- the laws

from-to : (p : List ℕ) (k j i : ℕ) → opening_from p j i k ≤ i + k
unfolding opening_from
from-to p zero j i = omega arith
from-to p (suc k) j i = by_tests (opens p i) (eqb j 1) (from-to p k (j - 1) (i + 1)) (from-to p k j (i + 1))
  where
    by_tests : (a b : Bool) → opening_from p (j - 1) (i + 1) k ≤ i + 1 + k → opening_from p j (i + 1) k ≤ i + 1 + k
        → cond a (cond b i (opening_from p (j - 1) (i + 1) k)) (opening_from p j (i + 1) k) ≤ i + suc k
    by_tests true true g h = omega arith
    by_tests true false g h = omega arith
    by_tests false b g h = omega arith

pub opening-to : (p : List ℕ) (j : ℕ) → opening_of p j ≤ records_of p
opening-to p j = by_zero (eqb j 0) refl
  where
    by_zero : (b : Bool) → eqb j 0 ≡ b → opening_of p j ≤ records_of p
    by_zero true q = let e = code-zero p j (eqb-true j 0 q) in omega arith
    by_zero false q =
        let e = counted-from p j (eqb-false j 0 q) in
        let h = from-to p (records_of p) j 0 in
        omega arith

pub opening-exactly : OpeningExactly
opening-exactly p j i h = (by_zero (eqb j 0) refl, back)
  where
    counted-all : Nth p j 0 i → Opening p j i
    counted-all x =
        let z : i - 0 ≡ i = omega arith in
        record { there = h; opened = x.opened; counted = rw z at x.counted }

    by_zero : (b : Bool) → eqb j 0 ≡ b → opening_of p j ≡ i → Opening p j i
    by_zero true q e = let z = code-zero p j (eqb-true j 0 q) in absurd (omega arith)
    by_zero false q e =
        let n = eqb-false j 0 q in
        counted-all (from-nth p (records_of p) j 0 i n (sym (counted-from p j n) ∙ e) (omega arith))

    back : Opening p j i → opening_of p j ≡ i
    back x =
        let c = x.counted in
        let z : i - 0 ≡ i = omega arith in
        counted-from p j (λ y. omega arith)
        ∙ nth-from p (records_of p) j 0 i
        (record { low = omega arith; opened = x.opened; counted = rw z x.counted }) (omega arith)

pub no-opening : NoOpening
no-opening p j = (
  λ e i x. let q = (opening-exactly p j i x.there).1 x in let h = x.there in absurd (omega arith),
  λ none.
      let t = opening-to p j in
      either (opening_of p j) (records_of p)
      (λ h. absurd (none (opening_of p j) ((opening-exactly p j (opening_of p j) h).0 refl)))
      (λ h. omega arith),
)
