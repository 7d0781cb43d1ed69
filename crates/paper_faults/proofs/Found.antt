-- What is found, as a number and a column: the least of a table is found, and comes before all that is found.
-- Assumes nothing.
use Rattle.std.specs.Prelude.{Ok, Err}
use Prim.Native.Nat.{ℕ, zero, suc, ◌+◌, ◌<◌, ◌≤◌}
use mathlib.Core.Path.{◌≡◌, refl, sym, subst, ◌∙◌}
use mathlib.Core.Bool.{Bool, true, false, cond}
use mathlib.Core.List.{List, [], ◌∷◌, ◌++◌}
use mathlib.Core.Logic.{◌⊎◌, inl, inr}
use native.Mathlib.Omega.{arith}
use lib.ListN.{length, get_or}
use Rattle.laws.proofs.Booleans.{differ}
use Rattle.laws.proofs.Search.{either}
use Rattle.paper_faults.specs.Fault.{Columns, when, columns_from, leftmost, Finding, first_fault, Checked}
use Rattle.paper_faults.specs.Found.{Among, Found}
use Rattle.paper_faults.specs.Least.{Before, no_finding, Least, Nothing}
use Rattle.paper_faults.specs.Rising.{Sorted}
use Rattle.paper_faults.proofs.Least.{first-least}
use Rattle.paper_faults.proofs.FaultSaid.{first-nothing, both-before}

-- ---- by places

record PlaceOf (k : ℕ) (ks : Columns) : Type 0 where
  at : ℕ
  there : at < length ks
  is : get_or ks at 0 ≡ k

among-place : (k : ℕ) (ks : Columns) → Among k ks → PlaceOf k ks
among-place k [] h = absurd h
among-place k (j ∷ ks) (inl e) = record { at = 0; there = omega arith; is = e }
among-place k (j ∷ ks) (inr h) =
    let p = among-place k ks h in
    let l = p.there in
    record { at = suc p.at; there = omega arith; is = p.is }

leftmost-among : (k : ℕ) (ks : Columns) → 1 ≤ k → leftmost ks ≡ k → Among k ks
leftmost-among k [] h e = absurd (omega arith)
leftmost-among k (j ∷ ks) h e = inl e

record FindingOf (fs : List Finding) (n k : ℕ) : Type 0 where
  at : ℕ
  there : at < length fs
  is : (get_or fs at no_finding).number ≡ n
  among : Among k (get_or fs at no_finding).columns

found-place : (fs : List Finding) (n k : ℕ) → Found fs n k → FindingOf fs n k
found-place [] n k h = absurd h
found-place (f ∷ fs) n k (inl e) = record { at = 0; there = omega arith; is = e.0; among = e.1 }
found-place (f ∷ fs) n k (inr h) =
    let p = found-place fs n k h in
    let l = p.there in
    record { at = suc p.at; there = omega arith; is = p.is; among = p.among }

place_found : (fs : List Finding) (n k i : ℕ) → i < length fs → (get_or fs i no_finding).number ≡ n
    → Among k (get_or fs i no_finding).columns → Found fs n k
place_found [] n k i l e a = absurd (omega arith)
place_found (f ∷ fs) n k zero l e a = inl (e, a)
place_found (f ∷ fs) n k (suc i) l e a = inr (place_found fs n k i (omega arith) e a)

-- ---- the least, and nothing

pub least-found : (fs : List Finding) (n k : ℕ) → Least fs n k → Found fs n k
least-found fs n k l =
    place_found fs n k l.at l.there l.number
    (leftmost-among k (get_or fs l.at no_finding).columns l.some l.column)

pub least_first : (fs : List Finding) (n k m j : ℕ) → Least fs n k → Found fs m j → Before n k m j
least_first fs n k m j l h =
    let f = found-place fs m j h in
    let p = among-place j (get_or fs f.at no_finding).columns f.among in
    rw (f.is, p.is) at (l.least f.at p.at f.there p.there)

pub nothing-found : (fs : List Finding) (n k : ℕ) → Nothing fs → Found fs n k → ⊥
nothing-found fs n k none h =
    let f = found-place fs n k h in
    subst (λ (x : Columns). Among k x) (none f.at f.there) f.among

-- and the other way round: where no number and column is found, no rule finds anything
pub found_nothing : (fs : List Finding) → ((n k : ℕ) → Found fs n k → ⊥) → Nothing fs
found_nothing fs none i l = by-columns (get_or fs i no_finding).columns refl
  where
    by-columns : (ks : Columns) → (get_or fs i no_finding).columns ≡ ks → (get_or fs i no_finding).columns ≡ []
    by-columns [] e = e
    by-columns (k ∷ ks) e =
        absurd (none (get_or fs i no_finding).number k
        (place_found fs (get_or fs i no_finding).number k i l refl (rw e (inl refl))))

-- in a table by rising numbers, what is found before all that is found is the least
pub found-least : {most last a : ℕ} (fs : List Finding) → Sorted most last a fs → (n k : ℕ) → Found fs n k
    → ((m j : ℕ) → Found fs m j → Before n k m j) → Least fs n k
found-least {a = a} fs rising n k h first = by-fault (first_fault fs) refl
  where
    by-fault : (x : Checked) → first_fault fs ≡ x → Least fs n k
    by-fault (Ok u) e = absurd (nothing-found fs n k (first-nothing fs rising e) h)
    by-fault (Err fault) e =
        let l = first-least a fs rising fault.number fault.column e in
        let (p, q) = both-before n k fault.number fault.column (first fault.number fault.column (least-found fs fault.number fault.column l)) (least_first fs fault.number fault.column n k l h) in
        rw (p, q) l

-- ---- the column of one test, columns before others, places that meet a test

pub among-when : (b : Bool) (j k : ℕ) → Among k (when b j) → (b ≡ true) × (j ≡ k)
among-when true j k (inl e) = (refl, e)
among-when true j k (inr h) = absurd h
among-when false j k h = absurd h

pub when-among : (b : Bool) (k : ℕ) → b ≡ true → Among k (when b k)
when-among b k e = rw e (inl refl)

pub among-append : (k : ℕ) (xs ys : Columns) → Among k (xs ++ ys) → Among k xs ⊎ Among k ys
among-append k [] ys h = inr h
among-append k (x ∷ xs) ys (inl e) = inl (inl e)
among-append k (x ∷ xs) ys (inr h) = by_part (among-append k xs ys h)
  where
    by_part : Among k xs ⊎ Among k ys → Among k (x ∷ xs) ⊎ Among k ys
    by_part (inl a) = inl (inr a)
    by_part (inr a) = inr a

pub append_left : (k : ℕ) (xs ys : Columns) → Among k xs → Among k (xs ++ ys)
append_left k [] ys h = absurd h
append_left k (x ∷ xs) ys (inl e) = inl e
append_left k (x ∷ xs) ys (inr h) = inr (append_left k xs ys h)

pub append_right : (k : ℕ) (xs ys : Columns) → Among k ys → Among k (xs ++ ys)
append_right k [] ys h = h
append_right k (x ∷ xs) ys h = inr (append_right k xs ys h)

-- a place from i on, n of them, whose test holds
pub record Met (test : ℕ → Bool) (column : ℕ → ℕ) (i n k : ℕ) : Type 0 where
  pub place : ℕ
  pub from : i ≤ place
  pub to : place < i + n
  pub holds : test place ≡ true
  pub is : column place ≡ k

module _ (test : ℕ → Bool) (column : ℕ → ℕ) where
  later : (i n k : ℕ) → Met test column (i + 1) n k → Met test column i (suc n) k
  later i n k m =
      let a = m.from in
      let b = m.to in
      record { place = m.place; from = omega arith; to = omega arith; holds = m.holds; is = m.is }

  pub among-from : (i n k : ℕ) → Among k (columns_from test column i n) → Met test column i n k
  unfolding columns_from
  among-from i zero k h = absurd h
  among-from i (suc n) k h = by-test (test i) refl h (among-from (i + 1) n k)
    where
      by-test : (b : Bool) → test i ≡ b
          → Among k (cond b (column i ∷ columns_from test column (i + 1) n) (columns_from test column (i + 1) n))
          → (Among k (columns_from test column (i + 1) n) → Met test column (i + 1) n k) → Met test column i (suc n) k
      by-test true e (inl z) next = record { place = i; from = omega arith; to = omega arith; holds = e; is = z }
      by-test true e (inr h) next = later i n k (next h)
      by-test false e h next = later i n k (next h)

  pub from-among : (i n k : ℕ) → Met test column i n k → Among k (columns_from test column i n)
  unfolding columns_from
  from-among i zero k m = let a = m.from in let b = m.to in absurd (omega arith)
  from-among i (suc n) k m =
      let a = m.from in
      let b = m.to in
      by-test (test i) refl
      (λ l. from-among (i + 1) n k
      (record { place = m.place; from = l; to = omega arith; holds = m.holds; is = m.is }))
    where
      here : i ≡ m.place → (test i ≡ true) × (column i ≡ k)
      here e = rw e (m.holds, m.is)

      by-test : (t : Bool) → test i ≡ t → (i + 1 ≤ m.place → Among k (columns_from test column (i + 1) n))
          → Among k (cond t (column i ∷ columns_from test column (i + 1) n) (columns_from test column (i + 1) n))
      by-test true e next =
          let a = m.from in
          either i m.place (λ l. inr (next (omega arith))) (λ l. inl (here (omega arith)).1)
      by-test false e next =
          let a = m.from in
          either i m.place (λ l. next (omega arith)) (λ l. differ (sym (here (omega arith)).0 ∙ e))
