-- Which record is due: the judge's role, and the identifier that the record bears. A run of records that all have one
-- role.
-- Assumes nothing; what a run has to satisfy stands in the section's parameters.
use Prim.Native.Nat.{ℕ, zero, suc}
use mathlib.Core.Path.{◌≡◌, refl, sym, ◌∙◌, ap}
use mathlib.Core.Bool.{Bool, true, false, cond}
use mathlib.Core.List.{List, [], ◌∷◌, ◌++◌}
use native.Mathlib.Omega.{arith}
use lib.Dec.{eqb}
use lib.ListN.{length}
use borrow.Author.Tests.{eqb-true, eq-eqb, ne_eqb}
use Rattle.laws.proofs.Booleans.{differ}
use Rattle.paper_record.proofs.ReadColumns.{field-of}
use Rattle.paper_rules.specs.declared.types.Phase.{Phase}
use Rattle.paper_rules.specs.State.{Context}
use Rattle.paper_rules.specs.Roles.{NOT-DUE}
use Rattle.paper_rules.specs.Role.{only, role_in, either as one_of}
use Rattle.paper_entry.specs.Judging.{role_of}
use Rattle.paper_entry.specs.Verdict.{is_done}
use Rattle.good.specs.Parts.{Record}
use Rattle.good.specs.Marks.{name_of}
use Rattle.good.proofs.Steps.{Takes, next, Passes, takes-due, pass-next, next-pass}

-- ---- a single record

pub role-at : (c : Context) (p : Phase) (r : Record) → c.phase ≡ p → role_of c r ≡ role_in p c.track (name_of r)
role-at c p r e = rw (e, field-of r 0 (omega arith))

only-due : (a k : ℕ) → eqb (only a k) NOT-DUE ≡ false → k ≡ a
only-due a k e = by-test (eqb k a) refl e
  where
    by-test : (t : Bool) → eqb k a ≡ t → eqb (cond t a NOT-DUE) NOT-DUE ≡ false → k ≡ a
    by-test true q h = eqb-true k a q
    by-test false q h = differ h

pub only-role : (a k : ℕ) → k ≡ a → only a k ≡ a
only-role a k e = rw (eq-eqb k a e)

either-due : {X : Type 0} (a b k : ℕ) → eqb (one_of a b k) NOT-DUE ≡ false → (k ≡ a → X) → (k ≡ b → X) → X
either-due {X} a b k e left right = by-test (eqb k a) refl e
  where
    by-test : (t : Bool) → eqb k a ≡ t → eqb (cond t a (only b k)) NOT-DUE ≡ false → X
    by-test true q h = left (eqb-true k a q)
    by-test false q h = right (only-due b k h)

pub either_left : (a b k : ℕ) → k ≡ a → one_of a b k ≡ a
either_left a b k e = rw (eq-eqb k a e)

pub either-right : (a b k : ℕ) → (a ≡ b → ⊥) → k ≡ b → one_of a b k ≡ b
either-right a b k n e = rw (ne_eqb k a (λ q. n (sym q ∙ e)), eq-eqb k b e)

-- what a walk that begins with this record, in this role, gives
pub record Step (c : Context) (role : ℕ) (r : Record) (rs : List Record) (z : Context) : Type 0 where
  pub named : name_of r ≡ role
  pub takes : Takes c role r
  pub passes : Passes (next c role r) rs z

pub due : (c : Context) (r : Record) (rs : List Record) (z : Context) → Passes c (r ∷ rs) z
    → eqb (role_of c r) NOT-DUE ≡ false
unfolding Passes
due c r rs z p = takes-due c (role_of c r) r p.0

pub stepped : (c : Context) (a : ℕ) (r : Record) (rs : List Record) (z : Context) → role_of c r ≡ a → name_of r ≡ a
    → Passes c (r ∷ rs) z → Step c a r rs z
stepped c a r rs z e n p = let h = pass-next c a r rs z e p in record { named = n; takes = h.0; passes = h.1 }

pub pass-only : (c : Context) (a : ℕ) (r : Record) (rs : List Record) (z : Context)
    → role_of c r ≡ only a (name_of r) → Passes c (r ∷ rs) z → Step c a r rs z
pass-only c a r rs z e p =
    let n = only-due a (name_of r) (rw e at (due c r rs z p)) in
    stepped c a r rs z (e ∙ only-role a (name_of r) n) n p

pub pass-either : {X : Type 0} (c : Context) (a b : ℕ) (r : Record) (rs : List Record) (z : Context) → (a ≡ b → ⊥)
    → role_of c r ≡ one_of a b (name_of r) → Passes c (r ∷ rs) z → (Step c a r rs z → X) → (Step c b r rs z → X) → X
pass-either c a b r rs z ne e p left right =
    either-due a b (name_of r) (rw e at (due c r rs z p))
    (λ n. left (stepped c a r rs z (e ∙ either_left a b (name_of r) n) n p))
    (λ n. right (stepped c b r rs z (e ∙ either-right a b (name_of r) ne n) n p))

-- the records do not end before ENDENTRY
pub ended : {X : Type 0} (c z : Context) → is_done c.phase ≡ false → is_done z.phase ≡ true → Passes c [] z → X
unfolding Passes
ended c z a b p = differ (sym b ∙ ap (λ (d : Context). is_done d.phase) (sym p) ∙ a)

pub rest_of : {X : Type 0} (c : Context) (rs : List Record) (z : Context) → is_done c.phase ≡ false
    → is_done z.phase ≡ true → Passes c rs z
    → ((r : Record) (ts : List Record) → rs ≡ r ∷ ts → Passes c (r ∷ ts) z → X) → X
rest_of c [] z a b p k = ended c z a b p
rest_of c (r ∷ rs) z a b p k = k r rs refl p

-- ---- a run of records with one role

-- Inside a section the counts decide how many records of one role are due. `Left c n` says that n are still due; from a
-- walk so many are cut off its front, and records that fit lead to a walk.

unfoldable pub Run : (Record → Type 0) → ℕ → Context → List Record → Type 0
Run P role c [] = Unit
Run P role c (r ∷ rs) = P r × Takes c role r × Run P role (next c role r) rs

unfoldable pub after_run : ℕ → Context → List Record → Context
after_run role c [] = c
after_run role c (r ∷ rs) = after_run role (next c role r) rs

-- n records of a run are still due; P is what their identifiers have to satisfy
module _ (P : Record → Type 0) (role : ℕ) (Left : Context → ℕ → Type 0)
    (going : (c : Context) (n : ℕ) → Left c (suc n) → is_done c.phase ≡ false)
    (told : (c : Context) (n : ℕ) (r : Record) → Left c (suc n) → eqb (role_of c r) NOT-DUE ≡ false → P r)
    (role_is : (c : Context) (n : ℕ) (r : Record) → Left c (suc n) → P r → role_of c r ≡ role)
    (moves : (c : Context) (n : ℕ) (r : Record) → Left c (suc n) → Takes c role r → Left (next c role r) n) where
  pub pass-run : {X : Type 0} (n : ℕ) (c : Context) (rs : List Record) (z : Context) → Left c n
      → is_done z.phase ≡ true → Passes c rs z
      → ((xs ys : List Record) → rs ≡ xs ++ ys → length xs ≡ n → Run P role c xs → Left (after_run role c xs) 0
      → Passes (after_run role c xs) ys z → X) → X
  unfolding Run after_run
  pass-run zero c rs z l d p k = k [] rs refl refl tt l p
  pass-run (suc n) c [] z l d p k = ended c z (going c n l) d p
  pass-run (suc n) c (r ∷ rs) z l d p k =
      let q = told c n r l (due c r rs z p) in
      let (t, p') = pass-next c role r rs z (role_is c n r l q) p in
      pass-run n (next c role r) rs z (moves c n r l t) d p'
      (λ xs ys e m run left passes. k (r ∷ xs) ys (ap (λ (w : List Record). r ∷ w) e) (ap suc m)
      (q, t, run) left passes)

  pub run-pass : (n : ℕ) (c : Context) (xs ys : List Record) (z : Context) → Left c n → length xs ≡ n
      → Run P role c xs → Passes (after_run role c xs) ys z → Passes c (xs ++ ys) z
  unfolding Run after_run
  run-pass n c [] ys z l e run p = p
  run-pass zero c (r ∷ xs) ys z l e run p = absurd (omega arith)
  run-pass (suc n) c (r ∷ xs) ys z l e run p =
      next-pass c role r (xs ++ ys) z (role_is c n r l run.0) run.1
      (run-pass n (next c role r) xs ys z (moves c n r l run.1) (omega arith) run.2 p)

  pub run-left : (n : ℕ) (c : Context) (xs : List Record) → Left c n → length xs ≡ n → Run P role c xs
      → Left (after_run role c xs) 0
  unfolding Run after_run
  run-left n c [] l e run = let z : n ≡ 0 = omega arith in rw z at l
  run-left zero c (r ∷ xs) l e run = absurd (omega arith)
  run-left (suc n) c (r ∷ xs) l e run =
      run-left n (next c role r) xs (moves c n r l run.1) (omega arith) run.2
