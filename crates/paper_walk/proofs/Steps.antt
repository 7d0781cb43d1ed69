-- One step of a walk: where it stands, the field there and the walk at the next place; else it is done and stays.
-- Assumes nothing.
use Prim.Native.Nat.{ℕ, zero, suc, ◌+◌, ◌<◌, ◌≤◌}
use mathlib.Core.Path.{◌≡◌, refl, sym, ap, ◌∙◌}
use mathlib.Core.Bool.{Bool, true, false, cond}
use mathlib.Core.List.{List}
use native.Mathlib.Omega.{arith}
use lib.Dec.{ltb}
use borrow.Author.Tests.{lt-ltb, le-ltb}
use Rattle.std.proofs.lemmas.Option.{same_Some}
use Rattle.paper_number.specs.declared.types.FieldRead.{FieldRead}
use Rattle.paper_record.specs.declared.types.LineNo.{LineNo}
use Rattle.paper_walk.specs.declared.types.Walk.{Walk}
use Rattle.paper_walk.specs.declared.types.Step.{Step}
use Rattle.paper_walk.specs.declared.types.Given.{Given}
use Rattle.std.specs.Prelude.{Option, None}
use Rattle.paper_walk.specs.Walk.{line_no, stands, placed_at, onward, step_of, after, at_place}
use Rattle.paper_walk.specs.Claims.{field_there, Standing, AnyExactly, DoneStays, WalkKeeps}
use Rattle.paper_walk.proofs.Standing.{standing, stands_at}

-- ---- where the walk stands, and where it does not

module _ (s : List ℕ) (w : Walk) where
  abbrev here : Option Given
  here = at_place w.line w.column (field_there s w w.line w.column)

  pub step-on : stands w ≡ true → ◌≡◌ {A = Step} (step_of s w) (record { walk = onward w; given = here })
  unfolding step_of
  step-on h = rw h refl

  pub step-done : stands w ≡ false → ◌≡◌ {A = Step} (step_of s w) (record { walk = w; given = None })
  unfolding step_of
  step-done h = rw h refl

-- left to right, and line by line
module _ (w : Walk) (line : LineNo) (column : ℕ) where
  abbrev to : Bool → Walk
  to right = cond right (placed_at w line (column + 1)) (placed_at w (line_no (line.0 + 1)) 1)

  pub onward-right : column < w.columns → onward (placed_at w line column) ≡ placed_at w line (column + 1)
  unfolding onward
  onward-right h = ap to (lt-ltb column w.columns h)

  pub onward-below : w.columns ≤ column → onward (placed_at w line column) ≡ placed_at w (line_no (line.0 + 1)) 1
  unfolding onward
  onward-below h = ap to (le-ltb column w.columns h)

-- ---- exactly where it stands something is given

pub not_done : {X : Type 0} (line : LineNo) (column : ℕ) (field : FieldRead) → at_place line column field ≡ None → X
not_done line column field e = let z : ◌≡◌ {A = ℕ} 0 1 = cc in absurd (omega arith)

-- the same is given at the same place only
pub same_place : (line line2 : LineNo) (column column2 : ℕ) (field field2 : FieldRead)
    → at_place line column field ≡ at_place line2 column2 field2
    → (line ≡ line2) × ((column ≡ column2) × (field ≡ field2))
same_place line line2 column column2 field field2 e =
    let one : ◌≡◌ {A = Given} (record { line = line; column = column; field = field })
    (record { line = line2; column = column2; field = field2 }) = same_Some _ _ e in
    (ap (λ (g : Given). g.line) one, (ap (λ (g : Given). g.column) one, ap (λ (g : Given). g.field) one))

module _ (s : List ℕ) (w : Walk) where
  stands-given : ((step_of s w).given ≡ None → ⊥) → Standing w
  stands-given some = by-test (stands w) refl
    where
      by-test : (t : Bool) → stands w ≡ t → Standing w
      by-test true e = standing w e
      by-test false e = absurd (some (ap (λ (z : Step). z.given) (step-done s w e)))

  standing-given : Standing w → (step_of s w).given ≡ None → ⊥
  standing-given t d =
      let e = step-on s w (stands_at w t.fits w.line w.column t.place) in
      not_done w.line w.column (field_there s w w.line w.column)
      (sym (ap (λ (z : Step). z.given) e) ∙ d)

pub any-exactly : AnyExactly
any-exactly s w = (stands-given s w, standing-given s w)

-- ---- what stays

pub done-stays : DoneStays
done-stays s w d = by-test (stands w) refl
  where
    by-test : (t : Bool) → stands w ≡ t → (step_of s w).walk ≡ w
    by-test true e = absurd (standing-given s w (standing w e) d)
    by-test false e = ap (λ (z : Step). z.walk) (step-done s w e)

-- the walk at a place of its own
abbrev kept : Walk → Walk → Type 0
kept w v = v ≡ placed_at w v.line v.column

onward-kept : (w : Walk) → kept w (onward w)
unfolding onward
onward-kept w = by-test (ltb w.column w.columns)
  where
    by-test : (t : Bool)
        → kept w (cond t (placed_at w w.line (w.column + 1)) (placed_at w (line_no (w.line.0 + 1)) 1))
    by-test true = refl
    by-test false = refl

step_kept : (s : List ℕ) (w : Walk) → kept w (step_of s w).walk
step_kept s w = by-test (stands w) refl
  where
    by-test : (t : Bool) → stands w ≡ t → kept w (step_of s w).walk
    by-test true e = rw (step-on s w e) (onward-kept w)
    by-test false e = rw (step-done s w e) refl

after_kept : (s : List ℕ) (w : Walk) (i : ℕ) → kept w (after s w i)
unfolding after
after_kept s w zero = refl
after_kept s w (suc i) =
    let v = (step_of s (after s w i)).walk in
    step_kept s (after s w i) ∙ ap (λ (z : Walk). placed_at z v.line v.column) (after_kept s w i)

pub walk-keeps : WalkKeeps
walk-keeps s w i =
    let e = after_kept s w i in (
      ap (λ (z : Walk). z.answer) e,
      (ap (λ (z : Walk). z.section) e, (ap (λ (z : Walk). z.columns) e, ap (λ (z : Walk). z.lines) e)),
    )
