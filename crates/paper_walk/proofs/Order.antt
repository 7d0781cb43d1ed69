-- The order of a walk: after q lines and r columns more it stands at line q + 1, column r + 1; behind the last line it is
-- done, and stays so.
-- Assumes nothing.
use Prim.Native.Nat.{ℕ, zero, suc, ◌+◌, ◌-◌, ◌*◌, ◌/◌, ◌%◌, ◌<◌, ◌≤◌}
use mathlib.Core.Path.{◌≡◌, refl, sym, ap, ◌∙◌}
use mathlib.Core.Bool.{Bool, true, false}
use mathlib.Core.List.{List}
use mathlib.Core.Logic.{⊎_elim}
use native.Mathlib.Nat.{zero-mul, mul-zero, add-zero, zero-add, add-suc, suc-mul}
use native.Mathlib.Nat.{div-add-mod', mod-lt, div-lt_iff_lt-mul}
use native.Mathlib.Omega.{arith}
use lib.Dec.{ltb}
use borrow.Author.Tests.{ltb-true, ltb-false}
use Rattle.paper_number.specs.declared.types.FieldRead.{FieldRead}
use Rattle.paper_record.specs.declared.types.LineNo.{LineNo}
use Rattle.paper_record.specs.declared.types.RecordNo.{RecordNo}
use Rattle.paper_questions.specs.declared.types.Shape.{Shape}
use Rattle.paper_walk.specs.declared.types.Walk.{Walk}
use Rattle.paper_walk.specs.declared.types.Step.{Step}
use Rattle.std.specs.Prelude.{None}
use Rattle.paper_walk.specs.Walk.{line_no, walk_from, stands, placed_at, onward, step_of, after, given_at, at_place}
use Rattle.paper_walk.specs.Claims.{PlaceIn, places_before, field_there, Fits, Standing, AnyEnds, AnyGives, AnyOnce}
use Rattle.paper_walk.specs.Claims.{WalkOrder}
use Rattle.paper_walk.proofs.Standing.{standing, stands_at, stands-below}
use Rattle.paper_walk.proofs.Steps.{step-on, step-done, onward-right, onward-below, not_done, same_place}
use Rattle.paper_walk.proofs.Turns.{earlier, beside, turned, turn-before}

-- ---- many steps

none_yet : (s : List ℕ) (w : Walk) → after s w 0 ≡ w
unfolding after
none_yet s w = refl

one_more : (s : List ℕ) (w : Walk) (i : ℕ) (x : Walk) → after s w i ≡ x → after s w (suc i) ≡ (step_of s x).walk
unfolding after
one_more s w i x e = ap (λ (z : Walk). (step_of s z).walk) e

-- k steps, and then i
further : (s : List ℕ) (w : Walk) (k i : ℕ) → after s (after s w k) i ≡ after s w (k + i)
further s w k zero = none_yet s (after s w k) ∙ sym (ap (after s w) (add-zero k))
further s w k (suc i) =
    one_more s (after s w k) i (after s w (k + i)) (further s w k i)
    ∙ sym (one_more s w (k + i) (after s w (k + i)) refl)
    ∙ sym (ap (after s w) (add-suc k i))

-- "then saying it is done and staying so"
still : (s : List ℕ) (w : Walk) (i : ℕ) (x : Walk) → stands x ≡ false → after s w i ≡ x → (j : ℕ)
    → after s w (i + j) ≡ x
still s w i x h e zero = ap (after s w) (add-zero i) ∙ e
still s w i x h e (suc j) =
    ap (after s w) (add-suc i j)
    ∙ one_more s w (i + j) x (still s w i x h e j)
    ∙ ap (λ (z : Step). z.walk) (step-done s x h)

-- a walk that does not stand gives nothing, and stays so
pub never : (s : List ℕ) (w : Walk) → stands w ≡ false → (i : ℕ) → given_at s w i ≡ None
never s w h i =
    ap (λ (z : Walk). (step_of s z).given) (sym (ap (after s w) (zero-add i)) ∙ still s w 0 w h (none_yet s w) i)
    ∙ ap (λ (z : Step). z.given) (step-done s w h)

line-longer : (a c : ℕ) → 0 < c → a + c ≡ suc (a + (c - 1))
line-longer a c h = omega arith

some-factor : (a c i : ℕ) → i < a * c → 0 < c
some-factor a zero i h = absurd (omega (arith, mul-zero a))
some-factor a (suc c) i h = omega arith

-- ---- a walk over a whole table, from its first place

module _ (s : List ℕ) (w : Walk) (fits : Fits w) where
  abbrev c : ℕ
  c = w.columns

  abbrev at : ℕ → ℕ → Walk
  at q r = placed_at w (line_no (q + 1)) (r + 1)

  abbrev first : Walk
  first = placed_at w (line_no 1) 1

  place : (q r : ℕ) → q < w.lines → r < c → PlaceIn w (line_no (q + 1)) (r + 1)
  place q r h l =
      record { line_from = omega arith; line_to = omega arith; column_from = omega arith; column_to = omega arith }

  next : (i q r : ℕ) → q < w.lines → r < c → after s first i ≡ at q r → after s first (suc i) ≡ onward (at q r)
  next i q r h l e =
      one_more s first i (at q r) e
      ∙ ap (λ (z : Step). z.walk)
      (step-on s (at q r) (stands_at w fits (line_no (q + 1)) (r + 1) (place q r h l)))

  -- left to right
  along : (q : ℕ) → q < w.lines → after s first (q * c) ≡ at q 0 → (r : ℕ) → r < c
      → after s first (q * c + r) ≡ at q r
  along q h e zero l = ap (after s first) (add-zero (q * c)) ∙ e
  along q h e (suc r) l =
      let o : r < c = omega arith in
      let i : r + 1 + 1 ≡ suc r + 1 = omega arith in
      ap (after s first) (add-suc (q * c) r)
      ∙ next (q * c + r) q r h o (along q h e r o)
      ∙ onward-right w (line_no (q + 1)) (r + 1) (omega arith)
      ∙ ap (placed_at w (line_no (q + 1))) i

  -- line by line
  down : (q : ℕ) → q ≤ w.lines → 0 < c → after s first (q * c) ≡ at q 0
  down zero h l = ap (after s first) (zero-mul c) ∙ none_yet s first
  down (suc q) h l =
      let i : suc q * c ≡ suc (q * c + (c - 1)) = suc-mul q c ∙ line-longer (q * c) c l in
      let j : q + 1 + 1 ≡ suc q + 1 = omega arith in
      ap (after s first) i
      ∙ next (q * c + (c - 1)) q (c - 1) (omega arith) (omega arith)
      (along q (omega arith) (down q (omega arith) l) (c - 1) (omega arith))
      ∙ onward-below w (line_no (q + 1)) (c - 1 + 1) (omega arith)
      ∙ ap (λ (z : ℕ). placed_at w (line_no z) 1) j

  -- each place is reached in its turn
  reached : (line : LineNo) (column : ℕ) → PlaceIn w line column
      → after s first (places_before w line column) ≡ placed_at w line column
  reached line column p =
      let h : line.0 - 1 < w.lines = omega (arith, p.line_from, p.line_to) in
      let l : column - 1 < c = omega (arith, p.column_from, p.column_to) in
      let i : line.0 - 1 + 1 ≡ line.0 = omega (arith, p.line_from) in
      let j : column - 1 + 1 ≡ column = omega (arith, p.column_from) in
      along (line.0 - 1) h (down (line.0 - 1) (omega arith) (omega arith)) (column - 1) l
      ∙ ap (λ (z : ℕ). placed_at w (line_no z) (column - 1 + 1)) i
      ∙ ap (placed_at w line) j

  -- and given
  gives : (line : LineNo) (column : ℕ) → PlaceIn w line column
      → given_at s first (places_before w line column) ≡ at_place line column (field_there s w line column)
  gives line column p =
      ap (λ (z : Walk). (step_of s z).given) (reached line column p)
      ∙ ap (λ (z : Step). z.given) (step-on s (placed_at w line column) (stands_at w fits line column p))

  ends : 0 < c → (j : ℕ) → given_at s first (w.lines * c + j) ≡ None
  ends l j =
      let below = placed_at w (line_no (w.lines + 1)) 1 in
      ap (λ (z : Walk). (step_of s z).given)
      (still s first (w.lines * c) below (stands-below w) (down w.lines (omega arith) l) j)
      ∙ ap (λ (z : Step). z.given) (step-done s below (stands-below w))

-- ---- any walk that stands is such a walk some steps on

module _ (s : List ℕ) (w : Walk) (t : Standing w) where
  abbrev own : ℕ
  own = places_before w w.line w.column

  abbrev start : Walk
  start = placed_at w (line_no 1) 1

  later : (i : ℕ) → after s w i ≡ after s start (own + i)
  later i =
      ap (λ (z : Walk). after s z i) (sym (reached s w t.fits w.line w.column t.place))
      ∙ further s start own i

  later-given : (i : ℕ) → given_at s w i ≡ given_at s start (own + i)
  later-given i = ap (λ (z : Walk). (step_of s z).given) (later i)

swapped : (k m j : ℕ) → k + (m + j) ≡ m + (k + j)
swapped k m j = omega arith

pub any-ends : AnyEnds
any-ends s w j = by-test (stands w) refl
  where
    by-test : (t : Bool) → stands w ≡ t → given_at s w (w.lines * w.columns + j) ≡ None
    by-test false e = never s w e (w.lines * w.columns + j)
    by-test true e =
        let t = standing w e in
        let p = t.place in
        let k = places_before w w.line w.column in
        let m = w.lines * w.columns in
        later-given s w t (m + j)
        ∙ ap (given_at s (placed_at w (line_no 1) 1)) (swapped k m j)
        ∙ ends s w t.fits (omega (arith, p.column_from, p.column_to)) (k + j)

pub any-gives : AnyGives
any-gives s w t line column p i e =
    later-given s w t i ∙ ap (given_at s (placed_at w (line_no 1) 1)) e ∙ gives s w t.fits line column p

-- ---- in no other turn

module _ (s : List ℕ) (w : Walk) (fits : Fits w) where
  once : (i : ℕ) (line : LineNo) (column : ℕ) (field : FieldRead)
      → given_at s (placed_at w (line_no 1) 1) i ≡ at_place line column field
      → (i ≡ places_before w line column) × PlaceIn w line column
  once i line column field g = by-test (ltb i (w.lines * w.columns)) refl
    where
      by-test : (t : Bool) → ltb i (w.lines * w.columns) ≡ t
          → (i ≡ places_before w line column) × PlaceIn w line column
      by-test false k =
          let l : w.lines * w.columns ≤ i = ltb-false i (w.lines * w.columns) k in
          let j : w.lines * w.columns + (i - w.lines * w.columns) ≡ i = omega arith in
          let d : given_at s (placed_at w (line_no 1) 1) i ≡ None =
          rw j at (any-ends s (placed_at w (line_no 1) 1) (i - w.lines * w.columns)) in
          not_done line column field (sym g ∙ d)
      by-test true k =
          let q = i / w.columns in
          let r = i % w.columns in
          let l : i < w.lines * w.columns = ltb-true i (w.lines * w.columns) k in
          let h : 0 < w.columns = some-factor w.lines w.columns i l in
          let a : q < w.lines = (div-lt_iff_lt-mul h).1 l in
          let b : r < w.columns = mod-lt i h in
          let j : q * w.columns + r ≡ i = div-add-mod' i w.columns in
          let p : PlaceIn w (line_no (q + 1)) (r + 1) =
          record { line_from = omega arith; line_to = omega arith; column_from = omega arith; column_to = omega arith } in
          let u : q + 1 - 1 ≡ q = omega arith in
          let v : r + 1 - 1 ≡ r = omega arith in
          let e = rw (u, v, j) at (gives s w fits (line_no (q + 1)) (r + 1) p) in
          let (y, (z, _)) = same_place (line_no (q + 1)) line (r + 1) column _ field (sym e ∙ g) in
          rw (← y, ← z) (rw (u, v) (sym j), p)

-- a walk that gives a place stands
given-standing : (s : List ℕ) (w : Walk) (i : ℕ) (line : LineNo) (column : ℕ) (field : FieldRead)
    → given_at s w i ≡ at_place line column field → Standing w
given-standing s w i line column field g = by-test (stands w) refl
  where
    by-test : (t : Bool) → stands w ≡ t → Standing w
    by-test true e = standing w e
    by-test false e = not_done line column field (sym g ∙ never s w e i)

pub any-once : AnyOnce
any-once s w i line column field g =
    let t = given-standing s w i line column field g in
    once s w t.fits (places_before w w.line w.column + i) line column field (sym (later-given s w t i) ∙ g)

-- what is given of a place is what the field there says
pub given-field : (s : List ℕ) (w : Walk) (i : ℕ) (line : LineNo) (column : ℕ) (field : FieldRead)
    → given_at s w i ≡ at_place line column field → field ≡ field_there s w line column
given-field s w i line column field g =
    let t = given-standing s w i line column field g in
    let (e, p) = any-once s w i line column field g in
    let (_, (_, same)) = same_place line line column column _ _ (sym (any-gives s w t line column p i e) ∙ g) in
    sym same

-- ---- "left to right and line by line"

pub walk-order : WalkOrder
walk-order s w i j line line2 column column2 field field2 g h =
    let (e, p) = any-once s w i line column field g in
    let (f, q) = any-once s w j line2 column2 field2 h in
    let c = w.columns in
    let k = places_before w w.line w.column in
    let (there, back) = turn-before k i j (places_before w line column) (places_before w line2 column2) e f in (
      λ o.
          turned c line.0 line2.0 column column2 p.line_from q.line_from p.column_from p.column_to
          q.column_from q.column_to (there o),
      λ b.
          back
          (⊎_elim
          (earlier c line.0 line2.0 column column2 p.line_from q.line_from p.column_from p.column_to
          q.column_from q.column_to)
          (λ x.
          beside c line.0 line2.0 column column2 p.line_from q.line_from p.column_from p.column_to
          q.column_from q.column_to x.0 x.1) b),
    )

-- ---- the walk that is made for a table: it begins at the first place

module _ (s : List ℕ) (own : RecordNo) (shape : Shape) (fits : Fits (walk_from own shape)) where
  abbrev walk : Walk
  walk = walk_from own shape

  pub gives-each : (line : LineNo) (column : ℕ) → PlaceIn walk line column
      → given_at s walk (places_before walk line column) ≡ at_place line column (field_there s walk line column)
  gives-each line column p = gives s walk fits line column p

  pub gives-once : (i : ℕ) (line : LineNo) (column : ℕ) (field : FieldRead) → given_at s walk i ≡ at_place line column field
      → (i ≡ places_before walk line column) × PlaceIn walk line column
  gives-once i line column field g = once s walk fits i line column field g
