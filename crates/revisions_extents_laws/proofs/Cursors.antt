-- From number to number through an accepted entry: what a cursor meets is the subentry of that number.
-- Assumes nothing.
use Prim.Native.Nat.{ℕ, ◌+◌, ◌-◌, ◌<◌, ◌≤◌}
use mathlib.Core.Path.{◌≡◌, refl, sym, ap, ◌∙◌}
use mathlib.Core.Bool.{Bool, true, false}
use mathlib.Core.List.{List}
use native.Mathlib.Omega.{arith}
use borrow.Author.Tests.{eqb-true, eqb-false, lt-ltb, le-ltb, le-leb, not-true, not-false}
use lib.Dec.{ltb}
use Rattle.laws.proofs.Booleans.{differ, and_both}
use Rattle.laws.proofs.Search.{either, first-from, first_to}
use Rattle.laws.proofs.Counting.{first-before, first_holds}
use Rattle.paper_entry.specs.Judging.{Accepted}
use Rattle.paper_revisions.specs.Extents.{records_of, subentry_at, is_of, is_other, first_saying, past_from, extent_of, has}
use Rattle.revisions_extents_laws.specs.Order.{ExtentInner, ExtentsInOrder, Cursor, CursorStarts}
use Rattle.revisions_extents_laws.specs.Order.{CursorMoves, CursorEnds, CursorMeets}
use Rattle.revisions_extents_laws.proofs.Columns.{records-some, said-entry, said-inner, said-most, said-last}
use Rattle.revisions_extents_laws.proofs.Extents.{from_is, past_is, extent-only, has-bounds, said-upto, whole_of}
use Rattle.revisions_extents_laws.proofs.Laid.{from_in, past-in}

pub extent-inner : ExtentInner
extent-inner s a n h = let l = past-in s a n h in (from_in s a n h, omega arith)

pub extents-in-order : ExtentsInOrder
extents-in-order s a m n h k l =
    let x = (has-bounds s m h).1 in
    let y = (has-bounds s n k).1 in
    let from = (extent_of s n).from in
    let last = (extent_of s m).past - 1 in
    let b = extent-only s n from (omega arith) y in
    let c = extent-only s m last (omega arith) (omega arith) in
    let e = b.said in
    let f = c.said in
    let g = c.there in
    either from (extent_of s m).past
    (λ z. let r = said-upto s a from last (omega arith) g in absurd (omega arith))
    (λ z. z)

-- ---- the first and the last

pub cursor-starts : CursorStarts
cursor-starts s a =
    let some = records-some s a in
    record {
      upto = omega arith;
      before = λ i l.
          let z : i ≡ 0 = omega arith in
          let e = said-entry s a (omega arith) in
          rw z (omega arith);
      behind = λ i l h. said-inner s a i l h;
    }

pub cursor-ends : CursorEnds
cursor-ends s a p c =
    let some = records-some s a in
    let up = c.upto in
    either (p + 1) (records_of s)
    (λ l.
    let b = c.behind p (omega arith) (omega arith) in
    let m = said-most s a p (omega arith) in
    absurd (omega arith))
    (λ l.
    either p (records_of s) (λ m. omega arith)
    (λ m.
    let last = records_of s - 1 in
    let b = c.before last (omega arith) in
    let e = said-last s a last (omega arith) in
    absurd (omega arith)))

-- ---- one step

module _ (s : List ℕ) (a : Accepted s) (n p : ℕ) (c : Cursor s n p) where
  abbrev next : ℕ
  next = past_from s n p

  low : p ≤ next
  low = first-from (is_other s n) p (records_of s - p)

  high : next ≤ records_of s
  high =
      let h = first_to (is_other s n) p (records_of s - p) in
      let u = c.upto in
      omega arith

  said_here : (i : ℕ) → p ≤ i → i < next → subentry_at s i ≡ n
  said_here i l h =
      let u = high in
      eqb-true (subentry_at s i) n
      (not-false (is_of s n i) (first-before (is_other s n) p (records_of s - p) i l h (omega arith)))

  said-other : next < records_of s → subentry_at s next ≡ n → ⊥
  said-other h =
      let l = low in
      eqb-false (subentry_at s next) n
      (not-true (is_of s n next) (first_holds (is_other s n) p (records_of s - p) (omega arith)))

  said-next : (i : ℕ) → next ≤ i → i < records_of s → n + 1 ≤ subentry_at s i
  said-next i l h =
      let m = low in
      let b = c.behind next m (omega arith) in
      let r = said-upto s a next i l h in
      let o = said-other (omega arith) in
      either n (subentry_at s next) (λ x. omega arith) (λ x. absurd (o (omega arith)))

  pub moves : Cursor s (n + 1) next
  moves =
      record {
        upto = high;
        before = λ i l.
            either i p (λ h. let b = c.before i h in omega arith) (λ h. let e = said_here i h l in omega arith);
        behind = said-next;
      }

  -- a record of the subentry n stands at the cursor
  from-here : (i : ℕ) → i < records_of s → subentry_at s i ≡ n → (p ≤ i) × (i < next)
  from-here i h e = (
    either i p (λ l. let b = c.before i l in absurd (omega arith)) (λ l. l),
    either i next (λ l. l) (λ l. let b = said-next i l h in absurd (omega arith)),
  )

  module _ (h : has s n ≡ true) where
    here-from : (extent_of s n).from ≡ p
    here-from =
        let x = (has-bounds s n h).1 in
        let y = extent-only s n (extent_of s n).from (omega arith) x in
        let z = from-here (extent_of s n).from y.there y.said in
        let l = z.0 in
        let m = z.1 in
        let u = high in
        let w = (whole_of s a n p (record { there = omega arith; said = said_here p (omega arith) (omega arith) })).0 in
        omega arith

    here-past : (extent_of s n).past ≡ next
    here-past =
        let e : first_saying s n ≡ p = sym (from_is s n) ∙ here-from in
        past_is s n ∙ ap (past_from s n) e

  none_here : 1 ≤ n → n ≤ 998 → p < next → has s n ≡ true
  unfolding has
  none_here l m h =
      let u = high in
      let w = whole_of s a n p (record { there = omega arith; said = said_here p (omega arith) h }) in
      let x = w.0 in
      let y = w.1 in
      and_both (and_both (le-leb 1 n l) (le-leb n 998 m))
      (lt-ltb (extent_of s n).from (extent_of s n).past (omega arith))

  there-here : 1 ≤ n → n ≤ 998 → has s n ≡ ltb p next
  there-here l m = by-test (has s n) refl
    where
      by-test : (b : Bool) → has s n ≡ b → b ≡ ltb p next
      by-test true e =
          let x = (has-bounds s n e).1 in
          let y = here-from e in
          let z = here-past e in
          sym (lt-ltb p next (omega arith))
      by-test false e =
          either p next (λ h. differ (sym (none_here l m h) ∙ e)) (λ h. sym (le-ltb p next h))

pub cursor-moves : CursorMoves
cursor-moves s a n p c = moves s a n p c

pub cursor-meets : CursorMeets
cursor-meets s a n p l m c =
    record {
      there = there-here s a n p c l m;
      from = here-from s a n p c;
      past = here-past s a n p c;
    }
