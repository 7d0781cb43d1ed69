-- What two accepted entries lend to the writer, and what it has written.
-- Assumes nothing.
use Prim.Native.Nat.{ℕ, ◌+◌, ◌-◌, ◌≤◌}
use mathlib.Core.Path.{◌≡◌, refl, ◌∙◌, ap}
use mathlib.Core.List.{List, ◌++◌}
use native.Mathlib.Omega.{arith}
use lib.ListN.{length, take, drop, length-append, length-drop}
use lib.Seq.{paste, take_all, take-append_seam}
use Rattle.paper_entry.specs.declared.types.Verdict.{Verdict}
use Rattle.paper_entry.specs.Judging.{Accepted, judge_of}
use Rattle.paper_revisions.specs.declared.types.Merged.{Merged}
use Rattle.paper_revisions.specs.Merging.{merge_of}
use Rattle.revisions_merging.specs.Cursors.{merge_by_cursors, Room}
use Rattle.revisions_cursors.proofs.CursorsMerge.{cursors-merge}
use Rattle.revisions_extents_laws.proofs.Columns.{records-some}
use Rattle.revisions_settled.specs.Settled.{settled_by, kept_by}

pub accepted-room : (held revision out : List ℕ) → Accepted held → Accepted revision
    → length held + length revision ≤ length out → Room held revision out
accepted-room held revision out a b room =
    let h = records-some held a in
    let r = records-some revision b in
    record { held_some = omega arith; revision_some = omega arith; both = room }

-- a text at the front of a buffer
module _ (lent out text : List ℕ) (n : ℕ) (long : n ≡ length text) (stored : out ≡ paste lent 0 text n) where
  pub front-stored : out ≡ text ++ drop (length text) lent
  front-stored =
      let z : 0 + length text ≡ length text = omega arith in
      stored ∙ rw (long, z, take_all (length text) text (omega arith)) refl

  pub front-inside : length out ≡ length lent → n ≤ length out
  front-inside same =
      let e : length out ≡ length text + (length lent - length text) =
      ap length front-stored ∙ length-append text (drop (length text) lent)
      ∙ ap (λ (k : ℕ). length text + k) (length-drop (length text) lent) in
      omega arith

  pub front-taken : take n out ≡ text
  front-taken = rw (long, front-stored) (take-append_seam text (drop (length text) lent))

-- the merge, judged where it stands
module _ (held revision : List ℕ) (a : Accepted held) (b : Accepted revision) where
  pub judged-merge : (lent out new : List ℕ) (n : ℕ) (v : Verdict) (r : Merged)
      → n ≡ length (merge_by_cursors held revision) → out ≡ paste lent 0 (merge_by_cursors held revision) n
      → v ≡ judge_of (take n out) → r ≡ settled_by v n → new ≡ kept_by v out n
      → (r ≡ settled_by (judge_of (merge_of held revision)) (length (merge_of held revision)))
      × (new
      ≡ kept_by (judge_of (merge_of held revision)) (merge_of held revision ++ drop (length (merge_of held revision)) lent)
      (length (merge_of held revision)))
  judged-merge lent out new n v r long stored said answered kept =
      let m : List ℕ = merge_of held revision in
      let whole = cursors-merge held revision a b in
      let l : n ≡ length m = long ∙ ap length whole in
      let s : out ≡ paste lent 0 m n = stored ∙ ap (λ (x : List ℕ). paste lent 0 x n) whole in
      let j : v ≡ judge_of m = said ∙ ap judge_of (front-taken lent out m n l s) in (
        answered ∙ rw (j, l) refl,
        kept ∙ ap (λ (x : List ℕ). kept_by v x n) (front-stored lent out m n l s) ∙ rw (j, l) refl,
      )
