-- What was counted of a file is no more than its records allow, also behind the next record; so the sums fit.
-- Assumes nothing.
use Prim.Native.Nat.{ℕ, ◌+◌, ◌<◌}
use mathlib.Core.Path.{◌≡◌}
use mathlib.Core.List.{List, ◌++◌}
use native.Mathlib.Omega.{arith}
use lib.ListN.{length, length-append}
use Rattle.paper_rules.specs.Ranging.{Stands}
use Rattle.entry_step.specs.declared.step.Judge.{Judge}
use Rattle.paper_files.specs.File.{MOST-IN-FILE}
use Rattle.paper_files.specs.declared.types.Stage.{Stage}
use Rattle.files_state.specs.declared.state.File.{File}
use Rattle.files_state.specs.ByNumbers.{state_at, ended_state, within_state, Sane, FileReady, Room, Addable}

-- the judge that stands behind the record has room
pub room : (f : File) (before rec : List ℕ) → FileReady f before rec
    → (j : Judge) → Stands j.track j.ranges (before ++ rec) → Room f j
room f before rec ready j w =
    let x : length (before ++ rec) ≡ length before + length rec = length-append before rec in
    let y = w.long in
    let z = ready.stands.long in
    let v = ready.whole.long in
    record { sane = ready.sane; few = ready.few; bounded = w.bounded; own = omega arith }

module _ (f : File) (j : Judge) (h : Room f j) where
  pub room-adds : Addable f.totals j.track.totals
  room-adds =
      let s = h.sane in
      let b = h.bounded in
      omega arith

  pub ended-sane : Sane (ended_state f j.track.totals)
  ended-sane =
      let s = h.sane in
      let b = h.bounded in
      omega arith

  pub within-sane : Sane (within_state f j)
  within-sane =
      let s = h.sane in
      omega arith

pub stage-sane : (f : File) (x : Stage) → Sane f → f.records.0 < MOST-IN-FILE → Sane (state_at f x)
stage-sane f x s few = omega arith
