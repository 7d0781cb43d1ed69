use lib.Seq.{length-take-le}
use Rattle.paper_entry.proofs.Lengths.{whole-records}
use lib.ListN.{length-drop, length-take}
use mathlib.Core.Path.{◌∙◌, sym}
use native.Mathlib.Nat.{add-sub_cancel_left}
use native.Mathlib.Omega.{arith}
use Rattle.reasons.proofs.RangesAt.{reason-stands, state-stands}
use borrow.Author.Rules.{rules}
use Rattle.reasons.proofs.explain.reason_in.Goals as goal

pub state_at-j-requires : goal.state_at-j-requires
state_at-j-requires c =
    let l = c.requires.there in
    record {
      value = c.requires.good;
      n_in_bounds = omega arith;
    }

pub overflow_mul-from : goal.overflow_mul-from
overflow_mul-from c =
    let g = whole-records _ c.requires.good in
    let l = c.requires.there in
    search rules

pub overflow_add-past : goal.overflow_add-past
overflow_add-past c =
    let g = whole-records _ c.requires.good in
    let l = c.requires.there in
    search rules

pub slice_bounds-reason_at-end : goal.slice_bounds-reason_at-end
slice_bounds-reason_at-end c =
    let g = whole-records _ c.requires.good in
    let l = c.requires.there in
    sym (length-take-le _ _ (omega arith))

pub slice_bounds-reason_at-count : goal.slice_bounds-reason_at-count
slice_bounds-reason_at-count c =
    let g = whole-records _ c.requires.good in
    let l = c.requires.there in
    search rules

pub slice_bounds-reason_at-start : goal.slice_bounds-reason_at-start
slice_bounds-reason_at-start c =
    let g = whole-records _ c.requires.good in
    let l = c.requires.there in
    search rules

pub slice_bounds-reason_at-end-2 : goal.slice_bounds-reason_at-end-2
slice_bounds-reason_at-end-2 c =
    let g = whole-records _ c.requires.good in
    let l = c.requires.there in
    search rules

pub reason_at-requires : goal.reason_at-requires
reason_at-requires c =
    let g = whole-records _ c.requires.good in
    let l = c.requires.there in
    record {
      stands = state-stands c.state_at-j.ensures;
      whole = record { long = simp (length-take, length-drop) (omega arith) };
      in_field = c.requires.heading;
    }

pub returns : goal.returns
returns c =
    (rw add-sub_cancel_left at c.reason_at.ensures) ∙ reason-stands c.state_at-j.ensures _ _
