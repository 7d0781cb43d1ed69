use mathlib.Core.Path.{◌∙◌}
use native.Mathlib.Nat.{add-sub_cancel_left}
use native.Mathlib.Omega.{arith}
use lib.ListN.{length-take, length-drop}
use Rattle.paper_entry.proofs.Lengths.{whole-records}
use Rattle.entry_step.proofs.Walking.{pass-at, records-passed, walking-bounded, walking-next}
use borrow.Author.Rules.{rules}
use Rattle.entry_step.proofs.step.Judge.pass.Goals as goal

pub overflow_mul-from : goal.overflow_mul-from
overflow_mul-from c = let g = whole-records _ c.requires.walking.good in search rules

pub overflow_add-past : goal.overflow_add-past
overflow_add-past c = let g = whole-records _ c.requires.walking.good in search rules

pub slice_bounds-pass_record-count : goal.slice_bounds-pass_record-count
slice_bounds-pass_record-count c = let g = whole-records _ c.requires.walking.good in search rules

pub slice_bounds-pass_record-start : goal.slice_bounds-pass_record-start
slice_bounds-pass_record-start c = let g = whole-records _ c.requires.walking.good in search rules

pub slice_bounds-pass_record-end : goal.slice_bounds-pass_record-end
slice_bounds-pass_record-end c = let g = whole-records _ c.requires.walking.good in search rules

pub pass_record-requires : goal.pass_record-requires
pass_record-requires c =
    let w = c.requires.walking in
    let there = c.requires.i_in_bounds in
    let g = whole-records _ w.good in
    let counted = records-passed w in
    record {
      bounded = walking-bounded w;
      records_bound = omega arith;
      whole = record { long = simp (length-take, length-drop) (omega arith) };
    }

pub returns : goal.returns
returns c =
    let w = c.requires.walking in
    let there = c.requires.i_in_bounds in
    let same = (rw add-sub_cancel_left at c.pass_record.ensures) ∙ pass-at w there in
    record { same = same; walking = rw same (walking-next w there) }
