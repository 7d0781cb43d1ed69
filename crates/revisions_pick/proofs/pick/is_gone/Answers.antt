use Rattle.paper_revisions.proofs.ExtentLies.{extent-lies, first-inside}
use Rattle.paper_revisions.specs.Taken.{Lies}
use Rattle.paper_revisions.specs.declared.types.Extent.{Extent}
use mathlib.Core.Path.{refl}
use native.Mathlib.Nat.{add-sub_cancel_left}
use borrow.Author.Rules.{rules}
use Rattle.revisions_pick.proofs.pick.is_gone.Goals as goal

pub overflow_mul-from : goal.overflow_mul-from
overflow_mul-from c =
    let e : Extent = c.args.e in
    let l : Lies c.args.entry.now e = rw c.requires.e_value (extent-lies _ _) in
    let h = first-inside c.args.entry.now e l c.requires.e_value_2 in
    search rules

pub overflow_add-past : goal.overflow_add-past
overflow_add-past c =
    let e : Extent = c.args.e in
    let l : Lies c.args.entry.now e = rw c.requires.e_value (extent-lies _ _) in
    let h = first-inside c.args.entry.now e l c.requires.e_value_2 in
    search rules

pub slice_bounds-field-end : goal.slice_bounds-field-end
slice_bounds-field-end c =
    let e : Extent = c.args.e in
    let l : Lies c.args.entry.now e = rw c.requires.e_value (extent-lies _ _) in
    let h = first-inside c.args.entry.now e l c.requires.e_value_2 in
    search rules

pub returns : goal.returns
returns c =
    let f = c in
    rw (c.identifier_of-name.ensures, f.field-f.ensures, add-sub_cancel_left, f.requires.e_value) refl
