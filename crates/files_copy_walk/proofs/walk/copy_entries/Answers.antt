use Rattle.laws.specs.Search.{first}
use Prim.Native.Nat.{◌-◌}
use Rattle.files_copy_walk.proofs.EntriesCopied.{trans-there, copying-start, copying-room}
use Rattle.files_copy_walk.proofs.EntriesCopied.{copying-lent, copying-next}
use Rattle.files_copy_walk.proofs.EntriesCopied.{copying-done, copied-lent}
use mathlib.Core.Path.{◌∙◌, refl}
use native.Mathlib.Omega.{arith}
use borrow.Author.Rules.{rules}
use Rattle.files_copy_walk.proofs.walk.copy_entries.Goals as goal

pub copy_columns-requires : goal.copy_columns-requires
copy_columns-requires c = let t = trans-there c.requires in (omega arith, omega arith)

pub entry_length-n-requires : goal.entry_length-n-requires
entry_length-n-requires c = tt

pub loop-n-init : goal.loop-n-init
loop-n-init c =
    let p = c.requires in
    copying-start p _ c.copy_columns.ensures _ c.entry_length-n.ensures.value

pub overflow_add-past : goal.overflow_add-past
overflow_add-past c = let r = copying-room c.loop-n.invariant c.loop-n-test.true in search rules

pub slice_bounds-copy_records-count : goal.slice_bounds-copy_records-count
slice_bounds-copy_records-count c = omega arith

pub slice_bounds-copy_records-end : goal.slice_bounds-copy_records-end
slice_bounds-copy_records-end c = let r = copying-room c.loop-n.invariant c.loop-n-test.true in search rules

pub slice_bounds-copy_records-count-in-loop-n : goal.slice_bounds-copy_records-count-in-loop-n
slice_bounds-copy_records-count-in-loop-n c = omega arith

pub copy_records-requires : goal.copy_records-requires
copy_records-requires c = copying-lent c.loop-n.invariant c.loop-n-test.true

pub entry_length-n-requires-in-loop-n : goal.entry_length-n-requires-in-loop-n
entry_length-n-requires-in-loop-n c = tt

pub loop-n-smaller : goal.loop-n-smaller
loop-n-smaller c =
    let m = c.loop-n-test.true in
    let r = copying-room c.loop-n.invariant m in
    omega arith

pub loop-n-preserved : goal.loop-n-preserved
loop-n-preserved c =
    let k = c.loop-n.invariant in
    let m = c.loop-n-test.true in
    copying-next k m _ c.copy_records.ensures _ refl _ c.entry_length-n-in-loop-n.ensures.value

pub overflow_sub-rest : goal.overflow_sub-rest
overflow_sub-rest c = c.loop-n.invariant.upto

pub copy_columns-requires-2 : goal.copy_columns-requires-2
copy_columns-requires-2 c =
    let u = c.loop-n.invariant.upto in
    let f = c.loop-n.invariant.fits in
    let l = c.loop-n.invariant.long in
    (omega arith, omega arith)

pub returns : goal.returns
returns c =
    let k = c.loop-n.invariant in
    let at = c in
    let p = at.requires in
    let first = c.copy_columns.ensures in
    copying-done k c.loop-n-test.false _ c.copy_columns-2.ensures
    ∙ copied-lent p _ first
