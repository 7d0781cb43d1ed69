use native.Mathlib.Omega.{arith}
use borrow.Author.Rules.{rules}
use Rattle.revisions_merging.proofs.Writing.{entry-begun, writing-end}
use Rattle.revisions_merging.proofs.merging.write_merge.Goals as goal

pub put_entry-requires : goal.put_entry-requires
put_entry-requires c =
    let room = c.requires in
    let a = room.held_some in
    let b = room.both in
    (a, room.revision_some, omega arith)

pub put_subentries-c-requires : goal.put_subentries-c-requires
put_subentries-c-requires c =
    let at = c in
    let first = c.put_entry in
    entry-begun at.args.held.now at.args.revision.now at.args.out.now _ at.requires first.auto.out first.ensures

pub put_end-requires : goal.put_end-requires
put_end-requires c =
    let put = c.put_subentries-c in
    let u = put.ensures.upto in
    let a = u.both in
    let h = u.held_in in
    let r = u.revision_in in
    let w = u.written in
    let l = put.auto.out in
    (c.requires.revision_some, omega arith)

pub overflow_add-result : goal.overflow_add-result
overflow_add-result c =
    let put = c.put_subentries-c in
    let u = put.ensures.upto in
    let a = u.both in
    let h = u.held_in in
    let r = u.revision_in in
    let w = u.written in
    search rules

pub returns : goal.returns
returns c =
    let at = c in
    let put = c.put_subentries-c in
    let both = writing-end at.args.held.now at.args.revision.now at.args.out.now _ _ _ put.result.at
    put.result.count at.requires c.put_entry.ensures put.ensures.revision_value put.ensures.out_after
    c.put_end.ensures in
    record { value = both.0; out_after = both.1 }
