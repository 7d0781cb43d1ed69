use native.Mathlib.Omega.{arith}
use Rattle.revisions_merging.specs.Cursors.{behind_one}
use Rattle.revisions_merging.proofs.Writing.{part-short, one-small}
use borrow.Author.Rules.{rules}
use Rattle.revisions_merging.proofs.chosen.put_one.Goals as goal

pub put_chosen-long-requires : goal.put_chosen-long-requires
put_chosen-long-requires c =
    let at = c in
    let p = c.past_from-p.ensures in
    let q = c.past_from-q.ensures in
    let w = at.requires.written in
    let a = at.requires.both in
    let i = p.lower_bound in
    let j = q.lower_bound in
    let x = p.upper_bound in
    let y = q.upper_bound in
    (record { rises = i; ends = x }, record { rises = j; ends = y }, omega arith)

pub overflow_add-to : goal.overflow_add-to
overflow_add-to c =
    let at = c in
    let p = c.past_from-p.ensures in
    let q = c.past_from-q.ensures in
    let w = at.requires.written in
    let a = at.requires.both in
    let i = p.lower_bound in
    let j = q.lower_bound in
    let x = p.upper_bound in
    let y = q.upper_bound in
    let s = part-short at.args.held.now at.args.revision.now (record { from = at.args.c.held; past = c.past_from-p.result }) (record { from = at.args.c.revision; past = c.past_from-q.result }) (record { rises = i; ends = x }) (record { rises = j; ends = y }) in
    let l = c.put_chosen-long.ensures.value in
    search rules

pub overflow_add-counted : goal.overflow_add-counted
overflow_add-counted c =
    let at = c in
    let n = at.requires.counted in
    let s = one-small (record { from = at.args.c.held; past = c.past_from-p.result }) (record { from = at.args.c.revision; past = c.past_from-q.result }) in
    let l = c.one_of-more.ensures in
    search rules

pub returns : goal.returns
unfolding behind_one
returns c =
    let p = c.past_from-p.ensures.value in
    let q = c.past_from-q.ensures.value in
    let put = c.put_chosen-long.ensures in
    record {
      value = rw (← p, ← q, ← put.value, ← c.one_of-more.ensures);
      out_after = rw (← p, ← q) put.out_after;
    }
