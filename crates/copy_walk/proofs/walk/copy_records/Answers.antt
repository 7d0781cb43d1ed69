use Rattle.copy_walk.proofs.CopyLoop.{copied-there, copied-lent, copied-records, copied-whole, copied_next}
use Rattle.copy_walk.proofs.CopyLoop.{copied-done}
use Prim.Native.Nat.{◌-◌}
use Rattle.paper_copy.proofs.FaithfulRecords.{fits}
use Rattle.copy_walk.proofs.CopyLoop.{copied-start}
use Rattle.laws.proofs.Table.{at}
use native.Mathlib.Omega.{arith}
use borrow.Author.Rules.{rules}
use Rattle.copy_walk.proofs.walk.copy_records.Goals as goal

pub loop-i-init : goal.loop-i-init
loop-i-init c =
    let at = c in
    rw c.new-j.ensures (copied-start at.args.entry.now at.args.out.now at.requires)

pub overflow_mul-from : goal.overflow_mul-from
overflow_mul-from c = let w = c.loop-i.invariant.whole in
    let f = c.loop-i.invariant.few in
    search rules

pub overflow_add-past : goal.overflow_add-past
overflow_add-past c = let w = c.loop-i.invariant.whole in
    let f = c.loop-i.invariant.few in
    search rules

pub pass-passed-requires : goal.pass-passed-requires
pass-passed-requires c =
    let loop = c.loop-i in
    let t = c.loop-i-test in
    let at = c in
    record {
      walking = loop.invariant.walking;
      i_in_bounds = copied-there loop.invariant (omega arith);
    }

pub part-table-requires : goal.part-table-requires
part-table-requires c =
    let t = c.loop-i-test in
    copied-lent c.loop-i.invariant (omega arith)

pub copy_record-requires : goal.copy_record-requires
copy_record-requires c =
    let at = c in
    let loop = at.loop-i in
    let t = at.loop-i-test in
    let w = loop.invariant.whole in
    let f = loop.invariant.fits in
    let l = loop.invariant.long in
    record {
      whole_records = rw c.part-table.ensures (copied-records loop.invariant (omega arith));
      at_in_bounds = (omega arith, copied-whole loop.invariant (omega arith));
    }

pub overflow_add-i : goal.overflow_add-i
overflow_add-i c =
    let at = c in
    let w = at.loop-i.invariant.whole in
    let f = at.loop-i.invariant.few in
    let t = at.loop-i-test in
    search rules

pub loop-i-preserved : goal.loop-i-preserved
loop-i-preserved c =
    let at = c in
    let t = at.loop-i-test in
    let table = c.part-table in
    let pass = c.pass-passed in
    let stored = c.copy_record in
    copied_next at.loop-i.invariant (omega arith) pass.result pass.ensures _
    (rw table.ensures at stored.ensures) stored.auto.out

pub returns : goal.returns
returns c = copied-done c.loop-i.invariant (omega arith)
