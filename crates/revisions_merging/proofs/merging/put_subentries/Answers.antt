use Prim.Native.Nat.{◌-◌}
use native.Mathlib.Omega.{arith}
use Rattle.revisions_merging.proofs.Writing.{writing_start, writing-upto, writing-next, writing-done}
use Rattle.revisions_merging.proofs.merging.put_subentries.Goals as goal

pub loop-n-init : goal.loop-n-init
loop-n-init c =
    let at = c in
    writing_start at.args.held.now at.args.revision.now at.args.out.now at.requires

pub put_one-c-requires : goal.put_one-c-requires
put_one-c-requires c = writing-upto c.loop-n.invariant

pub loop-n-preserved : goal.loop-n-preserved
loop-n-preserved c =
    let at = c in
    let t = at.loop-n-test in
    let one = c.put_one-c in
    writing-next at.loop-n.invariant (omega arith) _ _ one.ensures.value one.ensures.out_after one.auto.out

pub returns : goal.returns
returns c =
    let done = writing-done c.loop-n.invariant (omega arith) in
    record {
      upto = done.0;
      revision_value = done.1;
      out_after = done.2;
    }
