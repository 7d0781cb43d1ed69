use mathlib.Core.Path.{sym}
use lib.Seq.{length-take-le}
use Rattle.revisions_merge.proofs.Written.{accepted-room, front-inside, judged-merge}
use Rattle.revisions_merge.proofs.merge.put_merge.Goals as goal

pub write_merge-long-requires : goal.write_merge-long-requires
write_merge-long-requires c =
    let at = c in
    accepted-room at.args.held.now at.args.revision.now at.args.out.now at.requires.0 at.requires.1 at.requires.2

pub slice_bounds-judge-end : goal.slice_bounds-judge-end
slice_bounds-judge-end c =
    let w = c.write_merge-long in
    front-inside c.args.out.now _ _ w.result w.ensures.value w.ensures.out_after w.auto.out

pub slice_bounds-judge-end-2 : goal.slice_bounds-judge-end-2
slice_bounds-judge-end-2 c =
    let w = c.write_merge-long in
    sym (length-take-le _ _
    (front-inside c.args.out.now _ _ w.result w.ensures.value w.ensures.out_after w.auto.out))

pub settled-requires : goal.settled-requires
settled-requires c =
    let w = c.write_merge-long in
    front-inside c.args.out.now _ _ w.result w.ensures.value w.ensures.out_after w.auto.out

pub returns : goal.returns
returns c =
    let at = c in
    let w = c.write_merge-long in
    let s = c.settled in
    let both = judged-merge at.args.held.now at.args.revision.now at.requires.0 at.requires.1 at.args.out.now _ _ w.result _ _
    w.ensures.value w.ensures.out_after c.judge-v.ensures s.ensures.value s.ensures.out_after in
    record { value = both.0; out_after = both.1 }
