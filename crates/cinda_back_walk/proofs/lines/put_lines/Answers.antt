use Prim.Native.Nat.{◌-◌, ◌*◌}
use mathlib.Core.Path.{◌∙◌, ap}
use lib.ListN.{length}
use Rattle.paper_cinda.specs.Layout.{LINE}
use native.Mathlib.Omega.{arith}
use Rattle.cinda_back_walk.proofs.LinesStored.{stored-none, stored_next, stored-all, lent-columns}
use borrow.Author.Rules.{rules}
use Rattle.cinda_back_walk.proofs.lines.put_lines.Goals as goal

pub loop-i-init : goal.loop-i-init
loop-i-init c =
    let at = c in
    stored-none at.args.lines.now at.args.out.now at.requires.0 at.requires.1

pub overflow_mul-at : goal.overflow_mul-at
overflow_mul-at c =
    let w = c.loop-i.invariant.whole in
    search rules

pub overflow_add-past : goal.overflow_add-past
overflow_add-past c =
    let w = c.loop-i.invariant.whole in
    search rules

pub put_line-requires : goal.put_line-requires
put_line-requires c =
    let loop = c.loop-i in
    let t = c.loop-i-test in
    let w = loop.invariant.whole in
    let f = loop.invariant.fits in
    let l = loop.invariant.long in
    let (same, wide) = lent-columns c.args.lines.now (loop.i * LINE) LINE (omega arith) in
    (omega arith, ap length same ∙ wide)

pub loop-i-preserved : goal.loop-i-preserved
loop-i-preserved c =
    let t = c.loop-i-test in
    let stored = c.put_line in
    stored_next c.loop-i.invariant (omega arith) _ stored.ensures stored.auto.out

pub returns : goal.returns
returns c = stored-all c.loop-i.invariant (omega arith)
