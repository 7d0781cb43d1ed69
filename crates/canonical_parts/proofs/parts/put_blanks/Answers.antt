use Rattle.canonical_parts.proofs.Puts.{blanks-out}
use borrow.Author.Fill.{fill_more}
use lib.ListN.{take}
use native.Mathlib.Omega.{arith}
use Rattle.canonical_parts.proofs.parts.put_blanks.Goals as goal

pub loop-b-preserved : goal.loop-b-preserved
loop-b-preserved c =
    rw c.loop-b.invariant (fill_more c.loop-b.b-index 32 (take c.args.n c.args.out.now) c.loop-b-test.true)

pub returns : goal.returns
returns c =
    let loop = c.loop-b in
    blanks-out c.args.out.now loop.b-items c.args.n loop.b-index c.requires c.loop-b-test.false (omega arith) loop.invariant
