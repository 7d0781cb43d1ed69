use mathlib.Core.Path.{refl, sym}
use native.Mathlib.Omega.{arith}
use Rattle.paper_codes.proofs.Opening.{code-zero}
use Rattle.decay_code.proofs.Left.{left-all, left-done, left_here, left-next}
use Rattle.decay_code.proofs.opening.opening.Goals as goal

pub returns-then-j-eq0 : goal.returns-then-j-eq0
returns-then-j-eq0 c = sym (code-zero _ _ c.if-j-eq0.true)

pub loop-i-init : goal.loop-i-init
loop-i-init c = (refl, left-all _ _ c.if-j-eq0.false)

pub returns-then-behind-eq0 : goal.returns-then-behind-eq0
returns-then-behind-eq0 c =
    let inv = c.loop-i.invariant in
    left_here inv.1 (omega arith) c.left_behind-behind.ensures c.if-behind-eq0.true

pub loop-i-preserved : goal.loop-i-preserved
loop-i-preserved c =
    let inv = c.loop-i.invariant in
    (inv.0, left-next inv.1 (omega arith) c.left_behind-behind.ensures c.if-behind-eq0.false)

pub returns : goal.returns
returns c = left-done c.loop-i.invariant.1 (omega arith)
