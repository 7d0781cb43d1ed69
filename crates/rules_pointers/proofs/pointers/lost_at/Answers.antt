use Rattle.laws.proofs.Search.{scan-all, scan-done, scan-found, scan-next}
use mathlib.Core.Path.{◌∙◌, sym}
use native.Mathlib.Omega.{arith}
use Rattle.rules_pointers.proofs.pointers.lost_at.Goals as goal

pub loop-k-init : goal.loop-k-init
loop-k-init c = (c.requires, scan-all _)

pub returns-then-pointer_lost : goal.returns-then-pointer_lost
returns-then-pointer_lost c =
    scan-found c.loop-k.invariant.1 (omega arith)
    (sym c.pointer_lost.ensures ∙ c.if-pointer_lost.true)

pub loop-k-preserved : goal.loop-k-preserved
loop-k-preserved c = (
  c.loop-k.invariant.0,
  scan-next c.loop-k.invariant.1
      (omega arith) (sym c.pointer_lost.ensures ∙ c.if-pointer_lost.false),
)

pub returns : goal.returns
returns c = scan-done c.loop-k.invariant.1 (omega arith)
