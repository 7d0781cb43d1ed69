use Rattle.laws.proofs.Members.{look-done, look-found, look-next, look-all}
use Rattle.paper_rules.specs.Pointers.{heading_pointers}
use borrow.Author.Tests.{eq-eqb, ne_eqb}
use native.Mathlib.Omega.{arith}
use borrow.Author.Rules.{rules}
use Rattle.rules_pointers.proofs.pointers.heading_pointer_in.Goals as goal

pub loop-m-init : goal.loop-m-init
unfolding heading_pointers
loop-m-init c = (c.headings_in-m-end.ensures.value, rw c.headings_in-m-end.ensures.value (look-all _))

pub returns-then-pointer-part : goal.returns-then-pointer-part
returns-then-pointer-part c = look-found c.loop-m.invariant.1 (omega arith) (eq-eqb _ _ c.if-pointer-part.true)

pub loop-m-preserved : goal.loop-m-preserved
loop-m-preserved c =
    (search rules, look-next c.loop-m.invariant.1 (omega arith) (ne_eqb _ _ c.if-pointer-part.false))

pub returns : goal.returns
returns c = look-done c.loop-m.invariant.1 (omega arith)
