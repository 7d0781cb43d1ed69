use Rattle.laws.proofs.Members.{look-done, look-found, look-next}
use Rattle.laws.proofs.Members.{look-all}
use Rattle.paper_rules.specs.Text.{pointers_of}
use borrow.Author.Tests.{eq-eqb, ne_eqb}
use native.Mathlib.Omega.{arith}
use borrow.Author.Rules.{rules}
use Rattle.rules_text.proofs.text.pointer_in.Goals as goal

pub loop-i-init : goal.loop-i-init
unfolding pointers_of
loop-i-init c = (search rules, look-all _)

pub returns-then-pointer-part : goal.returns-then-pointer-part
returns-then-pointer-part c = look-found c.loop-i.invariant.1 (omega arith) (eq-eqb _ _ c.if-pointer-part.true)

pub loop-i-preserved : goal.loop-i-preserved
loop-i-preserved c =
    (search rules, look-next c.loop-i.invariant.1 (omega arith) (ne_eqb _ _ c.if-pointer-part.false))

pub returns : goal.returns
returns c = look-done c.loop-i.invariant.1 (omega arith)
