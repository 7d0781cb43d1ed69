use Prim.Native.Nat.{◌-◌}
use Rattle.paper_files.specs.Outside.{marks_in}
use Rattle.laws.proofs.Search.{scan-next, scan-passed, scan-run, scan-stopped}
use mathlib.Core.Bool.{not}
use mathlib.Core.Path.{◌∙◌, ap, sym}
use native.Mathlib.Omega.{arith}
use borrow.Author.Rules.{rules}
use Rattle.files_trans.proofs.trans.marks_in.Goals as goal

pub loop-i-init : goal.loop-i-init
loop-i-init c = (search rules, scan-run _)

pub returns-then-not-is_capital_or_digit : goal.returns-then-not-is_capital_or_digit
unfolding marks_in
returns-then-not-is_capital_or_digit c = scan-stopped c.loop-i.invariant.1 (omega arith) (ap not (sym c.is_capital_or_digit.ensures) ∙ (ap not c.if-not-is_capital_or_digit.true))

pub loop-i-preserved : goal.loop-i-preserved
loop-i-preserved c = (search rules, scan-next c.loop-i.invariant.1 (omega arith) (ap not (sym c.is_capital_or_digit.ensures) ∙ (ap not c.if-not-is_capital_or_digit.false)))

pub returns : goal.returns
unfolding marks_in
returns c = scan-passed c.loop-i.invariant.1 (omega arith)
