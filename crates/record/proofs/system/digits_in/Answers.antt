use Prim.Native.Nat.{◌-◌}
use Rattle.laws.proofs.Search.{scan-next, scan-passed, scan-run, scan-stopped}
use Rattle.paper_record.specs.System.{digits_in}
use borrow.Author.Rules.{rules}
use native.Mathlib.Omega.{arith}
use Rattle.record.proofs.system.digits_in.Goals as goal

pub loop-i-init : goal.loop-i-init
loop-i-init c = (search rules, scan-run _)

pub returns-then-not-is_ascii_digit : goal.returns-then-not-is_ascii_digit
unfolding digits_in
returns-then-not-is_ascii_digit c =
    scan-stopped c.loop-i.invariant.1 (omega arith)
    (search rules)

pub loop-i-preserved : goal.loop-i-preserved
loop-i-preserved c = (
  search rules,
  scan-next c.loop-i.invariant.1 (omega arith)
      (search rules),
)

pub returns : goal.returns
unfolding digits_in
returns c = scan-passed c.loop-i.invariant.1 (omega arith)
