use Rattle.laws.proofs.Search.{scan-found, scan-next, scan-done}
use Rattle.laws.proofs.Search.{scan-all}
use Rattle.rules_flags.proofs.Headings.{heading-room}
use mathlib.Core.Path.{◌∙◌, sym}
use native.Mathlib.Omega.{arith}
use borrow.Author.Rules.{rules}
use Rattle.rules_flags.proofs.flags.first_fault.Goals as goal

pub loop-k-init : goal.loop-k-init
loop-k-init c =
    let c3 = c in
    (c3.requires.whole_records, c3.requires.record_at.0, c3.requires.record_at.1, scan-all _)

pub overflow_add-from : goal.overflow_add-from
overflow_add-from c = let s = c.loop-k.invariant.2 in let f = c.loop-k.invariant.1.near in search rules

pub is_fault_at-requires : goal.is_fault_at-requires
is_fault_at-requires c =
    let c6 = c in
    let s = c.loop-k.invariant.2 in
    heading-room c6.args.table.now c6.args.from c.loop-k.k
    c.loop-k.invariant.0 c.loop-k.invariant.1 (omega arith)

pub returns-then-is_fault_at : goal.returns-then-is_fault_at
returns-then-is_fault_at c =
    let c4 = c in
    scan-found c4.loop-k.invariant.3 (omega arith) (sym c.is_fault_at.ensures ∙ c.if-is_fault_at.true)

pub loop-k-preserved : goal.loop-k-preserved
loop-k-preserved c =
    let c4 = c in (
      c4.loop-k.invariant.0,
      c4.loop-k.invariant.1,
      c4.loop-k.invariant.2,
      scan-next c4.loop-k.invariant.3 (omega arith) (sym c.is_fault_at.ensures ∙ c.if-is_fault_at.false),
    )

pub returns : goal.returns
returns c = scan-done c.loop-k.invariant.3 (omega arith)
