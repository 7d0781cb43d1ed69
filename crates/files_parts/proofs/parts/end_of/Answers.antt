use Prim.Native.Nat.{◌-◌}
use Rattle.paper_files.proofs.EntryRecords.{end-scan}
use Rattle.paper_files.specs.Parts.{named_at}
use Rattle.laws.proofs.Search.{scan-done, scan-found, scan-next}
use mathlib.Core.Path.{◌∙◌, sym}
use native.Mathlib.Omega.{arith}
use Rattle.files_parts.proofs.parts.end_of.Goals as goal

pub loop-i-init : goal.loop-i-init
loop-i-init c = (c.requires, end-scan c.args.bytes.now c.args.n c.requires)

pub named_at-requires : goal.named_at-requires
named_at-requires c =
    (let n = c.loop-i.invariant.0 in omega arith)

pub returns-then-named_at : goal.returns-then-named_at
returns-then-named_at c =
    let k = c.loop-i.invariant.1 in
    scan-found k (omega arith) (sym c.named_at.ensures ∙ c.if-named_at.true)

pub loop-i-preserved : goal.loop-i-preserved
loop-i-preserved c =
    let k = c.loop-i.invariant in
    (k.0, scan-next k.1 (omega arith) (sym c.named_at.ensures ∙ c.if-named_at.false))

pub returns : goal.returns
returns c = scan-done c.loop-i.invariant.1 (omega arith)
