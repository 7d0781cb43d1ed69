use Rattle.laws.proofs.Search.{scan-all, scan-done, scan-found, scan-next}
use Rattle.paper_record.specs.Identifier.{OTHER, identifier_of}
use mathlib.Core.Path.{◌∙◌, sym}
use native.Mathlib.Omega.{arith}
use Rattle.record_names.proofs.identifier.Names.identifier_of.Goals as goal

pub loop-k-init : goal.loop-k-init
unfolding identifier_of
loop-k-init c = scan-all OTHER

pub returns-then-is_name : goal.returns-then-is_name
returns-then-is_name c =
    scan-found c.loop-k.invariant (omega arith) (sym c.is_name.ensures ∙ c.if-is_name.true)

pub loop-k-preserved : goal.loop-k-preserved
loop-k-preserved c =
    scan-next c.loop-k.invariant (omega arith) (sym c.is_name.ensures ∙ c.if-is_name.false)

pub returns : goal.returns
returns c = scan-done c.loop-k.invariant (omega arith)
