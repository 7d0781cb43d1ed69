use Rattle.laws.proofs.Search.{scan-all, scan-done, scan-found, scan-next}
use mathlib.Core.Path.{◌∙◌, sym}
use native.Mathlib.Omega.{arith}
use Rattle.rules_section.proofs.headings.repeated_at.Goals as goal

pub loop-k-init : goal.loop-k-init
loop-k-init c = (c.requires.n_bound, scan-all _)

pub equal_heading-found-requires : goal.equal_heading-found-requires
equal_heading-found-requires c =
    record {
      whole = c.requires.whole;
      left_bound = omega arith;
    }

pub is_clash-requires : goal.is_clash-requires
is_clash-requires c = omega arith

pub returns-then-is_clash : goal.returns-then-is_clash
returns-then-is_clash c =
    scan-found c.loop-k.invariant.1 (omega arith)
    (rw (← c.equal_heading-found.ensures) (sym c.is_clash.ensures ∙ c.if-is_clash.true))

pub loop-k-preserved : goal.loop-k-preserved
loop-k-preserved c = (
  c.loop-k.invariant.0,
  scan-next c.loop-k.invariant.1 (omega arith)
      (rw (← c.equal_heading-found.ensures) (sym c.is_clash.ensures ∙ c.if-is_clash.false)),
)

pub returns : goal.returns
returns c = scan-done c.loop-k.invariant.1 (omega arith)
