use Rattle.paper_rules.proofs.CodesNext.{codes-start, codes-found, codes-next, codes-done}
use mathlib.Core.Path.{◌∙◌, ◌≡◌, refl, sym}
use native.Mathlib.Omega.{arith}
use Rattle.rules_codes.proofs.codes.code_in.Goals as goal

pub loop-i-init : goal.loop-i-init
loop-i-init c = (refl, c.requires, codes-start c.args.part.now c.args.n)

pub returns-then-code_at : goal.returns-then-code_at
returns-then-code_at c =
    let c3 = c in
    let c5 = c3 in
    let t = c5.loop-i.invariant.0 in
    let e : c.is_under-under.result ≡ _ =
    (rw c3.field.ensures at c.is_under-under.ensures) in
    codes-found c5.loop-i.invariant.2 (omega arith) c.is_under-under.result e
    (sym c.if-code_at.true ∙ c.code_at.ensures)

pub loop-i-preserved : goal.loop-i-preserved
loop-i-preserved c =
    let c3 = c in
    let c5 = c3 in
    let t = c5.loop-i.invariant.0 in
    let e : c.is_under-under.result ≡ _ =
    (rw c3.field.ensures at c.is_under-under.ensures) in (
      c5.loop-i.invariant.0,
      c5.loop-i.invariant.1,
      codes-next c5.loop-i.invariant.2 (omega arith) c.is_under-under.result e
          (sym c.if-code_at.false ∙ c.code_at.ensures),
    )

pub returns : goal.returns
returns c = codes-done c.loop-i.invariant.2 (omega (arith, c.loop-i.invariant.0))
