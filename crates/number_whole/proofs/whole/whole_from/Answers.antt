use mathlib.Core.Path.{◌≡◌, sym, ap, ◌∙◌}
use Prim.Native.Nat.{ℕ, ◌+◌, ◌-◌, ◌/◌}
use Rattle.std.proofs.Common.{arith}
use Rattle.paper_number.specs.Whole.{whole_from}
use Rattle.paper_number.proofs.WholeFrom.{from-broken, from_end, from_step}
use Rattle.number_whole.proofs.whole.whole_from.Goals as goal

pub returns-then-number-ne0 : goal.returns-then-number-ne0
returns-then-number-ne0 c =
    let loop = c.loop in
    sym (loop.invariant.1 ∙ from-broken (c.args.behind - loop.counter) loop.number (omega arith) c.if-number-ne0.true)

pub loop-preserved : goal.loop-preserved
loop-preserved c =
    let loop = c.loop in
    let behind = c.args.behind in
    let e : behind - loop.counter - 1 ≡ behind - (loop.counter + 1) = omega arith in (
      omega arith,
      loop.invariant.1 ∙ from_step (behind - loop.counter) loop.number (omega arith) c.if-number-ne0.false
          ∙ ap (λ (p : ℕ). whole_from p (loop.number / 10)) e,
    )

pub returns : goal.returns
returns c = let loop = c.loop in
    sym (loop.invariant.1 ∙ from_end (c.args.behind - loop.counter) loop.number (omega (arith, loop.invariant.0)))
