use mathlib.Core.Path.{◌≡◌, refl, ap, ◌∙◌}
use Prim.Native.Nat.{ℕ}
use lib.ListN.{length}
use Rattle.std.proofs.Common.{arith}
use Rattle.paper_number.proofs.Steps.{skips-more}
use Rattle.paper_number.specs.Walk.{read_from}
use Rattle.number_walk.proofs.walk.blanks_from.Goals as goal

pub loop-i-init : goal.loop-i-init
loop-i-init c = (omega arith, c.requires, λ t e. refl)

pub loop-i-preserved : goal.loop-i-preserved
loop-i-preserved c =
    let loop = c.loop-i in (
      omega (arith, loop.invariant.0),
      omega arith,
      λ t e. loop.invariant.2 t e ∙ skips-more c.args.s.now t loop.i (omega arith) c.if-s-i-ne32.false e,
    )

pub returns-then-s-i-ne32 : goal.returns-then-s-i-ne32
returns-then-s-i-ne32 c =
    let loop = c.loop-i in
    record { reads = loop.invariant.2; past = loop.invariant.0; inside = loop.invariant.1; stops = λ h. c.if-s-i-ne32.true }

pub returns : goal.returns
returns c =
    let loop = c.loop-i in
    let e : loop.i ≡ length c.args.s.now = omega (arith, loop.invariant.1) in
    record {
      reads = λ t q. loop.invariant.2 t q ∙ ap (λ (k : ℕ). read_from t k c.args.s.now) e;
      past = c.requires;
      inside = omega arith;
      stops = λ h. absurd (omega arith);
    }
