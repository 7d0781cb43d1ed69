use mathlib.Core.Path.{◌≡◌, ap, ◌∙◌}
use lib.ListN.{length}
use Prim.Native.Nat.{ℕ, ◌+◌, ◌-◌, ◌*◌}
use Rattle.std.proofs.Common.{arith}
use Rattle.paper_number.proofs.Steps.{counts-more, small-more}
use Rattle.paper_number.proofs.Tens.{ten-le}
use Rattle.paper_number.specs.Walk.{read_from}
use Rattle.number_walk.proofs.walk.digits_from.Goals as goal

pub loop-i-init : goal.loop-i-init
loop-i-init c =
    let e : 0 ≡ c.args.from - c.args.from = omega arith in
    (omega arith, c.requires.0.inside, λ k h. h, λ t h. ap (λ (k : ℕ). read_from (t k c.args.first) c.args.from c.args.s.now) e)

pub overflow_mul-number : goal.overflow_mul-number
overflow_mul-number c =
    let p = ten-le {i = c.loop-i.i} {j = 10} (omega arith) in
    omega (arith, c.loop-i.invariant.2 1 (omega arith), p)

pub overflow_add-number : goal.overflow_add-number
overflow_add-number c =
    let p = ten-le {i = c.loop-i.i} {j = 10} (omega arith) in
    omega (arith, c.loop-i.invariant.2 1 (omega arith), p)

pub loop-i-preserved : goal.loop-i-preserved
loop-i-preserved c =
    let loop = c.loop-i in
    let i = loop.i in
    let from = c.args.from in
    let d = c.in-Some.d in
    let x = c.in-Some.ensures in
    let e : i - from + 1 ≡ i + 1 - from = omega (arith, loop.invariant.0) in
    rw c.from.ensures (
      omega (arith, loop.invariant.0),
      omega arith,
      λ k h. small-more i loop.number d k x.1 (loop.invariant.2 k h),
      λ t h. loop.invariant.3 t h ∙ counts-more c.args.s.now t (i - from) loop.number i d x (h (i - from) loop.number d)
          ∙ ap (λ (k : ℕ). read_from (t k (loop.number * 10 + d)) (i + 1) c.args.s.now) e,
    )

pub returns-in_default : goal.returns-in_default
returns-in_default c =
    let loop = c.loop-i in
    record {
      reads = loop.invariant.3;
      past = loop.invariant.0;
      inside = loop.invariant.1;
      stops = c.in_default.ensures;
      small = loop.invariant.2;
    }

pub returns : goal.returns
returns c =
    let loop = c.loop-i in
    let s = c.args.s.now in
    let e : loop.i ≡ length s = omega (arith, loop.invariant.1) in
    record {
      reads = λ t h. loop.invariant.3 t h ∙ ap (λ (k : ℕ). read_from (t (k - c.args.from) loop.number) k s) e;
      past = c.requires.0.inside;
      inside = omega arith;
      stops = λ h. absurd (omega arith);
      small = λ k h. rw (← e) (loop.invariant.2 k h);
    }
