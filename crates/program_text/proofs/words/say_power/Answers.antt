use native.Mathlib.Omega.{arith}
use Rattle.laws.proofs.Bits.{above, below, flat, size_fits, size-made, wide}
use Rattle.program_text.proofs.words.say_power.Goals as goal

-- A power below nought is made wider before it is turned round, so its size fits.

pub overflow_cast-q : goal.overflow_cast-q
overflow_cast-q c = rw (flat _ c.ranges.p) (wide _ c.ranges.p)

pub overflow_sub-size : goal.overflow_sub-size
overflow_sub-size c =
    let (n, e, l) = below c.args.p c.ranges.p c.if-p-lt0.true in
    rw e (size_fits n l)

pub overflow_cast-size : goal.overflow_cast-size
overflow_cast-size c =
    let b = c in
    let (n, e, l) = below b.args.p b.ranges.p b.if-p-lt0.true in
    rw (e, size-made n l) (tt, record { fits = omega arith })

pub overflow_cast-p : goal.overflow_cast-p
overflow_cast-p c =
    let (n, e, l) = above c.args.p c.ranges.p c.if-p-lt0.false in
    rw (flat _ c.ranges.p, e) (tt, record { fits = omega arith })

pub returns-then-p-lt0 : goal.returns-then-p-lt0
returns-then-p-lt0 c = tt

pub returns-else-p-lt0 : goal.returns-else-p-lt0
returns-else-p-lt0 c = tt
