use Prim.Native.Nat.{◌-◌}
use Rattle.entry_step.proofs.Walking.{walking_start}
use Rattle.paper_entry.proofs.Lengths.{whole-records}
use Rattle.reasons.proofs.RangesAt.{walking-to}
use native.Mathlib.Omega.{arith}
use Rattle.reasons.proofs.state.state_at.Goals as goal

pub loop-i-init : goal.loop-i-init
loop-i-init c = (
  c.requires.n_in_bounds,
  rw c.new-j.ensures (walking_start _ c.requires.value),
  omega arith,
)

pub pass-p-requires : goal.pass-p-requires
pass-p-requires c =
    record {
      walking = c.loop-i.invariant.1;
      i_in_bounds = omega (arith, c.loop-i.invariant.0, c.loop-i-test.true);
    }

pub overflow_add-i : goal.overflow_add-i
overflow_add-i c =
    let few = whole-records _ c.loop-i.invariant.1.good in
    omega (
      arith,
      c.loop-i.invariant.0,
      c.loop-i-test.true,
    )

pub loop-i-smaller : goal.loop-i-smaller
loop-i-smaller c = omega (arith, c.loop-i-test.true)

pub loop-i-preserved : goal.loop-i-preserved
loop-i-preserved c = (
  c.loop-i.invariant.0,
  c.pass-p.ensures.walking,
  omega (
    arith,
    c.loop-i-test.true,
  ),
)

pub returns : goal.returns
returns c = walking-to _ _ c.loop-i.invariant.2 c.loop-i-test.false c.loop-i.invariant.1
