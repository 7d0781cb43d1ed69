use Prim.Native.Nat.{◌-◌}
use Rattle.merges.proofs.asking.ask_subentries.Goals as goal

-- Safe, and ends: ten columns go at each turn.

pub loop-at-init : goal.loop-at-init
loop-at-init c = tt

pub loop-at-preserved : goal.loop-at-preserved
loop-at-preserved c = tt

pub returns : goal.returns
returns c = tt
