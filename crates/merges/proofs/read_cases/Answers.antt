use Prim.Native.Nat.{◌-◌}
use Rattle.merges.proofs.read_cases.Goals as goal

-- Safe, and ends: each case brings the text's end nearer. The three rooms keep their lengths.

pub returns-then-text-between : goal.returns-then-text-between
returns-then-text-between c = tt

pub returns : goal.returns
returns c = tt
