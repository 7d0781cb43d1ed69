use mathlib.Core.Path.{◌≡◌}
use Prim.Native.Nat.{◌+◌, ◌≤◌}
use lib.ListN.{length, drop}
use Rattle.paper_decay_run.specs.Run.{lead_of}
use Rattle.decay_words.proofs.words.lead_of.Given as goal

abbrev pub invariant-loop-i : goal.invariant-loop-i
invariant-loop-i l = (l.i ≤ length l.text) × (lead_of l.text ≡ l.i + lead_of (drop l.i l.text))
