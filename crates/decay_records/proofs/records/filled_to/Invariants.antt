use mathlib.Core.Path.{◌≡◌}
use lib.ListN.{length}
use Rattle.laws.specs.Search.{first}
use Rattle.laws.proofs.Search.{Scan}
use Rattle.paper_decay.specs.Records.{filled_behind}
use Rattle.decay_records.proofs.records.filled_to.Given as goal

abbrev pub invariant-loop-i : goal.invariant-loop-i
invariant-loop-i l = (l.n ≡ length l.text) × Scan (filled_behind l.text) (first (filled_behind l.text) 0 (length l.text)) l.i (length l.text)
