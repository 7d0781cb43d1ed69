-- What is claimed of good entries: the first two sentences of demand 2. Each type is that of a law in proofs/Theorems,
-- under the law's name.
use Rattle.std.specs.Prelude.{ℕ, ◌≡◌, ◌↔◌, List}
use Rattle.paper_entry.specs.Judging.{judge_of, Accepted}
use Rattle.paper_entry.specs.Verdict.{accepted}
use Rattle.good.specs.Good.{GoodBytes}
use Rattle.good.specs.Totals.{totals_of}

-- "An entry is accepted exactly when it meets the record, nesting, count, pointer and number rules": when its bytes are
-- those of a good entry
abbrev pub AcceptedExactly : Type 0
AcceptedExactly = (s : List ℕ) → Accepted s ↔ GoodBytes s

-- "An accepted entry comes with its totals as counted there": the sums over the parts of the good entry, whichever way
-- the bytes are taken for one
abbrev pub GoodAccepted : Type 0
GoodAccepted = (s : List ℕ) (g : GoodBytes s) → judge_of s ≡ accepted (totals_of g.entry)
