-- COMMON announces at most eighteen columns where its N1 is within the limit.
-- Assumes nothing.
use Prim.Native.Nat.{ℕ}
use mathlib.Core.Path.{◌≡◌}
use mathlib.Core.Bool.{true}
use borrow.Author.Tests.{leb-true}
use lib.Dec.{leb}
use Rattle.laws.proofs.Booleans.{and_right}
use Rattle.paper_rules.specs.Limits.{MOST-COLUMNS}
use Rattle.paper_rules.specs.Counts.{Few, limit_n1, meets}

pub few-columns : (role n : ℕ) → meets (limit_n1 role) n ≡ true → Few role n
unfolding limit_n1
few-columns role n e =
    record { columns = λ common. leb-true n MOST-COLUMNS (and_right (leb 1 n) (leb n MOST-COLUMNS) (rw common at e)) }
