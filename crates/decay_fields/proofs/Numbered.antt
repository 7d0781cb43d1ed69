-- Groups, types and energies are numbered from 1. Assumes nothing.
use mathlib.Core.Path.{◌≡◌}
use mathlib.Core.Bool.{true}
use mathlib.Core.List.{List}
use Prim.Native.Nat.{ℕ, ◌≤◌}
use borrow.Author.Tests.{leb-true}
use lib.Dec.{leb}
use Rattle.laws.proofs.Booleans.{and_left, and_right}
use Rattle.paper_record.specs.Text.{within}
use Rattle.paper_decay_fields.specs.Asked.{is_code, groups_in, has_group}

pub from_one : (n i : ℕ) → within 1 n i ≡ true → 1 ≤ i
from_one n i e = leb-true 1 i (and_left (leb 1 i) (leb i n) e)

pub group-from-one : (l : List ℕ) (k : ℕ) → has_group l k ≡ true → 1 ≤ k
unfolding has_group
group-from-one l k e = from_one (groups_in l) k (and_right (is_code l) (within 1 (groups_in l) k) e)
