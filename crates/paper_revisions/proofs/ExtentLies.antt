-- The records of a subentry lie in the entry; whether there are any, and whose are taken, by the extents alone. Assumes nothing.
use Prim.Native.Nat.{ℕ, ◌+◌, ◌*◌, ◌-◌, ◌<◌, ◌≤◌}
use mathlib.Core.Path.{◌≡◌, refl}
use mathlib.Core.Bool.{true, false}
use mathlib.Core.List.{List}
use native.Mathlib.Omega.{arith}
use lib.ListN.{length}
use borrow.Author.Tests.{ltb-true}
use Rattle.laws.proofs.Search.{first-from, first_to}
use Rattle.paper_record.specs.Text.{within}
use Rattle.paper_rules.specs.Limits.{LAST-SUBENTRY}
use Rattle.paper_revisions.specs.declared.types.Extent.{Extent}
use Rattle.paper_revisions.specs.Extents.{is_of, is_other, records_of, first_saying, extent_of, has}
use Rattle.paper_revisions.specs.Taken.{some, by_revision, Lies}
use Rattle.paper_revisions.specs.Picking.{in_revision}

pub extent-lies : (s : List ℕ) (n : ℕ) → Lies s (extent_of s n)
unfolding extent_of
extent-lies s n =
    let a = first_to (is_of s n) 0 (records_of s) in
    let b = first_to (is_other s n) (first_saying s n) (records_of s - first_saying s n) in
    record { rises = first-from (is_other s n) (first_saying s n) (records_of s - first_saying s n); ends = omega arith }

-- the first of some records
pub first-inside : (s : List ℕ) (e : Extent) → Lies s e → some e ≡ true → (e.from + 1) * 81 ≤ length s
first-inside s e l h =
    let below : e.from < e.past = ltb-true e.from e.past h in
    omega (arith, l.ends)

-- a number that is no subentry's
pub has-no-number : (s : List ℕ) (n : ℕ) → within 1 LAST-SUBENTRY n ≡ false → has s n ≡ false
unfolding has
has-no-number s n e = rw e refl

-- ---- of a subentry's number

module _ (n : ℕ) (number : within 1 LAST-SUBENTRY n ≡ true) where
  pub has-by : (s : List ℕ) → has s n ≡ some (extent_of s n)
  unfolding has
  has-by s = rw number refl

  pub in-revision-by : (held revision : List ℕ)
      → in_revision held revision n ≡ by_revision held revision (extent_of held n) (extent_of revision n)
  unfolding in_revision
  in-revision-by held revision = rw (has-by held, has-by revision) refl
