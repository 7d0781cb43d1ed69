use Prim.Native.Nat.{◌%◌}
use mathlib.Core.Path.{◌≡◌, refl, ◌∙◌}
use mathlib.Core.Bool.{false}
use native.Mathlib.Omega.{arith}
use borrow.Author.Tests.{eq-eqb, ne_eqb}
use lib.Dec.{eqb}
use lib.ListN.{length}
use Rattle.paper_index.specs.ByIndex.{row_by_index}
use Rattle.index_finding.proofs.finding.find_row.Goals as goal

pub returns-then-rest-ne0 : goal.returns-then-rest-ne0
unfolding row_by_index
returns-then-rest-ne0 c =
    let parts : eqb (length c.args.index.now % 5) 0 ≡ false = ne_eqb _ _ c.if-rest-ne0.true in
    c.no_such_row.ensures ∙ rw parts refl

pub returns-then-before-rows : goal.returns-then-before-rows
unfolding row_by_index
returns-then-before-rows c =
    c.no_such_row-then-before-rows.ensures
    ∙ rw (
      eq-eqb _ _ c.if-rest-ne0.false,
      ← c.rows_before-before.ensures.value,
      eq-eqb _ _ c.if-before-rows.true,
    ) refl

pub row_in-row-requires : goal.row_in-row-requires
row_in-row-requires c = let l = c.rows_before-before.ensures.upper_bound in omega (arith, c.if-before-rows.false)

pub returns : goal.returns
unfolding row_by_index
returns c =
    rw (
      eq-eqb _ _ c.if-rest-ne0.false,
      ← c.rows_before-before.ensures.value,
      ne_eqb _ _ c.if-before-rows.false,
      ← c.row_in-row.ensures,
    ) refl
