use Prim.Native.Nat.{◌-◌}
use Rattle.paper_entry.proofs.Lengths.{accepted-good, whole-records}
use Rattle.index_walk.proofs.RowsLoop.{storing-start, storing-room, storing-next, storing-done}
use native.Mathlib.Omega.{arith}
use borrow.Author.Rules.{rules}
use Rattle.index_walk.proofs.walk.store_rows.Goals as goal

pub overflow_cast-n : goal.overflow_cast-n
overflow_cast-n c =
    let few = (whole-records _ (accepted-good _ c.requires.accepted)).1 in
    search rules

pub loop-i-init : goal.loop-i-init
loop-i-init c =
    let at = c in
    rw c.empty_row-row.ensures (storing-start at.args.entry.now at.args.index.now at.requires)

pub overflow_add-at : goal.overflow_add-at
overflow_add-at c =
    let few = c.loop-i.invariant.few in
    record { fits = omega (arith, few, c.loop-i-test.true) }

pub rows_behind-rows-requires : goal.rows_behind-rows-requires
rows_behind-rows-requires c =
    let inv = c.loop-i.invariant in
    omega (arith, inv.rows_few, inv.few, c.loop-i-test.true)

pub note_row-row-requires : goal.note_row-row-requires
note_row-row-requires c =
    let inv = c.loop-i.invariant in
    let more = c.loop-i-test.true in
    rw (c.rows_behind-rows.ensures, c.system_at-found.ensures.identifier_value) (storing-room inv more)

pub overflow_add-i : goal.overflow_add-i
overflow_add-i c =
    let few = c.loop-i.invariant.few in
    record { fits = omega (arith, few, c.loop-i-test.true) }

pub overflow_add-i-in-loop-i : goal.overflow_add-i-in-loop-i
overflow_add-i-in-loop-i c =
    let few = c.loop-i.invariant.few in
    let more = c.loop-i-test.true in
    let inside = c.system_at-found.ensures.inside_bound in
    record { fits = omega (arith, few, more, inside) }

pub loop-i-smaller : goal.loop-i-smaller
loop-i-smaller c =
    let more = c.loop-i-test.true in
    omega (arith, more)

pub loop-i-preserved : goal.loop-i-preserved
loop-i-preserved c =
    let inv = c.loop-i.invariant in
    let more = c.loop-i-test.true in
    let found = c.system_at-found.ensures in
    let rows = c.rows_behind-rows.ensures in
    let stored = c.note_row-row in
    rw (rows, found.identifier_value, found.hand_value, found.inside_value)
    (storing-next inv more _ (rw (found.identifier_value, found.hand_value) at stored.ensures.value) _
    (rw (rows, found.identifier_value) at stored.ensures.index_after) stored.auto.index)

pub returns : goal.returns
returns c = storing-done c.loop-i.invariant c.loop-i-test.false
