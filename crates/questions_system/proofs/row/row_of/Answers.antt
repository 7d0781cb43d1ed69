use Prim.Native.Nat.{◌-◌}
use Rattle.paper_entry.proofs.Lengths.{accepted-good, whole-records}
use Rattle.system_records.proofs.MetRows.{met-row}
use Rattle.system_records.proofs.RowFollowed.{row-begun, row-followed, row-ended}
use native.Mathlib.Omega.{arith}
use borrow.Author.Rules.{rules}
use Rattle.questions_system.proofs.row.row_of.Goals as goal

pub overflow_cast-n : goal.overflow_cast-n
overflow_cast-n c =
    let few = (whole-records _ (accepted-good _ c.requires)).1 in
    search rules

pub loop-i-init : goal.loop-i-init
loop-i-init c =
    let accepted = c.requires in (
      accepted,
      search rules,
      (whole-records _ (accepted-good _ accepted)).1,
      rw c.empty_row-row.ensures (row-begun _ _),
    )

pub loop-i-preserved : goal.loop-i-preserved
loop-i-preserved c =
    let inv = c.loop-i.invariant in
    let more = c.loop-i-test.true in
    let found = c.system_at-found.ensures in
    let next = row-followed _ inv.0 _ _ _ _ inv.3 (omega (arith, inv.1, more)) in
    (inv.0, inv.1, inv.2, rw (c.noted_in-row.ensures, found.identifier_value, found.hand_value, found.inside_value) next)

pub returns : goal.returns
returns c =
    let inv = c.loop-i.invariant in
    let same = row-ended _ inv.0 _ _ _ _ inv.3 (omega (arith, inv.1, c.loop-i-test.false)) in
    record {
      value = same;
      met = rw same (met-row _ inv.0 _);
    }
