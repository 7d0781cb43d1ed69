use Rattle.entry_step.proofs.Numbered.{ranges-judge}
use Rattle.paper_entry.proofs.Lengths.{whole-records}
use Rattle.entry_step.proofs.Stepping.{next-bytes, records-counted, run-start, stands-start}
use Rattle.laws.proofs.Table.{at}
use Rattle.laws.proofs.Turns.{run-done, run-next, run_out}
use Rattle.paper_number.proofs.Bounds.{within}
use native.Mathlib.Nat.{add-sub_cancel_left}
use Prim.Native.Nat.{◌-◌}
use Rattle.paper_entry.specs.Judging.{judge_of}
use lib.ListN.{length-drop, length-take}
use mathlib.Core.Path.{◌∙◌, refl, sym}
use native.Mathlib.Omega.{arith}
use borrow.Author.Rules.{rules}
use Rattle.entry.proofs.judge.judge.Goals as goal

pub returns-then-not-length_good : goal.returns-then-not-length_good
unfolding judge_of
returns-then-not-length_good c =
    rw (
      ← c.length_good.ensures,
      c.if-not-length_good.true,
    ) c.refused.ensures

pub loop-i-init : goal.loop-i-init
loop-i-init c =
    let e = sym c.length_good.ensures
    ∙ c.if-not-length_good.false in
    let g = whole-records _ e in (
      search rules,
      g.0,
      g.1,
      rw c.new-j.ensures refl,
      rw c.new-j.ensures stands-start,
      rw c.new-j.ensures
          (run-start _ e),
    )

pub record_of-at-requires : goal.record_of-at-requires
record_of-at-requires c = let h = c.loop-i.invariant.4.bounded.records in search rules

pub step-stepped-requires : goal.step-stepped-requires
step-stepped-requires c =
    record {
      stands = c.loop-i.invariant.4;
      few =
          omega arith;
      whole = record { long = simp (length-take, length-drop) (omega arith) };
    }

pub returns-in-Err : goal.returns-in-Err
returns-in-Err c =
    let h = rw add-sub_cancel_left at c.step-stepped.ensures.same in
    c.refused-in-Err.ensures
    ∙ run_out
    c.loop-i.invariant.5
    c.loop-i-test.true (rw (
      ← h,
      c.in-Err.is,
      c.record_of-at.ensures,
    ) refl) ∙ ranges-judge _

pub loop-i-preserved : goal.loop-i-preserved
loop-i-preserved c =
    let h = rw add-sub_cancel_left at c.step-stepped.ensures.same in
    let w = rw (
      add-sub_cancel_left,
      c.in-Ok.is,
      ← next-bytes _ _,
    ) at c.step-stepped.ensures.within in (
      c.loop-i.invariant.0,
      c.loop-i.invariant.1,
      c.loop-i.invariant.2,
      records-counted _ _ c.in-Ok.next (omega arith) w,
      w,
      run-next
          c.loop-i.invariant.5 (omega arith) (rw (← h, c.in-Ok.is)),
    )

pub finish-requires : goal.finish-requires
finish-requires c = c.loop-i.invariant.4.bounded

pub returns : goal.returns
returns c = c.finish.ensures ∙ run-done c.loop-i.invariant.5 (omega arith) ∙ ranges-judge _
