use Rattle.files_step.proofs.Over.{over-start, over-full, over_done, over-ready, over-fault, over-room}
use Rattle.files_step.proofs.Over.{over-ended, over-next}
use Rattle.files_step.proofs.Along.{own-few, own-lent}
use mathlib.Core.Path.{◌∙◌, sym}
use Prim.Native.Nat.{◌-◌}
use native.Mathlib.Nat.{add-sub_cancel_left}
use native.Mathlib.Omega.{arith}
use borrow.Author.Rules.{rules}
use Rattle.files_step.proofs.step.over_entry.Goals as goal

pub loop-i-init : goal.loop-i-init
loop-i-init c = (search rules, over-start _ _ c.requires.ahead c.requires.records_value)

pub returns-then-own-ge-MOST_RECORDS : goal.returns-then-own-ge-MOST_RECORDS
returns-then-own-ge-MOST_RECORDS c = rw c.on-here.ensures (over-full c.loop-i.invariant.1 c.if-own-ge-MOST_RECORDS.true)

pub overflow_mul-from : goal.overflow_mul-from
overflow_mul-from c = let w = c.loop-i.invariant.1.along.whole in search rules

pub overflow_add-past : goal.overflow_add-past
overflow_add-past c = let w = c.loop-i.invariant.1.along.whole in search rules

pub overflow_sub-first : goal.overflow_sub-first
overflow_sub-first c = let own = own-few c.loop-i.invariant.1.along in omega (arith, c.offset_of.ensures)

pub step-stepped-requires : goal.step-stepped-requires
step-stepped-requires c =
    rw (own-lent c.loop-i.invariant.1.along _ c.offset_of.ensures, add-sub_cancel_left) (over-ready c.loop-i.invariant.1 (omega arith) (omega arith))

pub behind-ended-requires : goal.behind-ended-requires
behind-ended-requires c = rw c.on-here-then-is_done.ensures (over-room c.loop-i.invariant.1 (omega (arith, c.loop-i-test.true, c.loop-i.invariant.0)) (omega (arith, c.if-own-ge-MOST_RECORDS.false)) c.step-stepped.result (rw (own-lent c.loop-i.invariant.1.along _ c.offset_of.ensures, add-sub_cancel_left) at c.step-stepped.ensures.same) _ c.in-Ok.is (rw (own-lent c.loop-i.invariant.1.along _ c.offset_of.ensures, add-sub_cancel_left, c.in-Ok.is) at c.step-stepped.ensures.within))

pub returns-then-is_done : goal.returns-then-is_done
returns-then-is_done c = rw (c.behind-ended.ensures, c.on-here-then-is_done.ensures) (over-ended c.loop-i.invariant.1 (omega (arith, c.loop-i-test.true, c.loop-i.invariant.0)) (omega (arith, c.if-own-ge-MOST_RECORDS.false)) c.step-stepped.result (rw (own-lent c.loop-i.invariant.1.along _ c.offset_of.ensures, add-sub_cancel_left) at c.step-stepped.ensures.same) _ c.in-Ok.is (rw (own-lent c.loop-i.invariant.1.along _ c.offset_of.ensures, add-sub_cancel_left, c.in-Ok.is) at c.step-stepped.ensures.within) (sym c.is_done.ensures ∙ c.if-is_done.true))

pub returns-in-Err : goal.returns-in-Err
returns-in-Err c = rw c.on-here-in-Err.ensures (over-fault c.loop-i.invariant.1 (omega (arith, c.loop-i-test.true, c.loop-i.invariant.0)) (omega (arith, c.if-own-ge-MOST_RECORDS.false)) c.step-stepped.result (rw (own-lent c.loop-i.invariant.1.along _ c.offset_of.ensures, add-sub_cancel_left) at c.step-stepped.ensures.same) _ c.in-Err.is)

pub overflow_add-i : goal.overflow_add-i
overflow_add-i c = let w = c.loop-i.invariant.1.along.few in search rules

pub loop-i-preserved : goal.loop-i-preserved
loop-i-preserved c = (c.loop-i.invariant.0, over-next c.loop-i.invariant.1 (omega (arith, c.loop-i-test.true, c.loop-i.invariant.0)) (omega (arith, c.if-own-ge-MOST_RECORDS.false)) c.step-stepped.result (rw (own-lent c.loop-i.invariant.1.along _ c.offset_of.ensures, add-sub_cancel_left) at c.step-stepped.ensures.same) _ c.in-Ok.is (rw (own-lent c.loop-i.invariant.1.along _ c.offset_of.ensures, add-sub_cancel_left, c.in-Ok.is) at c.step-stepped.ensures.within) (sym c.is_done.ensures ∙ c.if-is_done.false))

pub returns : goal.returns
returns c = rw c.on-here-2.ensures (over_done c.loop-i.invariant.1 (omega arith))
