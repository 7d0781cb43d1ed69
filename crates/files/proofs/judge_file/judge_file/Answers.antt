use Rattle.files_step.proofs.Along.{along-start, along-ahead, along-ready, along-out, along-done}
use Prim.Native.Nat.{◌-◌}
use Rattle.paper_files.specs.File.{judge_file}
use mathlib.Core.Path.{◌∙◌, sym}
use native.Mathlib.Nat.{add-sub_cancel_left}
use native.Mathlib.Omega.{arith}
use borrow.Author.Rules.{rules}
use Rattle.files.proofs.judge_file.judge_file.Goals as goal

pub returns-then-not-file_length_good : goal.returns-then-not-file_length_good
unfolding judge_file
returns-then-not-file_length_good c = rw (← c.file_length_good.ensures, c.if-not-file_length_good.true) c.refused.ensures

pub loop-i-init : goal.loop-i-init
loop-i-init c = let e = sym c.file_length_good.ensures ∙ c.if-not-file_length_good.false in (search rules, rw c.new-f.ensures (along-start _ e))

pub onward-s-requires : goal.onward-s-requires
onward-s-requires c =
    along-ahead c.loop-i.invariant.1 (omega (arith, c.loop-i-test.true, c.loop-i.invariant.0))

pub record_of-at-requires : goal.record_of-at-requires
record_of-at-requires c = let g = rw c.in-Err.is at c.onward-s.ensures in record { number = omega (arith, g.0.there, g.0.along.few, c.loop-i.invariant.1.stood.sane.records) }

pub overflow_mul-from : goal.overflow_mul-from
overflow_mul-from c = let g = rw c.in-Err.is at c.onward-s.ensures in omega (arith, g.0.there, g.0.along.few)

pub ordinal-ordinal-requires : goal.ordinal-ordinal-requires
ordinal-ordinal-requires c = let g = rw c.in-Err.is at c.onward-s.ensures in let ready = along-ready g.0.along g.0.there in
    record {
      whole = rw add-sub_cancel_left ready.whole;
      entries_bound = omega (arith, ready.few, ready.sane.entries);
    }

pub returns-in-Err : goal.returns-in-Err
returns-in-Err c = let g = rw c.in-Err.is at c.onward-s.ensures in let ordinal = rw add-sub_cancel_left at c.ordinal-ordinal.ensures in c.refused_within.ensures ∙ along-out g.0.along g.0.there g.1 ordinal c.record_of-at.ensures

pub loop-i-smaller : goal.loop-i-smaller
loop-i-smaller c = let g = rw c.in-Ok.is at c.onward-s.ensures in omega (arith, g.1, c.loop-i.invariant.1.counted, c.loop-i-test.true)

pub loop-i-preserved : goal.loop-i-preserved
loop-i-preserved c = let g = rw c.in-Ok.is at c.onward-s.ensures in (c.loop-i.invariant.0, g.0)

pub finish-requires : goal.finish-requires
finish-requires c = c.loop-i.invariant.1.stood.sane.records

pub returns : goal.returns
returns c = c.finish.ensures ∙ along-done c.loop-i.invariant.1 (omega arith)
