use Prim.Native.Nat.{ℕ, ◌+◌, ◌-◌, ◌*◌}
use mathlib.Core.Path.{◌≡◌, ap, ◌∙◌}
use native.Mathlib.Omega.{arith}
use native.Mathlib.Nat.{zero-add}
use Rattle.paper_decay_run.specs.Text.{filled_text}
use Rattle.paper_decay_run.specs.Run.{run_piece, run_records}
use Rattle.decay_numbers.proofs.Storing.{storing-begun, storing-more, storing-done}
use Rattle.decay_numbers.proofs.Words.{between-long}
use Rattle.decay_run.proofs.Breaks.{text-whole, text-part, record-few, records-next, records-last}
use Rattle.decay_run.proofs.records.put_records.Goals as goal

pub loop-i-init : goal.loop-i-init
loop-i-init c =
    let a = c.args in (
      storing-begun a.out.now 0 (run_records 0 a.entry.now a.first (a.last - a.first) a.column),
      c.requires.first_le_last.0,
      omega arith,
      omega arith,
    )

pub put_filled-put-requires : goal.put_filled-put-requires
put_filled-put-requires c =
    let v = c.loop-i in
    let s = c.args.entry.now in
    let long = between-long s (v.i * 81 + 11) (v.i * 81 + 11 + 55) (omega arith) (omega arith) in
    (omega arith, v.invariant.3)

pub loop-i-preserved : goal.loop-i-preserved
loop-i-preserved c =
    let v = c.loop-i in
    let a = c.args in
    let s = a.entry.now in
    let put = rw (text-whole s v.i) at c.put_filled-put.ensures in
    let few = record-few v.place s v.i in
    let e = rw (← put.place_value.0) at (records-next v.place s v.i a.last a.column (omega arith)) in (
      storing-more v.invariant.0 (run_piece v.place (filled_text s v.i)) _ _ _ e put.out_after put.at_value,
      omega arith,
      omega (arith, put.at_value),
      put.place_value.1,
    )

pub put_text-put-requires : goal.put_text-put-requires
put_text-put-requires c =
    let v = c.loop-i in
    let a = c.args in
    let long = between-long a.entry.now (a.last * 81 + 11) (a.last * 81 + a.column) (omega arith) (omega arith) in
    (omega arith, v.invariant.3)

pub returns : goal.returns
returns c =
    let v = c.loop-i in
    let a = c.args in
    let s = a.entry.now in
    let z : v.i ≡ a.last = omega arith in
    let put = rw (text-part s a.last a.column c.requires.le_column.1) at c.put_text-put.ensures in
    let e = ap (λ (j : ℕ). run_records v.place s j (a.last - j) a.column) z ∙ records-last v.place s a.last a.column in
    let done = storing-done v.invariant.0 _ _ _ e put.out_after put.at_value in
    record {
      out_after = done.0;
      value = done.1 ∙ zero-add _;
    }
