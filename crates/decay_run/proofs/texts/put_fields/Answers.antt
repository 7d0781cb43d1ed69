use Prim.Native.Nat.{◌+◌, ◌<◌}
use mathlib.Core.Path.{refl, sym, ◌∙◌}
use mathlib.Core.List.{◌++◌}
use native.Mathlib.Omega.{arith}
use lib.ListN.{length, drop}
use Rattle.paper_decay_run.specs.Run.{run_field}
use Rattle.paper_decay_run.proofs.Shorter.{field-shorter}
use Rattle.decay_numbers.proofs.Storing.{storing-begun, storing-more, storing-done}
use Rattle.decay_numbers.proofs.Words.{between, between-long}
use Rattle.decay_run.proofs.Commas.{run_between, fields-last, fields-next, place-last, place-next}
use Rattle.decay_run.proofs.texts.put_fields.Goals as goal

pub loop-at-init : goal.loop-at-init
loop-at-init c =
    let a = c.args in
    (refl, omega arith, omega arith, c.requires.1, refl, storing-begun a.out.now a.at (run_between a.first a.text.now))

pub put_field-to-requires : goal.put_field-to-requires
put_field-to-requires c =
    let v = c.loop-at in
    let found = c.find_byte-past in
    let long = between-long c.args.text.now v.i found.result found.ensures.lower_bound.0 found.ensures.lower_bound.1 in
    omega arith

pub returns-then-past-n : goal.returns-then-past-n
returns-then-past-n c =
    let v = c.loop-at in
    let l = c.args.text.now in
    let found = c.find_byte-past in
    let put = c.put_field-to in
    let next = c.next_field-place.ensures in
    let e = fields-last v.place l v.i found.result v.invariant.1 found.ensures.value c.if-past-n.true in
    let q = place-last v.place l v.i found.result v.invariant.1 found.ensures.value c.if-past-n.true in
    let s = storing-done v.invariant.5 _ _ _ e put.ensures.out_after put.ensures.value in
    record {
      out_after = s.0;
      at_value = s.1;
      place_value = (next.0 ∙ sym q ∙ v.invariant.4, next.1);
    }

pub put_kept-to-requires : goal.put_kept-to-requires
put_kept-to-requires c =
    let v = c.loop-at in
    let l = c.args.text.now in
    let found = c.find_byte-past in
    let past = found.result in
    let less : past < length l = omega (arith, c.if-past-n.false) in
    let long = between-long l v.i past found.ensures.lower_bound.0 found.ensures.lower_bound.1 in
    let one = between-long l past (past + 1) (omega arith) (omega arith) in
    let short = field-shorter v.place (between l v.i past) in
    omega arith

pub loop-at-smaller : goal.loop-at-smaller
loop-at-smaller c = omega (arith, c.if-past-n.false)

pub loop-at-preserved : goal.loop-at-preserved
loop-at-preserved c =
    let v = c.loop-at in
    let l = c.args.text.now in
    let found = c.find_byte-past in
    let past = found.result in
    let put = c.put_field-to in
    let next = c.next_field-place.ensures in
    let kept = c.put_kept-to in
    let less : past < length l = omega (arith, c.if-past-n.false) in
    let long = between-long l v.i past found.ensures.lower_bound.0 found.ensures.lower_bound.1 in
    let one = between-long l past (past + 1) (omega arith) (omega arith) in
    let short = field-shorter v.place (between l v.i past) in
    let rest = run_between c.next_field-place.result (drop (past + 1) l) in
    let e = rw (← next.0) at (fields-next v.place l v.i past v.invariant.1 found.ensures.value less) in
    let q = rw (← next.0) at (place-next v.place l v.i past v.invariant.1 found.ensures.value less) in
    let s = storing-more v.invariant.5 (run_field v.place (between l v.i past)) (between l past (past + 1) ++ rest) _ _ e
    put.ensures.out_after put.ensures.value in (
      refl,
      omega arith,
      omega arith,
      next.1,
      sym q ∙ v.invariant.4,
      storing-more s (between l past (past + 1)) rest _ _ refl kept.ensures.out_after kept.ensures.value,
    )
