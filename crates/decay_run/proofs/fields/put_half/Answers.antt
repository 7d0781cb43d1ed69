use Prim.Native.Nat.{ℕ}
use mathlib.Core.List.{List}
use native.Mathlib.Omega.{arith}
use lib.ListN.{length}
use Rattle.paper_decay_run.specs.Run.{run_number}
use Rattle.paper_decay_run.proofs.Shorter.{number-shorter}
use Rattle.decay_numbers.proofs.Words.{between, between-long}
use Rattle.decay_run.proofs.Halves.{stored-both}
use Rattle.decay_run.proofs.fields.put_half.Goals as goal

pub put_kept-requires : goal.put_kept-requires
put_kept-requires c =
    let l = c.args.text.now in
    let front = c.front_of-front in
    let k = front.result in
    let a = between-long l 0 k (omega arith) front.ensures.upper_bound in
    let b = between-long l k (length l) front.ensures.upper_bound (omega arith) in
    let short = number-shorter (between l 0 k) in
    omega (arith, front.ensures.upper_bound)

pub returns : goal.returns
returns c =
    let l = c.args.text.now in
    let front = c.front_of-front in
    let put = c.put_number-to.ensures in
    let kept = c.put_kept.ensures in
    let both = stored-both run_number (λ (x : List ℕ). x) l front.result _ _ _ _ _ _ put.out_after put.value kept.out_after kept.value in
    record { out_after = rw (← front.ensures.value) both.0; value = rw (← front.ensures.value) both.1 }
