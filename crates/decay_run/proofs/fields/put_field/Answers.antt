use Prim.Native.Nat.{ℕ}
use mathlib.Core.List.{List}
use native.Mathlib.Omega.{arith}
use lib.ListN.{length}
use Rattle.paper_decay_run.specs.Run.{run_said, run_field}
use Rattle.decay_numbers.proofs.Words.{between-long}
use Rattle.decay_run.proofs.Halves.{stored-both}
use Rattle.decay_run.proofs.fields.put_field.Goals as goal

pub put_said-requires : goal.put_said-requires
put_said-requires c =
    let l = c.args.text.now in
    let lead = c.lead_of-lead in
    let k = lead.result in
    let a = between-long l 0 k (omega arith) lead.ensures.upper_bound in
    let b = between-long l k (length l) lead.ensures.upper_bound (omega arith) in
    omega (arith, lead.ensures.upper_bound)

pub returns : goal.returns
unfolding run_field
returns c =
    let a = c.args in
    let lead = c.lead_of-lead in
    let kept = c.put_kept-to.ensures in
    let put = c.put_said.ensures in
    let both = stored-both (λ (x : List ℕ). x) (run_said a.place) a.text.now lead.result _ _ _ _ _ _ kept.out_after kept.value put.out_after put.value in
    record { out_after = rw (← lead.ensures.value) both.0; value = rw (← lead.ensures.value) both.1 }
