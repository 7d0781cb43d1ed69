use Prim.Native.Nat.{ℕ}
use mathlib.Core.Path.{ap, ◌∙◌}
use mathlib.Core.List.{List}
use native.Mathlib.Omega.{arith}
use Rattle.paper_decay_run.specs.Run.{run_piece}
use Rattle.decay_run.proofs.Halves.{front-part, stored-both}
use Rattle.decay_run.proofs.Commas.{run_between, place_behind, piece-parts}
use Rattle.decay_run.proofs.texts.put_text.Goals as goal

pub put_kept-to-requires : goal.put_kept-to-requires
put_kept-to-requires c =
    let a = c.args in
    let few = piece-parts a.place a.text.now c.last_of-last.result c.last_of-last.ensures in
    omega arith

pub returns : goal.returns
unfolding run_piece
returns c =
    let a = c.args in
    let l = a.text.now in
    let last = c.last_of-last in
    let put = c.put_fields-fields.ensures in
    let kept = c.put_kept-to.ensures in
    let s = stored-both (run_between a.place) (λ (x : List ℕ). x) l last.result _ _ _ _ _ _ put.out_after put.at_value kept.out_after kept.value in
    let q = put.place_value.0 ∙ ap (place_behind a.place) (front-part l last.result) in
    record {
      out_after = rw (← last.ensures) (s.0);
      at_value = rw (← last.ensures) (s.1);
      place_value = rw (← last.ensures) ((q, put.place_value.1));
    }
