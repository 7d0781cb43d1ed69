use Rattle.decay_run.proofs.Halves.{front-part}
use Rattle.decay_run.proofs.records.put_filled.Goals as goal

pub returns : goal.returns
returns c =
    let l = c.args.text.now in
    let filled = c.filled_to-filled in
    record {
      out_after = rw (← filled.ensures.value) (rw (front-part l filled.result) at c.put_text.ensures.out_after);
      at_value = rw (← filled.ensures.value) (rw (front-part l filled.result) at c.put_text.ensures.at_value);
      place_value = rw (← filled.ensures.value) (rw (front-part l filled.result) at c.put_text.ensures.place_value);
    }
