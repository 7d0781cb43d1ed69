use Rattle.exports.proofs.numbers.x4_read_number.Goals as goal

pub returns : goal.returns
returns c =
    record {
      value = rw (← c.read_number-said.ensures.value) c.put_reading.ensures.value;
      value_after = rw (← c.read_number-said.ensures.value) c.put_reading.ensures.out_after;
    }
