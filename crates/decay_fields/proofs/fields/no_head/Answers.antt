use Rattle.decay_fields.proofs.fields.no_head.Goals as goal

pub returns : goal.returns
returns c =
    let at = c.args.at in
    let p = c.no_part-none.ensures in
    let h = c.no_number-half.ensures in
    λ i. record {
      number = 50;
      at = at;
      flag = p i;
      z = p i;
      symbol = p i;
      a = p i;
      isomer = p i;
      half = h i;
      unit = p i;
      groups = 0;
    }
