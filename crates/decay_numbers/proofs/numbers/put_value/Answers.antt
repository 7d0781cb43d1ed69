use Rattle.paper_number.specs.Value.{value_of}
use Rattle.decay_numbers.proofs.Canonical.{text-behind}
use Rattle.decay_numbers.proofs.numbers.put_value.Goals as goal

pub put_kept-requires : goal.put_kept-requires
put_kept-requires c =
    let v = c.args.v in
    let e = c.canonical_field-field.ensures in
    let k = text-behind (value_of v.negative v.coefficient v.power) c.requires.power_len_bound in
    rw (c.lead_of-first.ensures.value, e, k) c.requires.power_bound

pub returns : goal.returns
returns c =
    let v = c.args.v in
    let e = c.canonical_field-field.ensures in
    let k = text-behind (value_of v.negative v.coefficient v.power) c.requires.power_len_bound in
    record {
      out_after = rw (c.lead_of-first.ensures.value, e, k) at c.put_kept.ensures.out_after;
      value = rw (c.lead_of-first.ensures.value, e, k) at c.put_kept.ensures.value;
    }
