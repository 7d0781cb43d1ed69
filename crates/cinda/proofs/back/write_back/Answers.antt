use Rattle.cinda.proofs.back.write_back.Goals as goal

pub write_checked-requires : goal.write_checked-requires
write_checked-requires c = c.check-checked.ensures

pub returns : goal.returns
returns c =
    record {
      value = c.write_checked.ensures.value;
      out_after = c.write_checked.ensures.out_after;
    }
