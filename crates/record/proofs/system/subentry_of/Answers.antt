use Rattle.paper_record.specs.System.{subentry_of}
use native.Mathlib.Omega.{arith}
use Rattle.record.proofs.system.subentry_of.Goals as goal

pub returns : goal.returns
unfolding subentry_of
returns c =
    record {
      value = c.number_in-number.ensures.value;
      upper_bound = omega (arith, c.number_in-number.ensures.result_bound);
    }
