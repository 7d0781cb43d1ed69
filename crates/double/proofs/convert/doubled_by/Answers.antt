use mathlib.Core.Path.{ap}
use Rattle.paper_double.specs.Double.{simple_said}
use Rattle.double.proofs.convert.doubled_by.Goals as goal

pub returns-in-Number : goal.returns-in-Number
returns-in-Number c =
    record {
      value = rw c.in-Number.is (c.simple_of.ensures);
      result_value = rw c.in-Number.is (ap simple_said c.simple_of.ensures);
    }
