use mathlib.Core.Path.{refl}
use native.Mathlib.Omega.{arith}
use Rattle.exports_simple.proofs.simple.kind_of.Goals as goal

pub returns-in-Blank : goal.returns-in-Blank
returns-in-Blank c =
    record {
      value = rw c.in-Blank.is refl;
      upper_bound = omega arith;
    }

pub returns-in-Double : goal.returns-in-Double
returns-in-Double c =
    record {
      value = rw c.in-Double.is refl;
      upper_bound = omega arith;
    }

pub returns-in-Outside : goal.returns-in-Outside
returns-in-Outside c =
    record {
      value = rw c.in-Outside.is refl;
      upper_bound = omega arith;
    }
