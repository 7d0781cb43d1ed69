use Rattle.paper_rules.specs.Limits.{MOST-RECORDS}
use borrow.Author.Tests.{le-leb, lt-leb}
use native.Mathlib.Omega.{arith}
use Rattle.files_parts.proofs.parts.few.Goals as goal

pub returns-then-n-le-MOST : goal.returns-then-n-le-MOST
returns-then-n-le-MOST c =
    record {
      value = rw (le-leb c.args.n MOST-RECORDS c.if-n-le-MOST.true);
      upper_bound = (omega arith, omega arith);
    }

pub returns-else-n-le-MOST : goal.returns-else-n-le-MOST
returns-else-n-le-MOST c =
    record {
      value = rw (lt-leb c.args.n MOST-RECORDS c.if-n-le-MOST.false);
      upper_bound = (omega arith, omega arith);
    }
