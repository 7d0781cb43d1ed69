use Rattle.laws.proofs.Search.{scan-all, scan-done, scan-found, scan-next}
use Prim.Native.Nat.{◌-◌}
use Rattle.paper_record.specs.Flags.{code_digits}
use Rattle.std.proofs.Common.{rules}
use native.Mathlib.Omega.{arith}
use Rattle.record_flags.proofs.flags.digits_behind.Goals as goal

pub loop-j-init : goal.loop-j-init
unfolding code_digits
loop-j-init c = (c.requires.long, scan-all 54)

pub returns-then-not-is_ascii_digit : goal.returns-then-not-is_ascii_digit
returns-then-not-is_ascii_digit c =
    record {
      value = scan-found c.loop-j.invariant.1 (omega arith) (search rules);
      upper_bound = omega arith;
    }

pub loop-j-preserved : goal.loop-j-preserved
loop-j-preserved c = (c.loop-j.invariant.0, scan-next c.loop-j.invariant.1 (omega arith) (search rules))

pub returns : goal.returns
returns c =
    record {
      value = scan-done c.loop-j.invariant.1 (omega arith);
      upper_bound = omega arith;
    }
