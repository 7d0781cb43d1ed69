use mathlib.Core.Path.{refl}
use borrow.Author.Tests.{le-ltb, lt-ltb}
use native.Mathlib.Omega.{arith}
use Rattle.record_values.proofs.numbers.number_at.Goals as goal

pub returns-then-used-k : goal.returns-then-used-k
returns-then-used-k c =
    record {
      value = rw (le-ltb _ _ c.if-used-k.true);
      upper_bound = omega arith;
    }

pub returns-then-is_number_form : goal.returns-then-is_number_form
returns-then-is_number_form c =
    record {
      value = rw (lt-ltb _ _ c.if-used-k.false, ← c.is_number_form.ensures, c.if-is_number_form.true);
      upper_bound = omega arith;
    }

pub returns-else-is_number_form : goal.returns-else-is_number_form
returns-else-is_number_form c =
    record {
      value = rw (lt-ltb _ _ c.if-used-k.false, ← c.is_number_form.ensures, c.if-is_number_form.false) refl;
      upper_bound = omega arith;
    }
