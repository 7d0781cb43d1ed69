use Rattle.system_records.proofs.Few.{table-few}
use native.Mathlib.Omega.{arith}
use mathlib.Core.Path.{refl}
use Rattle.questions_system.proofs.system.table_records.Goals as goal

pub overflow_mul-result : goal.overflow_mul-result
overflow_mul-result c =
    let few = rw (← c.records_for-k.ensures) at (table-few _ _ c.requires.columns_bound c.requires.lines_bound) in
    omega (arith, few)

pub returns : goal.returns
returns c =
    record {
      value = rw (← c.records_for-k.ensures) refl;
      upper_bound = rw (← c.records_for-k.ensures) at (table-few _ _ c.requires.columns_bound c.requires.lines_bound);
    }
