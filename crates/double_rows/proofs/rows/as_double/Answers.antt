use mathlib.Core.Path.{refl}
use Rattle.double_rows.proofs.rows.as_double.Goals as goal

pub returns : goal.returns
returns c =
    record {
      value = rw c.doubled-value.ensures.value (refl);
      result_value = rw c.doubled-value.ensures.value (refl);
    }
