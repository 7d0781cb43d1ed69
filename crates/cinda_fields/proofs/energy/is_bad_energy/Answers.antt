use native.Mathlib.Nat.{add-sub_cancel_left}
use Rattle.cinda_fields.proofs.energy.is_bad_energy.Goals as goal

pub returns : goal.returns
returns c =
    let e = rw add-sub_cancel_left at c.form_of_columns-form.ensures in rw (← e) c.is_malformed.ensures
