use mathlib.Core.Path.{refl}
use native.Mathlib.Nat.{add-sub_cancel_left}
use native.Mathlib.Omega.{arith}
use Rattle.revisions_pick.proofs.handing.bytes_from.Goals as goal

pub returns : goal.returns
returns c =
    record {
      behind = record { block = refl; offset = omega arith };
      result_value = rw add-sub_cancel_left refl;
    }
