use mathlib.Core.Path.{refl}
use native.Mathlib.Nat.{add-sub_cancel_left}
use native.Mathlib.Omega.{arith}
use Rattle.cinda_answers.proofs.pieces.piece_of.Goals as goal

pub returns : goal.returns
returns c =
    record {
      behind = record { block = refl; offset = omega arith };
      result_value = rw add-sub_cancel_left refl;
    }
