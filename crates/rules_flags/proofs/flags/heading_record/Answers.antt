use Prim.Native.Nat.{◌-◌, ◌/◌}
use mathlib.Core.Path.{refl}
use native.Mathlib.Omega.{arith}
use Rattle.rules_flags.proofs.flags.heading_record.Goals as goal

pub returns : goal.returns
returns c =
    record {
      value = rw c.saturating_sub-before.ensures refl;
      record_at = record {
        count = (c.args.track.table.columns - c.args.track.table.rest) / 6;
        place = rw c.saturating_sub-before.ensures refl;
        near = omega (arith, c.saturating_sub-before.ensures);
      };
    }
