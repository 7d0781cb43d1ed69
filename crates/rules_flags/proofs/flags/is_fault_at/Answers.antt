use Rattle.rules_flags.proofs.Headings.{flag-there}
use mathlib.Core.Path.{◌∙◌, sym}
use Rattle.rules_flags.proofs.flags.is_fault_at.Goals as goal

pub field-requires : goal.field-requires
field-requires c =
    record {
      room = c.requires.near (flag-there c.args.table.now c.args.at (sym c.is_flag_at.ensures ∙ c.if-is_flag_at.true));
    }
