use Rattle.paper_record.specs.Flags.{is_flag_heading}
use Rattle.rules_flags.proofs.Headings.{heading-of, heading-room}
use Rattle.paper_rules.specs.Flags.{flag_column, records_over}
use mathlib.Core.Path.{◌∙◌, ap, sym}
use Rattle.rules_flags.proofs.flags.is_flag_column.Goals as goal

pub is_flag_at-requires : goal.is_flag_at-requires
is_flag_at-requires c =
    heading-room c.args.table.now c.heading_record.result c.args.k
    c.requires.0 c.heading_record.ensures.record_at c.requires.1

pub returns : goal.returns
unfolding flag_column
returns c =
    let e = heading-of c.args.table.now (records_over c.args.track) c.args.k c.requires.1 in
    (rw c.heading_record.ensures.value at c.is_flag_at.ensures) ∙ sym (ap is_flag_heading e)
