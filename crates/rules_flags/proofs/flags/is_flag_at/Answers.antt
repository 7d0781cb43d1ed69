use Rattle.paper_record.specs.Columns.{columns_at}
use Rattle.paper_record.proofs.FlagWords.{no-letter}
use Rattle.rules_flags.proofs.Headings.{letter-of, none-behind}
use mathlib.Core.Path.{◌∙◌, sym}
use Rattle.rules_flags.proofs.flags.is_flag_at.Goals as goal
use Rattle.rules_flags.proofs.flags.is_flag_at.Goals.{then-at-table, else-at-table}

pub returns-else-may_flag : goal.returns-else-may_flag
returns-else-may_flag c =
    let t = c.args.table.now in
    let at = c.args.at in
    c.if-may_flag.false
    ∙ elim c.if-at-table.branch [
      | then-at-table w ↦
          sym (no-letter (columns_at at 11 t)
          (rw (letter-of t at) (sym w.may_flag.ensures ∙ sym w.value-is ∙ c.if-may_flag.false)))
      | else-at-table w ↦ sym (none-behind t at w.if-at-table.false)
    ]
