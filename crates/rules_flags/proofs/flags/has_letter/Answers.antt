use Rattle.rules_flags.proofs.Headings.{none-starts}
use mathlib.Core.Path.{sym}
use Rattle.rules_flags.proofs.flags.has_letter.Goals as goal

pub returns-then-table-from : goal.returns-then-table-from
returns-then-table-from c = sym (none-starts c.args.table.now c.args.from c.if-table-from.true)
