use mathlib.Core.Path.{refl}
use Rattle.entry_tally.proofs.tally.numbers_read.Goals as goal

pub returns : goal.returns
returns c =
    rw (
      c.with_table.ensures,
      c.with_totals.ensures,
      c.more_numbers-totals.ensures,
      c.values_read-table.ensures,
      ← c.lines_read-lines.ensures.value,
    ) refl
