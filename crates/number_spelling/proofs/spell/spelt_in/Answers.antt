use mathlib.Core.Path.{sym}
use Rattle.std.proofs.Common.{arith}
use Rattle.paper_number.proofs.Steps.{field-blank}
use Rattle.number_spelling.proofs.spell.spelt_in.Goals as goal

pub returns-then-i-s : goal.returns-then-i-s
returns-then-i-s c =
    (sym (field-blank c.args.s.now c.past_blanks-i.result c.past_blanks-i.ensures (omega (arith, c.if-i-s.true))), tt)
