use mathlib.Core.Path.{◌∙◌}
use mir.Syntax.{w32}
use mir.ValLaws.{to_z-of_z}
use Rattle.decay_numbers.proofs.Canonical.{stored-eleven}
use borrow.Author.Rules.{rules}
use Rattle.decay_numbers.proofs.numbers.canonical_field.Goals as goal

pub returns : goal.returns
returns c =
    let v = c.args.v in
    let p = to_z-of_z w32 v.power (search rules) in
    rw p at c.write_columns.ensures.out_after ∙ stored-eleven _ c.requires
