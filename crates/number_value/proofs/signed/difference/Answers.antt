use mir.Syntax.{w32}
use mir.ValLaws.{to_z_pos}
use Rattle.paper_number.proofs.Difference.{diff-fits, diff-made}
use Rattle.number_value.proofs.signed.difference.Goals as goal

pub overflow_sub-result : goal.overflow_sub-result
overflow_sub-result c =
    rw (to_z_pos w32 c.args.up c.requires.0, to_z_pos w32 c.args.down c.requires.1)
    (diff-fits _ _ c.requires.0 c.requires.1)

pub returns : goal.returns
returns c = diff-made c.args.up c.args.down c.requires.0 c.requires.1
