use Rattle.cinda_back_walk.proofs.LinesStored.{line-stored}
use Rattle.cinda_back_walk.proofs.lines.put_line.Goals as goal

pub returns : goal.returns
returns c =
    let fourth = c in
    let third = fourth in
    let second = third in
    let first = second in
    let at = first in
    line-stored at.args.out.now at.args.line.now at.args.at at.requires.0 at.requires.1 _ _ _ _
    first.put_columns.ensures second.put_energy.ensures third.put_energy-2.ensures fourth.put_columns-2.ensures
