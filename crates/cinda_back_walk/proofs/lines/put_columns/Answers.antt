use Rattle.cinda_back_walk.proofs.LinesStored.{columns-stored}
use Rattle.cinda_back_walk.proofs.lines.put_columns.Goals as goal

pub returns : goal.returns
returns c =
    let at = c in
    columns-stored (λ x. x) at.args.out.now _ at.args.line.now at.args.at at.args.from at.args.n
    at.requires.1 c.put_plain.ensures
