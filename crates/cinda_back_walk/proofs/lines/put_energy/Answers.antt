use Rattle.paper_canonical.specs.Replacing.{canonical}
use Rattle.cinda_back_walk.proofs.LinesStored.{columns-stored}
use Rattle.cinda_back_walk.proofs.lines.put_energy.Goals as goal

pub returns : goal.returns
returns c =
    let at = c in
    columns-stored canonical at.args.out.now _ at.args.line.now at.args.at at.args.from 7
    at.requires.1 c.put_canonical.ensures
