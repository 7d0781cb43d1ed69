use Rattle.revisions_merging.proofs.Stored.{part-stored}
use Rattle.revisions_merging.proofs.parts.put_part.Goals as goal

pub returns : goal.returns
returns c =
    let at = c in
    part-stored at.args.out.now _ at.args.entry.now at.args.at at.args.from at.args.n
    at.requires.1 c.put_plain.ensures
