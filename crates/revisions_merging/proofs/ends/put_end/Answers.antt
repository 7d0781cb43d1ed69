use Rattle.revisions_merging.proofs.Stored.{end-stored}
use Rattle.revisions_merging.proofs.ends.put_end.Goals as goal

pub returns : goal.returns
returns c =
    let at = c in
    rw (← end-stored at.args.out.now at.args.revision.now at.args.at at.args.count at.requires.0 at.requires.1, ← c.put_part.ensures)
    c.put_count.ensures
