use mathlib.Core.Path.{sym}
use Rattle.revisions_merging.proofs.Stored.{records-long}
use Rattle.revisions_merging.proofs.parts.put_records.Goals as goal

pub returns : goal.returns
returns c =
    let at = c in
    let long = sym (records-long at.args.entry.now at.args.e at.requires.0) in
    record {
      value = long;
      out_after = rw (← long) c.put_part.ensures;
    }
