use lib.Dec.{leb}
use mathlib.Core.Path.{◌≡◌}
use mathlib.Core.Bool.{true, false}
use borrow.Author.Tests.{le-leb, lt-leb}
use Rattle.paper_revisions.specs.Extents.{date_at}
use Rattle.revisions_merging.proofs.Stored.{later-stored, same-stored}
use Rattle.revisions_merging.proofs.ends.put_entry.Goals as goal

pub returns-then-of_held-of_revision : goal.returns-then-of_held-of_revision
returns-then-of_held-of_revision c =
    let at = c in
    let later : leb (date_at at.args.held.now 0) (date_at at.args.revision.now 0) ≡ false =
    rw (← c.date_at-of_held.ensures, ← c.date_at-of_revision.ensures) (lt-leb _ _ c.if-of_held-of_revision.true) in
    rw (← later-stored at.args.out.now at.args.held.now at.args.revision.now at.requires.0 at.requires.1 at.requires.2 later, ← c.put_part.ensures)
    c.put_part-then-of_held-of_revision.ensures

pub returns-else-of_held-of_revision : goal.returns-else-of_held-of_revision
returns-else-of_held-of_revision c =
    let at = c in
    let same : leb (date_at at.args.held.now 0) (date_at at.args.revision.now 0) ≡ true =
    rw (← c.date_at-of_held.ensures, ← c.date_at-of_revision.ensures) (le-leb _ _ c.if-of_held-of_revision.false) in
    rw (← same-stored at.args.out.now at.args.held.now at.args.revision.now same) c.put_part.ensures
