use mathlib.Core.Path.{refl}
use Rattle.revisions_pick.proofs.both.other_accession.Goals as goal

pub returns : goal.returns
returns c = rw (c.same_five.ensures, c.accession-a.ensures, c.accession-b.ensures) refl
