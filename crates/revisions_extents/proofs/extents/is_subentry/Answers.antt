use Rattle.paper_record.specs.Text.{within}
use Rattle.paper_rules.specs.Limits.{LAST-SUBENTRY}
use mathlib.Core.Path.{◌≡◌}
use Rattle.revisions_extents.proofs.extents.is_subentry.Goals as goal

pub returns : goal.returns
returns c =
    let e : c.is_within.result ≡ within 1 LAST-SUBENTRY c.args.n = c.is_within.ensures in
    e
