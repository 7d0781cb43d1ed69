use mathlib.Core.Path.{◌∙◌, ap}
use native.Mathlib.Omega.{arith}
use Rattle.paper_decay_run.specs.Run.{lead_of}
use Rattle.paper_decay_fields.specs.Parts.{part_from, unspaced}
use Rattle.decay_parts.proofs.Within.{part-text, part-long}
use Rattle.decay_parts.proofs.parts.unspaced.Goals as goal

pub returns : goal.returns
unfolding unspaced
returns c =
    let l = c.args.run.now in
    let p = c.args.p in
    let e = c.lead_of-lead.ensures.value ∙ ap lead_of (part-text l p) in
    let long = part-long l p c.requires in
    let h = c.lead_of-lead.ensures.upper_bound in
    (ap (part_from p) e, omega arith)
