use mathlib.Core.Path.{◌∙◌, ap}
use native.Mathlib.Omega.{arith}
use Rattle.paper_decay.specs.Fields.{front}
use Rattle.decay_parts.proofs.Within.{part-text, part-long}
use Rattle.decay_parts.proofs.parts.front_in.Goals as goal

pub returns : goal.returns
returns c =
    let l = c.args.run.now in
    let p = c.args.p in
    let long = part-long l p c.requires in
    let h = c.front_of.ensures.upper_bound in
    (c.front_of.ensures.value ∙ ap front (part-text l p), omega arith)
