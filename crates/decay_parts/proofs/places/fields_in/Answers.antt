use mathlib.Core.Path.{◌∙◌, ap}
use mathlib.Core.List.{List}
use Prim.Native.Nat.{ℕ}
use lib.ListN.{length}
use Rattle.paper_decay.specs.Fields.{cut_at}
use Rattle.decay_parts.proofs.Within.{most-text}
use Rattle.decay_parts.proofs.places.fields_in.Goals as goal

pub returns : goal.returns
returns c =
    let l = c.args.run.now in
    let q = most-text l _ c.all_but_last-past.ensures in
    c.count_words.ensures ∙ ap (λ (t : List ℕ). length (cut_at 44 t)) q
