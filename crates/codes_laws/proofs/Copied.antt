-- The copy gives the same codes.
-- Assumes nothing.
use mathlib.Core.Bool.{cond}
use Prim.Native.Nat.{◌/◌}
use lib.Dec.{eqb}
use Rattle.demand3.proofs.Passages.{same_passages}
use Rattle.paper_codes.specs.Asked.{code_in, stored_in, answered, DECAY-DATA, code_asked, code_stored}
use Rattle.codes_laws.specs.Copied.{CodeSame}

pub code_same : CodeSame
unfolding code_asked code_stored
code_same s accepted n pointer j =
    let same = same_passages s accepted n DECAY-DATA pointer in
    let at = same.places in
    let words = same.words in (
      λ room i.
          cond (eqb (at i).answer.number 0) (answered ((at i).first / 81) (code_in (words i) j room))
          (record { answer = (at i).answer; length = 0 }),
      λ y i. cond (eqb (at i).answer.number 0) (stored_in (words i) j y) y,
    )
