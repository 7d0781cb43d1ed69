use mathlib.Core.Path.{◌∙◌, ap}
use Rattle.paper_cinda.specs.Pieces.{piece_in}
use Rattle.paper_cinda.proofs.Lines.{piece-lies}
use Rattle.cinda.proofs.ask.piece_part.Goals as goal

pub piece_of-requires : goal.piece_of-requires
piece_of-requires c =
    let at = c.args in
    rw c.piece-part.ensures (piece-lies at.lines.now at.n at.p)

pub returns : goal.returns
returns c =
    record {
      behind = rw (← c.piece-part.ensures) c.piece_of.ensures.behind;
      result_value = c.piece_of.ensures.result_value ∙ ap (piece_in c.args.lines.now) c.piece-part.ensures;
    }
