use mathlib.Core.Path.{◌≡◌, ap, ◌∙◌}
use Rattle.paper_cinda.specs.declared.types.CindaNo.{CindaNo}
use Rattle.paper_cinda.specs.declared.types.Piece.TheVariants.{Whole}
use Rattle.paper_cinda.specs.declared.types.PieceAnswer.{PieceAnswer}
use Rattle.paper_cinda.specs.Pieces.{piece_asked}
use Rattle.exports_lines.specs.Lines.{lines_word}
use Rattle.exports_lines.specs.Pieces.{places_stored}
use Rattle.exports_lines.proofs.Bounds.{first-few}
use Rattle.exports_lines.proofs.Places.{places-found}
use Rattle.exports_cinda.proofs.lines.x4_cinda_pieces.Goals as goal

pub put_pieces-requires : goal.put_pieces-requires
put_pieces-requires c =
    let d = c in
    let a = d.args in
    let at : CindaNo = record { 0 = a.line } in
    let e : d.piece-whole.result ≡ piece_asked a.lines.now at Whole = d.piece-whole.ensures in
    rw e (first-few a.lines.now at)

pub returns : goal.returns
unfolding piece_asked
returns c =
    let d = c in
    let a = d.args in
    let at : CindaNo = record { 0 = a.line } in
    let e : d.piece-whole.result ≡ piece_asked a.lines.now at Whole = d.piece-whole.ensures in
    let p = c.put_pieces.ensures in
    record {
      value = p.value ∙ ap (λ (x : PieceAnswer). lines_word x.answer) e;
      places_after = p.places_after ∙ ap (places_stored a.places.now) e ∙ places-found a.places.now a.lines.now at;
    }
