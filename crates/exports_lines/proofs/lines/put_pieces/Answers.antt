use mathlib.Core.Path.{◌≡◌, refl}
use mathlib.Core.Bool.{true, false}
use lib.Dec.{eqb}
use borrow.Author.Tests.{eq-eqb, ne_eqb}
use Rattle.exports_words.specs.Words.{lent_after}
use Rattle.exports_lines.specs.Pieces.{places_stored}
use Rattle.exports_lines.proofs.lines.put_pieces.Goals as goal

pub returns-then-refusal-ne0 : goal.returns-then-refusal-ne0
unfolding places_stored lent_after
returns-then-refusal-ne0 c =
    let whole = c.args.whole in
    let e : eqb whole.answer.number 0 ≡ false = ne_eqb _ _ c.if-refusal-ne0.true in
    record {
      value = c.lines_word.ensures;
      places_after = rw e refl;
    }

pub returns : goal.returns
unfolding places_stored lent_after
returns c =
    let whole = c.args.whole in
    let e : eqb whole.answer.number 0 ≡ true = eq-eqb _ _ c.if-refusal-ne0.false in
    record {
      value = c.lines_word-2.ensures;
      places_after = rw e c.places_from.ensures;
    }
