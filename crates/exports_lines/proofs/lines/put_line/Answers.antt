use mathlib.Core.Path.{◌≡◌, refl}
use mathlib.Core.Bool.{true, false}
use lib.Dec.{eqb}
use borrow.Author.Tests.{eq-eqb, ne_eqb}
use Rattle.exports_words.specs.Words.{lent_after}
use Rattle.exports_lines.specs.Lines.{numbers_stored, energy_stored}
use Rattle.exports_lines.proofs.lines.put_line.Goals as goal

pub returns-then-answer-ne0 : goal.returns-then-answer-ne0
unfolding numbers_stored energy_stored lent_after
returns-then-answer-ne0 c =
    let a = c.args.a in
    let e : eqb a.answer.number 0 ≡ false = ne_eqb _ _ c.if-answer-ne0.true in
    record {
      value = c.lines_word.ensures;
      numbers_after = rw e refl;
      least_after = rw e refl;
      greatest_after = rw e refl;
    }

pub returns : goal.returns
unfolding numbers_stored energy_stored lent_after
returns c =
    let d = c in
    let a = d.args.a in
    let e : eqb a.answer.number 0 ≡ true = eq-eqb _ _ d.if-answer-ne0.false in
    let least = c.put_reading.ensures.out_after in
    let greatest = c.put_reading-2.ensures.out_after in
    record {
      value = c.lines_word-2.ensures;
      numbers_after = rw e d.line_numbers.ensures;
      least_after = rw e least;
      greatest_after = rw e greatest;
    }
