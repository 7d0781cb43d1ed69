use mathlib.Core.Path.{◌≡◌, refl, ap}
use mathlib.Core.Bool.{true}
use lib.Dec.{leb}
use borrow.Author.Tests.{le-leb, lt-leb}
use Rattle.paper_entry.specs.declared.types.Answer.{Answer}
use Rattle.exports_words.specs.Words.{answer_word}
use Rattle.exports_runs.proofs.Rooms.{cut-alike}
use Rattle.exports_runs.proofs.codes.in_hand.Goals as goal

pub returns-then-number-lt50 : goal.returns-then-number-lt50
returns-then-number-lt50 c =
    let n = c.args.x.number in
    let e = c.answer_of.ensures in
    record {
      result_value = rw (lt-leb 50 n c.if-number-lt50.true) (ap answer_word e);
      number_value = ap (λ (a : Answer). a.number) e;
    }

pub returns-then-number-gt51 : goal.returns-then-number-gt51
returns-then-number-gt51 c =
    let n = c.args.x.number in
    let e = c.answer_of-then-number-gt51.ensures in
    record {
      result_value = rw (le-leb 50 n c.if-number-lt50.false, lt-leb n 51 c.if-number-gt51.true) (ap answer_word e);
      number_value = ap (λ (a : Answer). a.number) e;
    }

pub returns : goal.returns
returns c =
    let x = c.args.x in
    let n = x.number in
    let low : leb 50 n ≡ true = le-leb 50 n c.if-number-lt50.false in
    let high : leb n 51 ≡ true = le-leb n 51 c.if-number-gt51.false in
    record {
      result_value = rw (low, high) (cut-alike n x.at x.column);
      number_value = refl;
    }
