use mathlib.Core.Path.{◌≡◌, refl, ap, ◌∙◌}
use mathlib.Core.Bool.{true, false}
use lib.Dec.{eqb}
use borrow.Author.Tests.{eq-eqb, ne_eqb}
use Rattle.exports_words.specs.Words.{answer_word, lent_after}
use Rattle.exports_picks.specs.Picks.{naming, picked_word, picked_stored}
use Rattle.exports_picks.proofs.picks.put_picked.Goals as goal

pub returns-then-answer-ne0 : goal.returns-then-answer-ne0
unfolding picked_word picked_stored lent_after
returns-then-answer-ne0 c =
    let d = c in
    let p = d.args.p in
    let e : d.naming-named.result ≡ naming p.answer p.which = d.naming-named.ensures in
    let n : eqb p.answer.number 0 ≡ false = ne_eqb _ _ c.if-answer-ne0.true in
    record {
      value = c.answer_word.ensures ∙ ap answer_word e;
      part_after = rw n refl;
    }

pub returns : goal.returns
unfolding picked_word picked_stored lent_after
returns c =
    let d = c in
    let p = d.args.p in
    let e : d.naming-named.result ≡ naming p.answer p.which = d.naming-named.ensures in
    let n : eqb p.answer.number 0 ≡ true = eq-eqb _ _ c.if-answer-ne0.false in
    record {
      value = c.answer_word-2.ensures ∙ ap answer_word e;
      part_after = rw (n, c.of_entry-entry.ensures) refl;
    }
