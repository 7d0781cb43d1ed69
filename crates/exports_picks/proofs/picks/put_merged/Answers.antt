use mathlib.Core.Path.{◌≡◌, refl, sym, ap, ◌∙◌}
use mathlib.Core.Bool.{true, false}
use Rattle.exports_words.specs.Words.{answer_word}
use Rattle.exports_picks.specs.Picks.{naming, is_written, merged_word, merged_stored}
use Rattle.exports_picks.proofs.picks.put_merged.Goals as goal

pub returns-then-written : goal.returns-then-written
unfolding merged_word merged_stored
returns-then-written c =
    let d = c in
    let m = d.args.m in
    let e : d.naming-named.result ≡ naming m.answer m.which = d.naming-named.ensures in
    let w : is_written m.answer.number ≡ true =
    sym c.is_written-written.ensures ∙ c.if-written.true in
    record {
      value = c.answer_word.ensures ∙ ap answer_word e;
      long_after = rw w refl;
    }

pub returns : goal.returns
unfolding merged_word merged_stored
returns c =
    let d = c in
    let m = d.args.m in
    let e : d.naming-named.result ≡ naming m.answer m.which = d.naming-named.ensures in
    let w : is_written m.answer.number ≡ false =
    sym c.is_written-written.ensures ∙ c.if-written.false in
    record {
      value = c.answer_word-2.ensures ∙ ap answer_word e;
      long_after = rw w refl;
    }
