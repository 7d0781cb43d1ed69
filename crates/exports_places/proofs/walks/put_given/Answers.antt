use mathlib.Core.Path.{refl}
use Rattle.exports_words.specs.Words.{answer_word}
use Rattle.exports_places.proofs.walks.put_given.Goals as goal

pub returns-in-Some : goal.returns-in-Some
returns-in-Some c =
    let e = c.in-Some.is in
    let p = c.put_reading.ensures in
    record {
      value = rw e p.value;
      place_after = rw (e, c.from.ensures, c.from-in-Some.ensures) refl;
      out_after = rw e p.out_after;
    }

pub returns-in-None : goal.returns-in-None
unfolding answer_word
returns-in-None c =
    let e = c.in-None.is in
    record {
      value = rw e refl;
      place_after = rw e refl;
      out_after = rw e refl;
    }
