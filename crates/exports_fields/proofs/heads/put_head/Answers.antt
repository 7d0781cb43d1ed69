use mathlib.Core.Path.{◌≡◌, refl}
use mathlib.Core.Bool.{true, false}
use lib.Dec.{eqb}
use borrow.Author.Tests.{eq-eqb, ne_eqb}
use Rattle.exports_words.specs.Words.{lent_after}
use Rattle.exports_fields.specs.Heads.{places_stored, half_stored}
use Rattle.exports_fields.proofs.heads.put_head.Goals as goal

pub returns-then-number-ne0 : goal.returns-then-number-ne0
unfolding places_stored half_stored lent_after
returns-then-number-ne0 c =
    let h = c.args.h in
    let e : eqb h.number 0 ≡ false = ne_eqb _ _ c.if-number-ne0.true in
    record {
      value = c.head_word.ensures;
      places_after = rw e refl;
      half_after = rw e refl;
    }

pub returns : goal.returns
unfolding places_stored half_stored lent_after
returns c =
    let d = c in
    let h = d.args.h in
    let e : eqb h.number 0 ≡ true = eq-eqb _ _ d.if-number-ne0.false in
    record {
      value = c.head_word-2.ensures;
      places_after = rw e d.places_numbers.ensures;
      half_after = rw e c.put_value.ensures;
    }
