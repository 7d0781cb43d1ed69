use mathlib.Core.Path.{refl}
use borrow.Author.Tests.{eq-eqb, ne_eqb}
use Rattle.exports_fields.specs.Parts.{part_stored, part_word}
use Rattle.exports_fields.proofs.parts.put_part.Goals as goal

pub returns-then-length-eq0 : goal.returns-then-length-eq0
unfolding part_word part_stored
returns-then-length-eq0 c =
    record {
      value = rw (eq-eqb _ _ c.if-length-eq0.true) refl;
      place_after = refl;
    }

pub returns : goal.returns
unfolding part_word part_stored
returns c =
    record {
      value = rw (ne_eqb _ _ c.if-length-eq0.false) refl;
      place_after = refl;
    }
