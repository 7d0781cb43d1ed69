use mathlib.Core.Path.{ap, refl}
use borrow.Author.Tests.{eq-eqb, ne_eqb}
use lib.ListN.{length}
use Rattle.paper_number.specs.Reading.{answer, read_number}
use Rattle.paper_number.specs.declared.types.FieldRead.{FieldRead}
use Rattle.paper_number.specs.Digits.{field_read, number_read}
use Rattle.number_reading.proofs.read.read_number.Goals as goal

pub returns-then-s-ne11 : goal.returns-then-s-ne11
unfolding read_number number_read
returns-then-s-ne11 c = let e = ne_eqb (length c.args.s.now) 11 c.if-s-ne11.true in
    record {
      value = rw e refl;
      reading_value = rw e refl;
    }

pub returns : goal.returns
unfolding read_number field_read number_read
returns c = let e = eq-eqb (length c.args.s.now) 11 c.if-s-ne11.false in
    record {
      value = rw e c.read_columns.ensures;
      reading_value = rw e (ap (λ (r : FieldRead). answer r.reading) c.read_columns.ensures);
    }
