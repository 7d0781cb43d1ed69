use mathlib.Core.Path.{ap}
use Rattle.paper_number.specs.Reading.{answer}
use Rattle.paper_number.specs.declared.types.FieldRead.{FieldRead}
use Rattle.paper_number.specs.Digits.{field_read}
use Rattle.number_reading.proofs.read.read_digits.Goals as goal

pub returns : goal.returns
unfolding field_read
returns c =
    record {
      value = c.read_columns.ensures;
      reading_value = ap (λ (r : FieldRead). answer r.reading) c.read_columns.ensures;
    }
