use Rattle.laws.proofs.Promise.{said-too}
use Rattle.paper_number.specs.Reading.{answer}
use Rattle.number_reading.proofs.read.read_field.Goals as goal

pub returns : goal.returns
returns c =
    let both = said-too answer c.read_narrow.ensures in
    record { value = both.0; result_value = both.1 }
