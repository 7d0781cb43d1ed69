use mathlib.Core.Path.{ap}
use Rattle.paper_number.specs.declared.types.Reading.TheVariants.{Number}
use Rattle.number_reading.proofs.read.reading_of.Goals as goal

pub returns-in-Number : goal.returns-in-Number
returns-in-Number c = rw c.in-Number.is (ap Number c.value.ensures)
