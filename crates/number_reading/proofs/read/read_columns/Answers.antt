use mathlib.Core.Path.{refl, ap, ◌∙◌}
use Rattle.paper_number.specs.Digits.{field_read}
use Rattle.paper_number.specs.Spelt.{reading_of, digits_spelt}
use Rattle.paper_number.proofs.SpeltReading.{spelt-says, spelt-digits}
use Rattle.number_reading.proofs.read.read_columns.Goals as goal

pub reading_of-reading-requires : goal.reading_of-reading-requires
reading_of-reading-requires c = c.spelt_in-x.ensures.1

pub digits_spelt-digits-requires : goal.digits_spelt-digits-requires
digits_spelt-digits-requires c = c.spelt_in-x.ensures.1

pub returns : goal.returns
unfolding field_read
returns c =
    let x = c.spelt_in-x.ensures.0 in
    let reading = c.reading_of-reading.ensures ∙ ap reading_of x ∙ spelt-says _ in
    let digits = c.digits_spelt-digits.ensures ∙ ap digits_spelt x ∙ spelt-digits _ in
    rw (reading, digits) refl
