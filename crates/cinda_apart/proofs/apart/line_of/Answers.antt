use mathlib.Core.Path.{refl}
use Rattle.cinda_apart.proofs.Parts.{all-parts}
use Rattle.cinda_apart.proofs.apart.line_of.Goals as goal

pub returns : goal.returns
returns c =
    let half = c in
    all-parts half.args.line.now _
    (record {
      operation = refl;
      z = half.number_at-z.ensures;
      mass = half.mass_of-mass.ensures;
      isomer = refl;
      area = refl;
      block = half.number_at-block.ensures;
      sequence = half.number_at-sequence.ensures;
      work = refl;
      reader = refl;
      least = half.energy_at-least.ensures;
      greatest = half.energy_at-greatest.ensures;
      hierarchy = refl;
      kind = refl;
      year = half.year_of-year.ensures;
      month = half.month_of-month.ensures;
    })
