-- The facts come back from their three numbers.
-- Assumes nothing.
use mathlib.Core.Path.{◌≡◌, refl}
use Rattle.paper_reasons.specs.declared.types.Facts.{Facts}
use Rattle.paper_reasons.specs.declared.types.Facts.TheVariants.{Alone, Count, Range as Limits, Previous, Equal, Pointer, Expected}
use Rattle.exports_facts.specs.Facts.{facts_numbers, facts_in}

pub facts-back : (facts : Facts) → facts_in (facts_numbers facts) ≡ facts
unfolding facts_in
facts-back Alone = refl
facts-back (Count announced counted) = refl
facts-back (Limits least greatest) = refl
facts-back (Previous number) = refl
facts-back (Equal at column) = refl
facts-back (Pointer pointer) = refl
facts-back Expected = refl
