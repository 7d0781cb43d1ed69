-- What has bits to write: of the three, a double must be a number.
use Rattle.std.specs.Prelude.{Bool, true, not}
use Rattle.std.specs.Float.Ieee.{is_nan}
use Rattle.paper_double.specs.declared.types.Simple.{Simple}
use Rattle.paper_double.specs.declared.types.Simple.TheVariants.{Blank, Double, Outside}

abbrev pub is_number : Simple → Bool
is_number Blank = true
is_number (Double x) = not (is_nan x)
is_number (Outside d) = true
