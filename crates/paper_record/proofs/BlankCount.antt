-- Blank columns are no count: the number taken from them is 0.
-- Assumes nothing.
use mathlib.Core.Path.{◌≡◌, refl}
use lib.ListN.{replicate}
use Rattle.laws.specs.Search.{first}
use Rattle.paper_record.specs.System.{integer_of, count_of, number_of}

pub blank-count : number_of (count_of (replicate 11 32)) ≡ 0
unfolding integer_of first
blank-count = refl
