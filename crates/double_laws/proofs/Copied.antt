-- The copy gives the same doubles and decimals.
-- Assumes nothing.
use mathlib.Core.Path.{ap}
use Rattle.demand3.proofs.Values.{same_values}
use Rattle.paper_double.specs.Double.{doubled}
use Rattle.paper_double_asking.specs.Ask.{double_asked}
use Rattle.double_laws.specs.Copied.{AlikeDouble, DoubleCopied}

pub double-copied : DoubleCopied
unfolding double_asked
double-copied s accepted n section line column =
    let same = same_values s accepted n section line column in
    record { numbers = same.numbers; values = ap doubled same.values }
