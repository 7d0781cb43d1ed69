-- The places of the definitions are the plain ones.
-- Assumes nothing.
use mathlib.Core.Path.{refl}
use Rattle.cinda_laws.specs.Places.{LayoutPlain}
use Rattle.cinda_laws.proofs.Lines.{lines-count}

pub layout-plain : LayoutPlain
layout-plain =
    record {
      column = λ l k. refl;
      columns = λ l k w. refl;
      energy = λ l k. refl;
      line = λ s i. refl;
      count = lines-count;
    }
