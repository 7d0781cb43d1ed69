-- Between the code and the definitions; not read against the paper.
use Rattle.std.specs.Prelude.{ℕ, ◌+◌, ◌<◌, ◌≡◌}
use Rattle.paper_record.specs.declared.types.RecordNo.{RecordNo}
use Rattle.paper_reasons.specs.declared.types.Facts.{Facts}
use Rattle.paper_reasons.specs.declared.types.Facts.TheVariants.{Equal}

-- a place that is named has a number of 32 bits also behind n records
pub record Raisable (n : ℕ) (facts : Facts) : Type 0 where
  pub room : (at : RecordNo) (column : ℕ) → facts ≡ Equal at column → n + at.0 < 4294967296
