-- A place goes by the number of its record. Assumes nothing.
use Prim.Native.Nat.{ℕ}
use mathlib.Core.Path.{◌≡◌, ap}
use Rattle.paper_record.specs.declared.types.RecordNo.{RecordNo}
use Rattle.paper_reasons.specs.declared.types.Facts.TheVariants.{Equal}

pub equal-at : {x y : RecordNo} (k : ℕ) → x ≡ y → Equal x k ≡ Equal y k
equal-at k e = ap (λ (z : RecordNo). Equal z k) e
