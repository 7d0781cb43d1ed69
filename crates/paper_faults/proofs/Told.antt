-- Rules one behind the other: a rule that finds something ends them, and one that finds nothing leads on.
use Prim.Native.Nat.{ℕ}
use mathlib.Core.Path.{◌≡◌, refl}
use mathlib.Core.Bool.{Bool, true, false, cond}
use Rattle.std.specs.Prelude.{eqb, Ok, Err}
use native.Mathlib.Omega.{arith}
use Rattle.paper_faults.specs.declared.types.Fault.{Fault}
use Rattle.paper_faults.specs.Fault.{Checked, faultless, fault_at, or_else}

pub leads-on : (n k : ℕ) (u : Unit {0}) (rest : Checked) → or_else n k faultless ≡ Ok u → or_else n k rest ≡ rest
leads-on n k u rest e = by-test (eqb k 0) e
  where
    by-test : (b : Bool) → cond b faultless (fault_at n k) ≡ Ok u → cond b rest (fault_at n k) ≡ rest
    by-test true h = refl
    by-test false h = let z : ◌≡◌ {A = ℕ} 0 1 = cc in absurd (omega arith)

pub ends-here : (n k : ℕ) (fault : Fault) (rest : Checked) → or_else n k faultless ≡ Err fault → or_else n k rest ≡ Err fault
ends-here n k fault rest e = by-test (eqb k 0) e
  where
    by-test : (b : Bool) → cond b faultless (fault_at n k) ≡ Err fault → cond b rest (fault_at n k) ≡ Err fault
    by-test true h = let z : ◌≡◌ {A = ℕ} 0 1 = cc in absurd (omega arith)
    by-test false h = h
