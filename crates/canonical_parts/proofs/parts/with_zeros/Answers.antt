use native.Mathlib.Omega.{arith}
use native.Mathlib.Nat.{mul-one}
use mathlib.Core.Path.{◌≡◌, refl, sym}
use Rattle.canonical_parts.proofs.parts.with_zeros.Goals as goal

pub returns-in-0 : goal.returns-in-0
returns-in-0 c = rw c.in-0.is (sym (mul-one c.args.c))

pub returns-in-1 : goal.returns-in-1
returns-in-1 c = rw c.in-1.is refl

pub overflow_mul-result : goal.overflow_mul-result
overflow_mul-result c = omega (arith, rw c.in-1.is at c.requires.1)

pub overflow_mul-result-in_default : goal.overflow_mul-result-in_default
overflow_mul-result-in_default c =
    let d = c.in_default in
    let e : c.args.zeros ≡ 2 = omega arith in
    omega (arith, rw e at c.requires.1)

pub returns-in_default : goal.returns-in_default
returns-in_default c = let d = c.in_default in let e : c.args.zeros ≡ 2 = omega arith in rw e refl
