use Prim.Native.Nat.{◌*◌, ◌<◌, ◌≤◌}
use mathlib.Core.Path.{refl}
use native.Mathlib.Omega.{arith}
use borrow.Author.Tests.{eq-eqb, ne_eqb, lt-ltb, le-ltb}
use Rattle.index_store.proofs.refusal.refusal_for.Goals as goal

pub returns-then-refusal-ne0 : goal.returns-then-refusal-ne0
returns-then-refusal-ne0 c = rw (ne_eqb _ _ c.if-refusal-ne0.true) refl

pub returns-then-numbers-needed : goal.returns-then-numbers-needed
returns-then-numbers-needed c =
    let a = c.args in
    let short : a.numbers < 5 * a.rows = omega (arith, c.if-numbers-needed.true) in
    rw (eq-eqb _ _ c.if-refusal-ne0.false, lt-ltb _ _ short) refl

pub returns : goal.returns
returns c =
    let a = c.args in
    let long : 5 * a.rows ≤ a.numbers = omega (arith, c.if-numbers-needed.false) in
    rw (eq-eqb _ _ c.if-refusal-ne0.false, le-ltb _ _ long) refl
