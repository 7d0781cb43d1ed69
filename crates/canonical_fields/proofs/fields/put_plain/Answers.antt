use lib.ListN.{length, length-set}
use lib.Seq.{paste-suc, paste-zero}
use mathlib.Core.Path.{◌≡◌, refl}
use native.Mathlib.Numerals.{add-one}
use native.Mathlib.Omega.{arith}
use borrow.Author.Rules.{rules}
use Rattle.canonical_fields.proofs.fields.put_plain.Goals as goal

pub loop-i-init : goal.loop-i-init
loop-i-init c =
    let a = c.args in
    (paste-zero a.out.now a.at a.field.now, search rules, refl)

pub loop-i-preserved : goal.loop-i-preserved
loop-i-preserved c =
    let loop = c.loop-i in
    let a = c.args in (
      rw (loop.invariant.0, add-one)
          (paste-suc a.out.now a.at a.field.now loop.i 0 (omega arith) (omega arith)),
      omega arith,
      simp length-set loop.invariant.2,
    )

pub returns : goal.returns
returns c =
    let a = c.args in
    let e : ◌≡◌ c.loop-i.i (length a.field.now) = omega arith in
    rw e at c.loop-i.invariant.0
