use Prim.Native.Nat.{◌+◌, ◌-◌}
use mathlib.Core.Path.{◌≡◌}
use native.Mathlib.Omega.{arith}
use mir.Syntax.{w32}
use mir.ValLaws.{to_z-of_z}
use Rattle.canonical_fields.proofs.StoredBack.{lent-there}
use borrow.Author.Rules.{rules}
use Rattle.canonical_fields.proofs.fields.put_number.Goals as goal

pub returns : goal.returns
returns c =
    let at = c in
    let v = at.args.v in
    let done = c.write_columns in
    let p = to_z-of_z w32 v.power (search rules) in
    let k : at.args.at + at.args.n - at.args.at ≡ at.args.n = omega arith in
    lent-there at.args.out.now _ _ at.args.at at.args.n at.requires.1
    (rw (p, k) at done.ensures.out_after) done.auto.out
