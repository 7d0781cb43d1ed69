use Prim.Native.Nat.{◌<◌}
use native.Mathlib.Omega.{arith}
use lib.ListN.{get_or}
use Rattle.number.proofs.Tables.{kind-below, next-right}
use Rattle.number.proofs.form.NumberTables.next_place.Goals as goal

pub overflow_cast-at-2 : goal.overflow_cast-at-2
overflow_cast-at-2 c =
    let args = c.args in
    let h : get_or args.self.now.kinds.now args.b 0 < 6 = rw args.self.now.kinds_right (kind-below args.b (omega arith)) in
    omega arith

pub overflow_add-at : goal.overflow_add-at
overflow_add-at c =
    let args = c.args in
    let h : get_or args.self.now.kinds.now args.b 0 < 6 = rw args.self.now.kinds_right (kind-below args.b (omega arith)) in
    omega arith

pub bounds-self-at : goal.bounds-self-at
bounds-self-at c =
    let args = c.args in
    let h : get_or args.self.now.kinds.now args.b 0 < 6 = rw args.self.now.kinds_right (kind-below args.b (omega arith)) in
    omega arith

pub returns : goal.returns
returns c =
    let args = c.args in
    λ t e. rw (args.self.now.kinds_right, args.self.now.nexts_right, e) (next-right t args.b (omega arith))
