use Rattle.paper_record.proofs.Codes.{digits-few, digit_at, saying-past, saying-next, saying-done}
use Prim.Native.Nat.{◌-◌}
use Rattle.paper_record.proofs.Codes.{saying-start}
use mathlib.Core.Path.{refl}
use native.Mathlib.Omega.{arith}
use borrow.Author.Rules.{rules}
use Rattle.record_flags.proofs.flags.says.Goals as goal

pub loop-j-init : goal.loop-j-init
loop-j-init c = (c.requires.0, c.requires.1.0, c.requires.1.1, saying-start c.args.x.now c.args.m c.args.n)

pub overflow_add-b : goal.overflow_add-b
overflow_add-b c = let few = digits-few c.args.x.now in let l = c.loop-j.invariant.2 in search rules

pub bounds-x-j : goal.bounds-x-j
bounds-x-j c =
    let few = digits-few c.args.x.now in
    let l = c.loop-j.invariant.2 in let t = c.loop-j.invariant.0.long in search rules

pub overflow_sub-b : goal.overflow_sub-b
overflow_sub-b c =
    let l = c.loop-j.invariant.2 in
    let d = digit_at c.args.x.now c.loop-j.j (omega arith) in search rules

pub overflow_mul-next : goal.overflow_mul-next
overflow_mul-next c =
    let f = c.loop-j.invariant.1.few in let s = c.loop-j.invariant.3.small in search rules

pub overflow_add-next : goal.overflow_add-next
overflow_add-next c =
    let f = c.loop-j.invariant.1.few in
    let s = c.loop-j.invariant.3.small in
    let l = c.loop-j.invariant.2 in
    let d = digit_at c.args.x.now c.loop-j.j (omega arith) in search rules

pub returns-then-n-next : goal.returns-then-n-next
returns-then-n-next c = saying-past c.loop-j.invariant.3 (omega arith) (rw c.from-d.ensures at c.if-n-next.true)

pub loop-j-preserved : goal.loop-j-preserved
loop-j-preserved c = (
  c.loop-j.invariant.0,
  c.loop-j.invariant.1,
  c.loop-j.invariant.2,
  rw c.from-d.ensures (saying-next c.loop-j.invariant.3 (omega arith) (rw c.from-d.ensures at c.if-n-next.false)),
)

pub returns : goal.returns
returns c = let e = saying-done c.loop-j.invariant.3 (omega arith) in rw e refl
