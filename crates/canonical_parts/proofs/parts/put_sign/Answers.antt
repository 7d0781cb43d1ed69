use Rattle.canonical_parts.proofs.Puts.{put-nothing}
use mathlib.Core.Path.{sym}
use native.Mathlib.Omega.{arith}
use Rattle.canonical_parts.proofs.parts.put_sign.Goals as goal

pub put_byte-requires : goal.put_byte-requires
put_byte-requires c = let h = rw c.if-negative.true at c.requires in omega arith

pub returns-then-negative : goal.returns-then-negative
returns-then-negative c = rw c.if-negative.true c.put_byte.ensures

pub returns-else-negative : goal.returns-else-negative
returns-else-negative c = rw c.if-negative.false (sym (put-nothing c.args.out.now c.args.at))
