use mathlib.Core.Path.{refl}
use native.Mathlib.Omega.{arith}
use Rattle.paper_number.proofs.Count.{significant-is}
use Rattle.number_digits.proofs.digits.few_digits.Goals as goal

pub returns-then-n-eq0 : goal.returns-then-n-eq0
returns-then-n-eq0 c = rw c.if-n-eq0.true refl

pub returns-then-n-lt10 : goal.returns-then-n-lt10
returns-then-n-lt10 c = significant-is 0 {v = c.args.n} (omega arith) (omega arith)

pub returns-then-n-lt100 : goal.returns-then-n-lt100
returns-then-n-lt100 c = significant-is 1 {v = c.args.n} (omega arith) (omega arith)

pub returns-then-n-lt1000 : goal.returns-then-n-lt1000
returns-then-n-lt1000 c = significant-is 2 {v = c.args.n} (omega arith) (omega arith)

pub returns-then-n-lt10000 : goal.returns-then-n-lt10000
returns-then-n-lt10000 c = significant-is 3 {v = c.args.n} (omega arith) (omega arith)

pub returns : goal.returns
returns c = significant-is 4 {v = c.args.n} (omega arith) (omega arith)
