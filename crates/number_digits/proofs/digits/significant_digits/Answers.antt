use native.Mathlib.Omega.{arith}
use Rattle.paper_number.proofs.Count.{significant-is}
use Rattle.number_digits.proofs.digits.significant_digits.Goals as goal

pub returns-then-n-lt100000 : goal.returns-then-n-lt100000
returns-then-n-lt100000 c = c.few_digits.ensures

pub returns-then-n-lt1000000 : goal.returns-then-n-lt1000000
returns-then-n-lt1000000 c = significant-is 5 {v = c.args.n} (omega arith) (omega arith)

pub returns-then-n-lt10000000 : goal.returns-then-n-lt10000000
returns-then-n-lt10000000 c = significant-is 6 {v = c.args.n} (omega arith) (omega arith)

pub returns-then-n-lt100000000 : goal.returns-then-n-lt100000000
returns-then-n-lt100000000 c = significant-is 7 {v = c.args.n} (omega arith) (omega arith)

pub returns-then-n-lt1000000000 : goal.returns-then-n-lt1000000000
returns-then-n-lt1000000000 c = significant-is 8 {v = c.args.n} (omega arith) (omega arith)

pub returns-then-n-lt10000000000 : goal.returns-then-n-lt10000000000
returns-then-n-lt10000000000 c = significant-is 9 {v = c.args.n} (omega arith) (omega arith)

pub returns : goal.returns
returns c = significant-is 10 {v = c.args.n} (omega arith) (omega arith)
