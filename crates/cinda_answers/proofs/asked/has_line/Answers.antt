use mathlib.Core.Path.{refl}
use native.Mathlib.Omega.{arith}
use borrow.Author.Tests.{le-leb, lt-leb}
use Rattle.cinda_answers.proofs.asked.has_line.Goals as goal

pub returns-then-number-lt1 : goal.returns-then-number-lt1
returns-then-number-lt1 c = rw (lt-leb 1 c.args.n.0 (omega arith)) refl

pub returns : goal.returns
returns c = rw (le-leb 1 c.args.n.0 (omega arith)) refl
