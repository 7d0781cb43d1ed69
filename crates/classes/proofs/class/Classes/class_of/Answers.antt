use Rattle.paper_record.proofs.ClassTable.{class-at}
use native.Mathlib.Omega.{arith}
use Rattle.classes.proofs.class.Classes.class_of.Goals as goal

pub returns : goal.returns
returns c = rw c.args.self.now.same (class-at c.args.b (omega arith))
