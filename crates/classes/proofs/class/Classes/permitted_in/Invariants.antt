use Rattle.laws.proofs.Search.{Scan}
use Rattle.paper_record.specs.Class.{not_permitted, permitted_in}
use Rattle.classes.proofs.class.Classes.permitted_in.Given as goal

abbrev pub invariant-loop-i : goal.invariant-loop-i
invariant-loop-i l = Scan (not_permitted l.part) (permitted_in l.w l.part) l.i l.w
