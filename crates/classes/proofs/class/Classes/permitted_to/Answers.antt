use Rattle.paper_record.specs.Class.{permitted_in, permitted_to}
use Rattle.classes.proofs.class.Classes.permitted_to.Goals as goal

pub returns : goal.returns
unfolding permitted_to permitted_in
returns c = c.permitted_in.ensures
