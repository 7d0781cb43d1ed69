use Rattle.paper_record.specs.Fields.{fields_of}
use Rattle.files_roles.proofs.role.name_of.Goals as goal

pub returns : goal.returns
unfolding fields_of
returns c = rw (← c.field-f.ensures) c.identifier_of.ensures
