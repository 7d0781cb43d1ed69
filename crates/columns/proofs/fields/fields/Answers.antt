use mathlib.Core.Path.{refl}
use Rattle.paper_record.specs.Fields.{fields_of}
use Rattle.columns.proofs.fields.fields.Goals as goal

pub returns : goal.returns
unfolding fields_of
returns c =
    rw (
      c.field.ensures,
      c.field-2.ensures,
      c.field-3.ensures,
      c.field-4.ensures,
      c.field-5.ensures,
      c.field-6.ensures,
    )
    refl
