use Rattle.copy_fields.proofs.fields.put_field.Goals as goal

pub returns-then-number : goal.returns-then-number
returns-then-number c =
    let long = c.well_formed.1.1.1.0.1.0.1 in
    rw c.if-number.true (rw long at c.put_canonical.ensures)

pub returns-else-number : goal.returns-else-number
returns-else-number c =
    let long = c.well_formed.1.1.1.0.1.0.1 in
    rw c.if-number.false (rw long at c.put_plain.ensures)
