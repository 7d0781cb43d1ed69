use mathlib.Core.Path.{◌∙◌, sym}
use Rattle.paper_canonical.proofs.WriteBack.{canonical-read}
use Rattle.canonical_fields.proofs.StoredBack.{stored_there}
use Rattle.canonical_fields.proofs.fields.put_canonical.Goals as goal

pub returns-in-Blank : goal.returns-in-Blank
returns-in-Blank c =
    let read = c.read_narrow-r in
    let says = sym read.ensures ∙ c.in-Blank.is in
    rw (canonical-read _ _ says) c.put_plain.ensures

pub returns-in-Number : goal.returns-in-Number
returns-in-Number c =
    let at = c in
    let field = at.args.field.now in
    let read = c.read_narrow-r in
    let says = sym read.ensures ∙ c.in-Number.is in
    rw (← stored_there at.args.out.now field at.args.at _ says at.requires.1)
    c.put_number.ensures

pub returns-in-Refused : goal.returns-in-Refused
returns-in-Refused c =
    let read = c.read_narrow-r in
    let says = sym read.ensures ∙ c.in-Refused.is in
    rw (canonical-read _ _ says) c.put_plain-in-Refused.ensures
