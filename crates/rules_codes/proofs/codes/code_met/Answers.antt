use Rattle.laws.proofs.Members.{any_append}
use mathlib.Core.Path.{refl}
use Rattle.rules_codes.proofs.codes.code_met.Goals as goal

pub returns-then-code_in : goal.returns-then-code_in
returns-then-code_in c = rw (any_append, ← c.code_in.ensures, c.if-code_in.true) refl

pub returns-else-code_in : goal.returns-else-code_in
returns-else-code_in c =
    rw (any_append, ← c.code_in.ensures, c.if-code_in.false) c.code_in-else-code_in.ensures
