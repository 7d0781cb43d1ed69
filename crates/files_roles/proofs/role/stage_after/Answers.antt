use lib.Dec.{eqb}
use mathlib.Core.Bool.{true, false}
use Rattle.paper_record.specs.Identifier.{TRANS}
use borrow.Author.Tests.{eq-eqb, ne_eqb}
use mathlib.Core.Path.{◌≡◌, refl}
use Rattle.files_roles.proofs.role.stage_after.Goals as goal

pub returns-then-role-eq-TRANS : goal.returns-then-role-eq-TRANS
returns-then-role-eq-TRANS c =
    let trans : eqb c.args.role TRANS ≡ true = eq-eqb _ _ c.if-role-eq-TRANS.true in
    rw trans refl

pub returns : goal.returns
returns c =
    let other : eqb c.args.role TRANS ≡ false = ne_eqb _ _ c.if-role-eq-TRANS.false in
    rw other refl
