use Rattle.paper_cinda.specs.Rules.{rule71}
use borrow.Author.Tests.{eq-eqb, ne_eqb}
use lib.Dec.{eqb}
use lib.ListN.{get_or}
use mathlib.Core.Bool.{true, false}
use mathlib.Core.Path.{◌≡◌, refl}
use Rattle.cinda_rules.proofs.rules.rule71.Goals as goal

pub returns-then-line-eq10 : goal.returns-then-line-eq10
unfolding rule71
returns-then-line-eq10 c =
    let l = c.args.line.now in
    let e : eqb (get_or l 125 0) 10 ≡ true = eq-eqb _ _ c.if-line-eq10.true in
    rw e refl

pub returns : goal.returns
unfolding rule71
returns c =
    let l = c.args.line.now in
    let e : eqb (get_or l 125 0) 10 ≡ false = ne_eqb _ _ c.if-line-eq10.false in
    rw e refl
