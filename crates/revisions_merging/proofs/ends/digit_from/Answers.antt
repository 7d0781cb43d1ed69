use borrow.Author.Tests.{le-leb, lt-leb}
use mathlib.Core.Path.{◌≡◌, refl}
use mathlib.Core.Bool.{true, false}
use lib.Dec.{leb}
use Rattle.revisions_merging.proofs.ends.digit_from.Goals as goal

pub returns-then-least-n : goal.returns-then-least-n
returns-then-least-n c =
    let a = c.args in
    let e : leb a.least a.n ≡ true = le-leb a.least a.n c.if-least-n.true in
    rw e refl

pub returns : goal.returns
returns c =
    let a = c.args in
    let e : leb a.least a.n ≡ false = lt-leb a.least a.n c.if-least-n.false in
    rw e refl
