use mathlib.Core.Bool.{false}
use lib.Dec.{eqb}
use native.Mathlib.Omega.{arith}
use lib.ListN.{length}
use lib.Seq.{take_all}
use Rattle.paper_record.proofs.ReadColumns.{columns-read}
use borrow.Author.Tests.{ne_eqb}
use mathlib.Core.Path.{◌≡◌, refl, ◌∙◌}
use Rattle.exports_parts.specs.Questions.{keyword_place}
use Rattle.exports_parts.proofs.parts.keyword_place.Goals as goal

pub returns-then-keyword-ne10 : goal.returns-then-keyword-ne10
unfolding keyword_place
returns-then-keyword-ne10 c =
    let e : eqb (length c.args.keyword.now) 10 ≡ false = ne_eqb _ _ c.if-keyword-ne10.true in
    rw e refl

pub returns : goal.returns
unfolding keyword_place
returns c =
    let d = c in
    let k = d.args.keyword.now in
    let e : length k ≡ 10 = d.if-keyword-ne10.false in
    rw e (columns-read k 0 10 (omega arith) ∙ take_all 10 k (omega arith))
