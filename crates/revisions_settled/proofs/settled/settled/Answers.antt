use mathlib.Core.Bool.{false}
use lib.Dec.{eqb}
use mathlib.Core.Path.{◌≡◌, ◌∙◌, refl}
use Rattle.revisions_settled.proofs.MergedBy.{blanks-put}
use borrow.Author.Tests.{ne_eqb, eq-eqb}
use Rattle.revisions_settled.specs.Settled.{settled_by, kept_by}
use Rattle.revisions_settled.proofs.settled.settled.Goals as goal

pub returns-then-v-ne0 : goal.returns-then-v-ne0
unfolding settled_by kept_by
returns-then-v-ne0 c =
    let at = c in
    let n = at.args.n in
    let e : eqb at.args.v.refusal 0 ≡ false = ne_eqb _ _ c.if-v-ne0.true in
    record {
      value = rw (e, c.beside_verdict-answer.ensures) refl;
      out_after = rw e (c.put_blanks.ensures ∙ blanks-put at.args.out.now n);
    }

pub returns : goal.returns
unfolding settled_by kept_by
returns c =
    let e = eq-eqb _ _ c.if-v-ne0.false in
    record {
      value = rw (e, c.answer_of-answer.ensures) refl;
      out_after = rw e refl;
    }
