use mathlib.Core.Path.{◌∙◌, sym}
use borrow.Author.Tests.{ltb-false}
use Rattle.revisions_pick.proofs.BothBy.{both-accepted}
use Rattle.revisions_settled.proofs.MergedBy.{merged-refused, kept-refused, merged-short, kept-short, merged-settled, kept-settled}
use Rattle.revisions_merge.proofs.merge.merge.Goals as goal

pub returns-then-answer-ne0 : goal.returns-then-answer-ne0
returns-then-answer-ne0 c =
    let at = c in
    let held = at.args.held.now in
    let revision = at.args.revision.now in
    let both = c.both_refusal-both.ensures in
    let given = c.if-answer-ne0.true in
    record {
      value = c.no_merge.ensures ∙ merged-refused held revision both given _;
      out_after = kept-refused held revision both given at.args.out.now;
    }

pub returns-then-short : goal.returns-then-short
returns-then-short c =
    let at = c in
    let held = at.args.held.now in
    let revision = at.args.revision.now in
    let both = c.both_refusal-both.ensures in
    let none = c.if-answer-ne0.false in
    let short = sym c.no_room-short.ensures ∙ c.if-short.true in
    record {
      value = rw (c.no_merge-then-short.ensures, c.answer_of-refused.ensures) (merged-short held revision both none _ short);
      out_after = kept-short held revision both none at.args.out.now short;
    }

pub put_merge-requires : goal.put_merge-requires
put_merge-requires c =
    let both = c.both_refusal-both.ensures in
    let accepted = both-accepted _ _ (rw both at c.if-answer-ne0.false) in
    let enough = sym c.no_room-short.ensures ∙ c.if-short.false in
    (accepted.0, accepted.1, ltb-false _ _ enough)

pub returns : goal.returns
returns c =
    let at = c in
    let held = at.args.held.now in
    let revision = at.args.revision.now in
    let both = c.both_refusal-both.ensures in
    let none = c.if-answer-ne0.false in
    let enough = sym c.no_room-short.ensures ∙ c.if-short.false in
    let put = c.put_merge in
    record {
      value = merged-settled held revision both none _ enough put.ensures.value;
      out_after = kept-settled held revision both none at.args.out.now enough put.ensures.out_after;
    }
