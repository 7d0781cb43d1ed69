use Rattle.reasons.proofs.AskedFor.{asked_of, explained-alone, explained-there}
use mathlib.Core.Path.{◌∙◌, sym}
use borrow.Author.Rules.{rules}
use Rattle.reasons.proofs.explain.explain.Goals as goal

pub returns-then-not-has_reason : goal.returns-then-not-has_reason
returns-then-not-has_reason c =
    let none = sym c.has_reason.ensures ∙ c.if-not-has_reason.true in
    explained-alone _ c.judge-verdict.result _ c.judge-verdict.ensures none
    c.stating-alone.ensures

pub overflow_sub-i : goal.overflow_sub-i
overflow_sub-i c =
    let some = sym c.has_reason.ensures ∙ c.if-not-has_reason.false in
    let a = (asked_of _ _ c.judge-verdict.ensures some).some in
    search rules

pub reason_in-reason-requires : goal.reason_in-reason-requires
reason_in-reason-requires c =
    let some = sym c.has_reason.ensures ∙ c.if-not-has_reason.false in
    (asked_of _ _ c.judge-verdict.ensures some).asked

pub returns : goal.returns
returns c =
    let some = sym c.has_reason.ensures ∙ c.if-not-has_reason.false in
    explained-there _ c.judge-verdict.result _ c.judge-verdict.ensures some c.reason_in-reason.ensures
