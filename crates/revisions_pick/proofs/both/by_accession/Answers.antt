use mathlib.Core.Path.{◌∙◌, refl, sym}
use Rattle.revisions_pick.proofs.both.by_accession.Goals as goal

pub returns-then-other_accession : goal.returns-then-other_accession
returns-then-other_accession c = rw (c.answer_of-answer.ensures, sym c.other_accession.ensures ∙ c.if-other_accession.true) refl

pub returns : goal.returns
returns c = rw (c.answer_of-answer-2.ensures, sym c.other_accession.ensures ∙ c.if-other_accession.false) refl
