use Rattle.files_reasons.proofs.Answers.{ending-said}
use Rattle.paper_record.specs.System.{number_of}
use mathlib.Core.Path.{◌∙◌, ap}
use native.Mathlib.Nat.{add-sub_cancel_left}
use Rattle.files_reasons.proofs.explain_file.reason_at_ending.Goals as goal

pub returns : goal.returns
returns c = ending-said _ _ _ _ _ _ c.stating.ensures (rw add-sub_cancel_left at c.fields-fs.ensures) (c.number_of-announced.ensures ∙ ap number_of c.count_of.ensures.value) c.pass_entries-p.ensures.value
