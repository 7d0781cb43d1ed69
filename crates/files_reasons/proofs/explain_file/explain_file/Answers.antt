use Rattle.files_reasons.proofs.Answers.{file-explained}
use Rattle.files_reasons.proofs.explain_file.explain_file.Goals as goal

pub returns : goal.returns
returns c = file-explained _ _ _ c.judge_file-verdict.ensures c.file_reason-reason.ensures
