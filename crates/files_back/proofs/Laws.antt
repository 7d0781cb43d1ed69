-- No answer about a file is lost: it comes back from the word and the lent array, whatever stood in the array before.
-- Assumes nothing.
use Prim.Native.Nat.{ℕ, ◌^◌, ◌<◌}
use mathlib.Core.Path.{◌≡◌}
use mathlib.Core.List.{List}
use native.Mathlib.Omega.{arith}
use lib.Dec.{ltb}
use lib.ListN.{length}
use Rattle.laws.proofs.EitherWay.{either_way}
use Rattle.paper_entry.specs.Answer.{is_refused}
use Rattle.exports_back.proofs.Laws.{word_back, beside-fits, fitting-back}
use Rattle.paper_files.specs.File.{judge_file}
use Rattle.files_copy_laws.specs.CopyFile.{copied_file}
use Rattle.paper_reasons.specs.File.{explain_file}
use Rattle.exports_facts.proofs.FactsBack.{facts-back}
use Rattle.files_back.specs.Claims.{FileBack, FileCopiedBack, FileExplainedBack}
use Rattle.files_back.proofs.Sizes.{file-fits}

-- the verdict on a file comes back
pub file-back : FileBack
file-back s before = fitting-back before (file-fits s)

-- and with its reason
pub file-explained-back : FileExplainedBack
unfolding explain_file
file-explained-back s before =
    λ k. record {
      verdict = file-back s before k;
      reason = record {
        facts = facts-back (explain_file s).reason.facts k;
        characters = (explain_file s).reason.characters;
      };
    }

-- and what the copy answers
pub file-copied-back : FileCopiedBack
unfolding copied_file
file-copied-back s room =
    word_back _
    (beside-fits (judge_file s) (file-fits s) _
    (either_way (λ n. n < 2 ^ 8) (is_refused (judge_file s)) 31 _ (omega arith)
    (either_way (λ n. n < 2 ^ 8) (ltb room (length s)) 37 0 (omega arith) (omega arith))))
