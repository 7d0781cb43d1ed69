use Rattle.exports_files.proofs.transmissions.x4_judge_file.Goals as goal

pub returns : goal.returns
returns c =
    record {
      value = rw (← c.judge_file-v.ensures) c.put_verdict.ensures.value;
      totals_after = rw (← c.judge_file-v.ensures) c.put_verdict.ensures.out_after;
    }
