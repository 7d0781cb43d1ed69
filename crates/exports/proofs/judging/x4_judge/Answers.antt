use Rattle.exports.proofs.judging.x4_judge.Goals as goal

pub returns : goal.returns
returns c =
    record {
      value = rw (← c.judge-v.ensures) c.put_verdict.ensures.value;
      totals_after = rw (← c.judge-v.ensures) c.put_verdict.ensures.out_after;
    }
