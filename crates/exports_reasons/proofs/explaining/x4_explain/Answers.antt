use Rattle.paper_reasons.specs.Reason.{explain}
use Rattle.exports_reasons.proofs.explaining.x4_explain.Goals as goal

pub returns : goal.returns
unfolding explain
returns c =
    record {
      value = rw c.explain-e.ensures at c.put_explained.ensures.value;
      totals_after = rw c.explain-e.ensures at c.put_explained.ensures.totals_after;
      facts_after = rw c.explain-e.ensures at c.put_explained.ensures.facts_after;
      characters_after = rw c.explain-e.ensures at c.put_explained.ensures.characters_after;
    }
